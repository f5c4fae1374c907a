-- Lists that begin with others.
use Rattle.std.proofs.Common.{◌≡◌, ◌∙◌, ℕ, List, [], ◌++◌, sym, ap, append_assoc, append-nil}
use Rattle.mj_gfile.specs.Begins.{HasFront}

pub begins_same : (xs ys : List ℕ) → ys ≡ xs → HasFront xs ys
begins_same xs ys e = record { rest = []; is = e ∙ sym (append-nil xs) }

pub begins_more : (xs ys zs : List ℕ) → zs ≡ xs ++ ys → HasFront xs zs
begins_more xs ys zs e = record { rest = ys; is = e }

pub begins_trans : {xs ys zs : List ℕ} → HasFront xs ys → HasFront ys zs → HasFront xs zs
begins_trans {xs} p q = record { rest = p.rest ++ q.rest; is = q.is ∙ ap (λ l. l ++ q.rest) p.is ∙ append_assoc xs p.rest q.rest }
