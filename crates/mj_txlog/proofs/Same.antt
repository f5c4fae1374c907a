-- Lists that are the same are so at each place.
use Rattle.std.proofs.Common.{◌≡◌, ℕ, ◌+◌, ◌<◌, List, length, get_or, take, sym, ap, ◌∙◌}
use Rattle.std.proofs.lemmas.List.{take_more_same, get_or_default}

pub same_at : {X : Type 0} (xs ys : List X) (i : ℕ) (a b : X) → i < length ys → a ≡ get_or xs i a → b ≡ get_or ys i b → xs ≡ ys → a ≡ b
same_at xs ys i a b m p q e = p ∙ ap (λ zs. get_or zs i a) e ∙ get_or_default ys i a b m ∙ sym q

pub same_next : {X : Type 0} (xs ys : List X) (i : ℕ) (a b : X) → i < length xs → i < length ys → a ≡ get_or xs i a → b ≡ get_or ys i b → a ≡ b → take i xs ≡ take i ys
    → take (i + 1) xs ≡ take (i + 1) ys
same_next xs ys i a b l m p q e front = take_more_same xs ys i a l m front (sym p ∙ e ∙ q ∙ get_or_default ys i b a m)
