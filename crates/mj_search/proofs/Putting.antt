-- What is put to the end of bytes, piece by piece.
use Rattle.std.proofs.Common.{◌≡◌, List, ℕ, ◌++◌, ap, ◌∙◌, append_assoc}

pub both : (old front end a b : List ℕ) → a ≡ old ++ front → b ≡ a ++ end → b ≡ old ++ (front ++ end)
both old front end a b e f = f ∙ ap (λ x. x ++ end) e ∙ append_assoc old front end
