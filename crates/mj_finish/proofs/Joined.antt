-- What is put to the end of bytes, piece by piece.
use Rattle.std.proofs.Common.{◌≡◌, ℕ, List, ◌++◌, ap, ◌∙◌, append_assoc, sym}

pub joined : (old words number at place end a b c d : List ℕ) → a ≡ old ++ (words ++ number) → b ≡ a ++ at → c ≡ b ++ place → d ≡ c ++ end
    → d ≡ old ++ ((((words ++ number) ++ at) ++ place) ++ end)
joined old words number at place end a b c d e f g h =
    h ∙ ap (λ x. x ++ end) (g ∙ ap (λ x. x ++ place) (f ∙ ap (λ x. x ++ at) e))
    ∙ ap (λ x. (x ++ place) ++ end) (append_assoc old (words ++ number) at)
    ∙ ap (λ x. x ++ end) (append_assoc old ((words ++ number) ++ at) place)
    ∙ append_assoc old (((words ++ number) ++ at) ++ place) end

pub ended : (old words place end a b c : List ℕ) → a ≡ old ++ words → b ≡ a ++ place → c ≡ b ++ end → c ≡ old ++ ((words ++ place) ++ end)
ended old words place end a b c e f g =
    g ∙ ap (λ x. x ++ end) (f ∙ ap (λ x. x ++ place) e ∙ append_assoc old words place) ∙ append_assoc old (words ++ place) end

pub both : (old front end a b : List ℕ) → a ≡ old ++ front → b ≡ a ++ end → b ≡ old ++ (front ++ end)
both old front end a b e f = f ∙ ap (λ x. x ++ end) e ∙ append_assoc old front end

pub both_ended : (old front words end a b : List ℕ) → a ≡ old ++ front → b ≡ a ++ (words ++ end) → b ≡ old ++ ((front ++ words) ++ end)
both_ended old front words end a b e f = both old front (words ++ end) a b e f ∙ ap (λ x. old ++ x) (sym (append_assoc front words end))
