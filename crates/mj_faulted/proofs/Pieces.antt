-- Pieces that are put one behind the other.
use Rattle.std.proofs.Common.{◌≡◌, ℕ, List, ◌++◌, Result, Ok, Err, OnOk, ap, ◌∙◌, append_assoc}

pub three_put : {A E : Type 0} (r : Result A E) (old a b c one two new : List ℕ) → one ≡ old ++ a → two ≡ one ++ b → OnOk r (new ≡ two ++ c)
    → OnOk r (new ≡ old ++ (a ++ (b ++ c)))
three_put (Err refused) old a b c one two new h k l = tt
three_put (Ok done) old a b c one two new h k l =
    l ∙ ap (λ (t : List ℕ). t ++ c) (k ∙ ap (λ (t : List ℕ). t ++ b) h) ∙ append_assoc (old ++ a) b c ∙ append_assoc old a (b ++ c)

pub four_put : {A E : Type 0} (r : Result A E) (old a b c d one two three new : List ℕ) → one ≡ old ++ a → two ≡ one ++ b → three ≡ two ++ c
    → OnOk r (new ≡ three ++ d) → OnOk r (new ≡ old ++ (a ++ (b ++ (c ++ d))))
four_put (Err refused) old a b c d one two three new h k l m = tt
four_put (Ok done) old a b c d one two three new h k l m =
    m ∙ ap (λ (t : List ℕ). t ++ d) (l ∙ ap (λ (t : List ℕ). t ++ c) (k ∙ ap (λ (t : List ℕ). t ++ b) h))
    ∙ append_assoc ((old ++ a) ++ b) c d ∙ append_assoc (old ++ a) b (c ++ d) ∙ append_assoc old a (b ++ (c ++ d))
