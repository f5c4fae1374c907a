-- Bytes that are put to the end, one piece behind the other.
use Rattle.std.proofs.Common.{◌≡◌, ℕ, List, ◌++◌, Result, Ok, Err, OnOk, ap, ◌∙◌, append_assoc}

pub put_on : (start mid part new piece : List ℕ) → mid ≡ start ++ part → new ≡ mid ++ piece → new ≡ start ++ (part ++ piece)
put_on start mid part new piece h k = k ∙ ap (λ (xs : List ℕ). xs ++ piece) h ∙ append_assoc start part piece

-- the last piece
pub put_last : {A E : Type 0} (r : Result A E) (start mid part new piece whole : List ℕ) → mid ≡ start ++ part → part ++ piece ≡ whole
    → OnOk r (new ≡ mid ++ piece) → OnOk r (new ≡ start ++ whole)
put_last (Ok done) start mid part new piece whole h w k = put_on start mid part new piece h k ∙ ap (λ (xs : List ℕ). start ++ xs) w
put_last (Err refused) start mid part new piece whole h w k = tt
