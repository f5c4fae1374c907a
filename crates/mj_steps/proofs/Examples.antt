-- Files of steps, on rows.
use Rattle.std.proofs.Common.{◌≡◌, ℕ, List, [], ◌∷◌, ◌++◌, refl, ap, ◌∙◌, arith, codes, decimal, append-nil}
use Rattle.std.proofs.lemmas.Fmt.{decimal_digit, decimal_step}
use Rattle.mj_steps.specs.declared.step.Way.TheVariants.{Go, Late}
use Rattle.mj_steps.specs.Steps.{lines_of, line_of}

-- two lines, of which the last lacks its end
lines_of_two : lines_of (codes "1" ++ 10 ∷ codes "12 late") ≡ codes "1" ∷ codes "12 late" ∷ []
lines_of_two = refl

-- the last line's end begins no line
lines_of_ended : lines_of (codes "7" ++ 10 ∷ []) ≡ codes "7" ∷ []
lines_of_ended = refl

-- a line without bytes is one
lines_with_empty : lines_of (10 ∷ 10 ∷ codes "1") ≡ [] ∷ [] ∷ codes "1" ∷ []
lines_with_empty = refl

-- no bytes are no line
no_lines : lines_of [] ≡ []
no_lines = refl

-- the numbers of jobs are in decimal
twelve : decimal 12 ≡ codes "12"
twelve = decimal_step 12 (omega arith) (omega arith) ∙ ap (λ (x : List ℕ). x ++ 50 ∷ []) (decimal_digit 1 (omega arith))

goes : line_of (record { job = 12; way = Go }) ≡ codes "12"
goes = append-nil (decimal 12) ∙ twelve

is_late : line_of (record { job = 12; way = Late }) ≡ codes "12 late"
is_late = ap (λ (x : List ℕ). x ++ codes " late") twelve
