-- The lines of steps.
use Rattle.std.proofs.lemmas.List.Elements.{All-push}
use Rattle.std.proofs.Common.{◌≡◌, ◌≢◌, ℕ, ◌+◌, ◌<◌, ◌%◌, ◌^◌, List, [], ◌∷◌, ◌++◌, length, map, All, refl, ap, sym, ◌∙◌, subst, arith, codes, decimal, append-nil, Result, Ok, Err, Some, None}
use Rattle.std.specs.Str.{IsUtf8}
use Rattle.std.specs.Str.Parse.{ParsesUnsigned}
use Rattle.std.proofs.lemmas.Str.{IsUtf8-from_ascii}
use Rattle.std.proofs.lemmas.List.{append_cancel_right}
use Rattle.std.proofs.lemmas.Fmt.{decimal_by_steps, IsAscii-decimal, parse-decimal}
use Rattle.mj_steps.specs.declared.step.Step.{Step}
use Rattle.mj_steps.specs.declared.step.Way.{Way}
use Rattle.mj_steps.specs.declared.step.Way.TheVariants.{Go, Late}
use Rattle.mj_steps.specs.Steps.{IsJob, IsStep, mark_of, line_of, lines_of, AreSpelled, IsFirst}

-- the last byte, or d where there is none
abbrev last_of : ℕ → List ℕ → ℕ
last_of d [] = d
last_of d (b ∷ bs) = last_of b bs

last_added : (d b : ℕ) (bs : List ℕ) → last_of d (bs ++ b ∷ []) ≡ b
last_added d b [] = refl
last_added d b (x ∷ bs) = last_added x b bs

last_late : (d : ℕ) (bs : List ℕ) → last_of d (bs ++ codes " late") ≡ 101
last_late d [] = refl
last_late d (x ∷ bs) = last_late x bs

-- a number ends with a digit
abbrev EndsInDigit : ℕ → List ℕ → Type 0
EndsInDigit n digits = last_of 0 digits < 58

ends_in_digit : (n : ℕ) → n < 2 ^ 64 → last_of 0 (decimal n) < 58
ends_in_digit n h =
    decimal_by_steps EndsInDigit (λ m few. omega (arith, few)) (λ m digits many before. subst (λ (x : ℕ). x < 58) (sym (last_added 0 (48 + m % 10) digits)) (omega arith)) n h

not_late : (job : ℕ) (front : List ℕ) → IsJob job → decimal job ≢ front ++ codes " late"
not_late job front is e =
    let digit : last_of 0 (decimal job) < 58 = ends_in_digit job (omega (arith, is.1)) in
    let letter : last_of 0 (decimal job) ≡ 101 = ap (last_of 0) e ∙ last_late 0 front in
    omega (arith, digit, letter)

-- a number that was read is the one that is spelled
pub ok_some : {E : Type 0} (r : Result ℕ E) (j k : ℕ) → r ≡ Ok j → r ≡ Ok k → Some j ≡ Some k
ok_some r j k g h = cc

pub err_some : {E : Type 0} (r : Result ℕ E) (e : E) (k : ℕ) → r ≡ Err e → r ≡ Ok k → None ≡ Some k
err_some r e k g h = cc

-- the number that is spelled can be read
pub is_text : (digits : List ℕ) (job : ℕ) → job < 256 → digits ≡ decimal job → IsUtf8 digits
is_text digits job h e = subst IsUtf8 (sym e) (IsUtf8-from_ascii (decimal job) (IsAscii-decimal job (omega (arith, h))))

pub is_read : {E : Type 0} (text digits : List ℕ) (job : ℕ) (r : Result ℕ E) → text ≡ digits → job < 256 → digits ≡ decimal job → ParsesUnsigned 8 10 text r → r ≡ Ok job
is_read text digits job r same h e parses = parse-decimal 8 job text r (omega (arith, h)) (omega (arith, h)) (same ∙ e) parses

-- the step of a line without a mark, and of one with it
pub go_line : (line : List ℕ) (job : ℕ) → line ≡ decimal job → line ≡ line_of (record { job = job; way = Go })
go_line line job e = e ∙ sym (append-nil (decimal job))

pub late_line : (line number : List ℕ) (job : ℕ) → line ≡ number ++ codes " late" → number ≡ decimal job → line ≡ line_of (record { job = job; way = Late })
late_line line number job e d = e ∙ ap (λ (x : List ℕ). x ++ codes " late") d

late_none_by : (line number : List ℕ) (job : ℕ) (way : Way) → line ≡ number ++ codes " late" → ((n : ℕ) → IsJob n → ¬ (number ≡ decimal n)) → IsJob job → ¬ (line ≡ decimal job ++ mark_of way)
late_none_by line number job Go e none is s = not_late job number is (sym (append-nil (decimal job)) ∙ sym s ∙ e)
late_none_by line number job Late e none is s = none job is (append_cancel_right number (decimal job) (codes " late") (sym e ∙ s))

-- a line with the mark behind what is no number spells no step
pub late_none : (line number : List ℕ) (step : Step) → line ≡ number ++ codes " late" → ((n : ℕ) → IsJob n → ¬ (number ≡ decimal n)) → IsStep step → ¬ (line ≡ line_of step)
late_none line number step e none is = late_none_by line number step.job step.way e none is

go_none_by : (line : List ℕ) (job : ℕ) (way : Way) → ((front : List ℕ) → line ≢ front ++ codes " late") → ((n : ℕ) → IsJob n → ¬ (line ≡ decimal n)) → IsJob job → ¬ (line ≡ decimal job ++ mark_of way)
go_none_by line job Go unmarked none is s = none job is (s ∙ append-nil (decimal job))
go_none_by line job Late unmarked none is s = unmarked (decimal job) s

-- nor does one without the mark that is no number
pub go_none : (line : List ℕ) (step : Step) → ((front : List ℕ) → line ≢ front ++ codes " late") → ((n : ℕ) → IsJob n → ¬ (line ≡ decimal n)) → IsStep step → ¬ (line ≡ line_of step)
go_none line step unmarked none is = go_none_by line step.job step.way unmarked none is

-- ---- several lines

lines_added : (steps : List Step) (step : Step) (rest : List (List ℕ)) → map line_of (steps ++ step ∷ []) ++ rest ≡ map line_of steps ++ line_of step ∷ rest
lines_added [] step rest = refl
lines_added (s ∷ steps) step rest = ap (λ (x : List (List ℕ)). line_of s ∷ x) (lines_added steps step rest)

-- what was read, and what is left of the file
pub record Goes (bytes rest : List ℕ) (steps : List Step) : Type 0 where
  pub lines : lines_of bytes ≡ map line_of steps ++ lines_of rest
  pub jobs : All IsStep steps

pub goes_on : (bytes rest line behind : List ℕ) (steps : List Step) (step : Step) → Goes bytes rest steps → lines_of rest ≡ line ∷ lines_of behind → IsStep step → line ≡ line_of step
    → Goes bytes behind (steps ++ step ∷ [])
goes_on bytes rest line behind steps step g cut is spelled = record {
  lines = g.lines ∙ ap (λ (x : List (List ℕ)). map line_of steps ++ x) (cut ∙ ap (λ (x : List ℕ). x ∷ lines_of behind) spelled) ∙ sym (lines_added steps step (lines_of behind));
  jobs = All-push IsStep steps step g.jobs is;
}

pub is_first : (bytes rest line behind : List ℕ) (steps : List Step) (number : ℕ) → Goes bytes rest steps → lines_of rest ≡ line ∷ lines_of behind → number ≡ length steps + 1
    → ((step : Step) → IsStep step → ¬ (line ≡ line_of step)) → IsFirst bytes number
is_first bytes rest line behind steps number g cut place none = record {
  before = steps;
  line = line;
  behind = lines_of behind;
  cut = g.lines ∙ ap (λ (x : List (List ℕ)). map line_of steps ++ x) cut;
  jobs = g.jobs;
  place = place;
  none = none;
}

pub all_read : (bytes rest : List ℕ) (steps : List Step) → Goes bytes rest steps → rest ≡ [] → AreSpelled bytes steps
all_read bytes rest steps g e = record {
  lines = g.lines ∙ ap (λ (x : List ℕ). map line_of steps ++ lines_of x) e ∙ append-nil (map line_of steps);
  jobs = g.jobs;
}
