-- The lines of steps, one after the other.
use Rattle.std.specs.Prelude.{All}
use Rattle.std.proofs.Common.{◌≡◌, ℕ, suc, ◌+◌, ◌<◌, ◌%◌, ◌^◌, Bool, true, false, List, [], ◌∷◌, ◌++◌, length, map, get_or, drop, decimal, codes, refl, sym, ap, ◌∙◌, subst, arith, ne_eqb}
use Rattle.std.proofs.Math.Seq.{drop-cons}
use Rattle.std.proofs.lemmas.Fmt.{decimal_by_steps}
use Rattle.mj_steps.specs.declared.step.Step.{Step}
use Rattle.mj_steps.specs.declared.step.Way.{Way}
use Rattle.mj_steps.specs.declared.step.Way.TheVariants.{Go, Late}
use Rattle.mj_steps.specs.Steps.{AreSpelled, IsStep, is_line_end, lines_of, line_of, mark_of, with_front}
use Rattle.mj_chance.specs.Spelled.{ended_lines}

assoc : (xs ys zs : List ℕ) → (xs ++ ys) ++ zs ≡ xs ++ (ys ++ zs)
assoc [] ys zs = refl
assoc (x ∷ xs) ys zs = ap (λ l. x ∷ l) (assoc xs ys zs)

-- ---- one line more

-- the line of the next step is put, and those behind it are left
pub more : (steps : List Step) (k : ℕ) (d : Step) (old new : List ℕ) → k < length steps → old ++ ended_lines (drop k steps) ≡ ended_lines steps
    → new ≡ old ++ (line_of (get_or steps k d) ++ 10 ∷ []) → new ++ ended_lines (drop (k + 1) steps) ≡ ended_lines steps
more steps k d old new less left grows =
    let next : suc k ≡ k + 1 = omega arith in
    let step : Step = get_or steps k d in
    let line : List ℕ = line_of step ++ 10 ∷ [] in
    let behind : List Step = drop (suc k) steps in
    let P : ℕ → Type 0 = λ n. new ++ ended_lines (drop n steps) ≡ ended_lines steps in
    subst P next
    (ap (λ bytes. bytes ++ ended_lines behind) grows ∙ assoc old line (ended_lines behind)
    ∙ sym (ap (λ s. old ++ ended_lines s) (drop-cons steps k d less)) ∙ left)

-- ---- the lines of a file

-- no byte ends a line
abbrev HasNoEnd : List ℕ → Type 0
HasNoEnd [] = Unit {0}
HasNoEnd (b ∷ bs) = (is_line_end b ≡ false) × HasNoEnd bs

none_ends : (xs ys : List ℕ) → HasNoEnd xs → HasNoEnd ys → HasNoEnd (xs ++ ys)
none_ends [] ys h k = k
none_ends (x ∷ xs) ys h k = (h.0, none_ends xs ys h.1 k)

digit : (m : ℕ) → is_line_end (48 + m) ≡ false
digit m = ne_eqb (48 + m) 10 (λ e. omega (arith, e))

in_number : (n : ℕ) → n < 2 ^ 64 → HasNoEnd (decimal n)
in_number n h =
    decimal_by_steps (λ m ds. HasNoEnd ds) (λ m few. (digit m, tt)) (λ m ds many before. none_ends ds ((48 + m % 10) ∷ []) before (digit (m % 10), tt)) n h

in_mark : (way : Way) → HasNoEnd (mark_of way)
in_mark Go = tt
in_mark Late = (refl, (refl, (refl, (refl, (refl, tt)))))

in_line : (step : Step) → IsStep step → HasNoEnd (line_of step)
in_line step is = none_ends (decimal step.job) (mark_of step.way) (in_number step.job (omega (arith, is.1))) (in_mark step.way)

-- the lines from a byte on, by what it is
abbrev lines_on : Bool → ℕ → List ℕ → List (List ℕ)
lines_on e b bs = elim e [ true ↦ [] ∷ lines_of bs | false ↦ with_front b (lines_of bs) ]

lines_by : (b : ℕ) (bs : List ℕ) (e : Bool) → is_line_end b ≡ e → lines_of (b ∷ bs) ≡ lines_on e b bs
lines_by b bs e h = ap (λ (x : Bool). lines_on x b bs) h

-- up to a line's end
lines_cut : (xs ys : List ℕ) → HasNoEnd xs → lines_of (xs ++ 10 ∷ ys) ≡ xs ∷ lines_of ys
lines_cut [] ys h = refl
lines_cut (b ∷ bs) ys h = lines_by b (bs ++ 10 ∷ ys) false h.0 ∙ ap (with_front b) (lines_cut bs ys h.1)

lines_are : (steps : List Step) → All IsStep steps → lines_of (ended_lines steps) ≡ map line_of steps
lines_are [] are = refl
lines_are (step ∷ steps) are =
    let later : All IsStep steps = λ k d less. are (suc k) d (omega (arith, less)) in
    ap lines_of (assoc (line_of step) (10 ∷ []) (ended_lines steps))
    ∙ lines_cut (line_of step) (ended_lines steps) (in_line step (are 0 step (omega arith)))
    ∙ ap (λ ls. line_of step ∷ ls) (lines_are steps later)

-- the lines of steps of jobs that there may be spell these
pub spelled : (steps : List Step) (bytes : List ℕ) → bytes ≡ ended_lines steps → All IsStep steps → AreSpelled bytes steps
spelled steps bytes is are = record { lines = ap lines_of is ∙ lines_are steps are; jobs = are }
