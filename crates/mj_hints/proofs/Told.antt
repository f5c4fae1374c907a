-- Refusals that were told, and those behind them.
use Rattle.std.proofs.Common.{◌≡◌, ◌≢◌, ℕ, zero, suc, ◌-◌, ◌<◌, List, [], ◌∷◌, ◌++◌, refl, ap, sym, subst, arith, Option, Some, None, append_assoc}
use Rattle.mj_ast.specs.Syntax.{Routine}
use Rattle.mj_rou.specs.Read.{IsRoutineRead, IsRoutineRefused}
use Rattle.mj_rou.specs.declared.error.LoadError.{LoadError}
use Rattle.mj_rou.specs.declared.error.LoadError.TheVariants as load
use Rattle.mj_hints.specs.Refusals.{AreRefusals, IsEmptied, line_emptied}

-- what is told of the text, and at most so many refusals of the one behind, are refusals of the bytes
abbrev pub GoesOn : ℕ → ℕ → List ℕ → List ℕ → List ℕ → List LoadError → Type 0
GoesOn most left name bytes text told = (es : List LoadError) → AreRefusals left name text es → AreRefusals most name bytes (told ++ es)

append_nil : (xs : List LoadError) → xs ++ [] ≡ xs
append_nil [] = refl
append_nil (x ∷ xs) = ap (λ (ys : List LoadError). x ∷ ys) (append_nil xs)

pub goes_at_first : (most : ℕ) (name bytes text : List ℕ) (told : List LoadError) → told ≡ [] → text ≡ bytes → GoesOn most most name bytes text told
goes_at_first most name bytes text told n e es h =
    let P : List ℕ → Type 0 = λ xs. AreRefusals most name xs es in
    let Q : List LoadError → Type 0 = λ ts. AreRefusals most name bytes (ts ++ es) in
    subst Q (sym n) (subst P e h)

-- what stands behind the first refusal
abbrev Behind : ℕ → List ℕ → List ℕ → List LoadError → Option ℕ → Type 0
Behind n name text es o = elim o [ None ↦ es ≡ [] | Some line ↦ (rest : List ℕ) × IsEmptied (line - 1) text rest × AreRefusals n name rest es ]

first_one : (n : ℕ) (name text : List ℕ) (e : LoadError) (es : List LoadError) (o : Option ℕ) → e ≢ load.Memory → IsRoutineRefused name text e → line_emptied e ≡ o
    → Behind n name text es o → AreRefusals (suc n) name text (e ∷ es)
first_one n name text e es o other refused is h =
    let P : Option ℕ → Type 0 = λ p. Behind n name text es p in
    (other, refused, subst P (sym is) h)

-- one refusal more
pub goes_on : (most left : ℕ) (name bytes text rest : List ℕ) (told : List LoadError) (e : LoadError) (line : ℕ) → 0 < left → GoesOn most left name bytes text told
    → e ≢ load.Memory → IsRoutineRefused name text e → line_emptied e ≡ Some line → IsEmptied (line - 1) text rest
    → GoesOn most (left - 1) name bytes rest (told ++ e ∷ [])
goes_on most zero name bytes text rest told e line some goes other refused is emptied es h = absurd (omega (arith, some))
goes_on most (suc n) name bytes text rest told e line some goes other refused is emptied es h =
    let one_less : suc n - 1 ≡ n = omega arith in
    let Q : ℕ → Type 0 = λ k. AreRefusals k name rest es in
    let P : List LoadError → Type 0 = λ xs. AreRefusals most name bytes xs in
    subst P (sym (append_assoc told (e ∷ []) es)) (goes (e ∷ es) (first_one n name text e es (Some line) other refused is (rest, emptied, subst Q one_less h)))

-- the last one, behind which nothing is told
pub ends_on : (most left : ℕ) (name bytes text : List ℕ) (told : List LoadError) (e : LoadError) → 0 < left → GoesOn most left name bytes text told
    → e ≢ load.Memory → IsRoutineRefused name text e → line_emptied e ≡ None → AreRefusals most name bytes (told ++ e ∷ [])
ends_on most zero name bytes text told e some goes other refused is = absurd (omega (arith, some))
ends_on most (suc n) name bytes text told e some goes other refused is = goes (e ∷ []) (first_one n name text e [] None other refused is refl)

-- nothing more is refused
pub ends_read : (most left : ℕ) (name bytes text : List ℕ) (told : List LoadError) → 0 < left → GoesOn most left name bytes text told
    → (r : Routine) × IsRoutineRead name text r → AreRefusals most name bytes told
ends_read most zero name bytes text told some goes read = absurd (omega (arith, some))
ends_read most (suc n) name bytes text told some goes read =
    let P : List LoadError → Type 0 = λ xs. AreRefusals most name bytes xs in
    subst P (append_nil told) (goes [] read)

-- as many as may be told
pub ends_full : (most left : ℕ) (name bytes text : List ℕ) (told : List LoadError) → left ≡ 0 → GoesOn most left name bytes text told → AreRefusals most name bytes told
ends_full most zero name bytes text told none goes =
    let P : List LoadError → Type 0 = λ xs. AreRefusals most name bytes xs in
    subst P (append_nil told) (goes [] refl)
ends_full most (suc n) name bytes text told none goes = absurd (omega (arith, none))
