-- What comes next of what is seen, as steps over the globals find it.
use Rattle.std.specs.Prelude.{◌≡◌, ℕ, true, false, not, nat_eq, List, [], ◌∷◌, Option, Some, ⊤}
use Rattle.mj_subs.specs.Name.{Name}
use Rattle.mj_subs.specs.Collation.{subscript_cmp}
use Rattle.mj_store.specs.Nodes.{is_empty, along}
use Rattle.mj_store.specs.Questions.{Content, order_at, data_at}
use Rattle.mj_store.specs.Changes.{followed_by}
use Rattle.mj_store.specs.declared.store.Direction.{Direction}
use Rattle.mj_txlog.specs.declared.next.StepOutcome.{StepOutcome}
use Rattle.mj_txlog.specs.declared.next.StepOutcome.TheVariants as step
use Rattle.mj_txlog.specs.Accesses.{Accesses, seen}
use Rattle.mj_txlog.specs.Laid.{Laid, IsLaid, is_before}
use Rattle.mj_txlog.specs.Skips.{IsJump}

-- the next subscript of one store, which stands before another in the direction, where that is there
abbrev pub IsNextBefore : Content → Name → List ℕ → Direction → Option (List ℕ) → List ℕ → Type 0
IsNextBefore g f s way other u = (order_at g (followed_by f (s ∷ [])) way ≡ Some u) × (is_before (along way subscript_cmp) u other ≡ true)

-- the next subscript of one store, if there is one, doesn't
abbrev pub IsNoneBefore : Content → Name → List ℕ → Direction → Option (List ℕ) → Type 0
IsNoneBefore g f s way other = (u : List ℕ) → order_at g (followed_by f (s ∷ [])) way ≡ Some u → is_before (along way subscript_cmp) u other ≡ false

-- A step from t, beside an own text: none of the globals comes before that; or one does, at which or below which something is seen; or from the one that does nothing
-- is left up to d. Of a step that can't go on nothing is said.
abbrev pub IsStep : Content → Laid → Name → Direction → Option (List ℕ) → List ℕ → StepOutcome → List ℕ → Type 0
IsStep g o f way mine t step.Own d =
    (u : List ℕ) → order_at g (followed_by f (t ∷ [])) way ≡ Some u → is_before (along way subscript_cmp) u mine ≡ false
IsStep g o f way mine t (step.Other u) d =
    (order_at g (followed_by f (t ∷ [])) way ≡ Some u) × (is_before (along way subscript_cmp) u mine ≡ true)
    × ((es : Accesses) → IsLaid o es → not (nat_eq (data_at (seen g es) (followed_by f (u ∷ []))) 0) ≡ true)
IsStep g o f way mine t step.Passed d =
    (u : List ℕ) × (order_at g (followed_by f (t ∷ [])) way ≡ Some u) × (is_empty d ≡ false) × ((es : Accesses) → IsLaid o es → IsJump g o.gone f way u d)
IsStep g o f way mine t step.Unclear d = ⊤

-- what is found past s: it comes next of what is seen. Where nothing is found, nothing is said.
abbrev pub IsFound : Content → Laid → Name → List ℕ → Direction → Option (List ℕ) → StepOutcome → Type 0
IsFound g o f s way mine step.Own = (es : Accesses) → IsLaid o es → mine ≡ order_at (seen g es) (followed_by f (s ∷ [])) way
IsFound g o f s way mine (step.Other u) = (es : Accesses) → IsLaid o es → Some u ≡ order_at (seen g es) (followed_by f (s ∷ [])) way
IsFound g o f s way mine step.Passed = ⊤
IsFound g o f s way mine step.Unclear = ⊤

-- a step went to the far subscript, which isn't blank; or it couldn't
abbrev pub IsMove : StepOutcome → List ℕ → List ℕ → Type 0
IsMove step.Own far d = ⊥
IsMove (step.Other u) far d = ⊥
IsMove step.Passed far d = (d ≡ far) × (is_empty far ≡ false)
IsMove step.Unclear far d = ⊤
