-- The answers of steps, one after the other.
use Rattle.std.specs.Prelude.{Result}
use Rattle.std.proofs.Common.{◌≡◌, ℕ, suc, ◌+◌, ◌<◌, ◌≤◌, List, [], ◌∷◌, ◌++◌, length, take, get_or, None, sym, ap, ◌∙◌, subst, arith, length-append}
use Rattle.std.proofs.Math.Seq.{take-suc}
use Rattle.mj_sys.specs.Shared.{Shared}
use Rattle.mj_core.specs.declared.seen.Seen.{Seen}
use Rattle.mj_steps.specs.declared.step.Refusal.{Refusal}
use Rattle.mj_steps.specs.declared.step.Step.{Step}
use Rattle.mj_core.specs.Shown.{Shown}
use Rattle.mj_core.specs.Meaning.{Means}
use Rattle.mj_core.specs.Gives.{StepGivesBy, RunGivesBy}
use Rattle.mj_core.proofs.Giving.{run_on}

-- the first of the steps have their answers, and there is room for all
pub record AreAnswered (means : Means) (opening : Shared) (old : Shown) (steps : List Step) (made : ℕ) (answers : List (Result Seen Refusal)) (room : ℕ) (new : Shown)
    : Type 0 where
  pub gives : RunGivesBy means opening old (take made steps) answers new
  pub counted : length answers ≡ made
  pub roomy : length steps ≤ room

-- one step more
pub answered_on : (means : Means) (opening : Shared) (old mid new : Shown) (steps : List Step) (made : ℕ) (answers answers' : List (Result Seen Refusal)) (room room' : ℕ)
    → AreAnswered means opening old steps made answers room mid → (d : Step) → made < length steps → (answer : Result Seen Refusal)
    → StepGivesBy means opening mid (get_or steps made d) None answer new → answers' ≡ answers ++ answer ∷ [] → room' ≡ room
    → AreAnswered means opening old steps (made + 1) answers' room' new
answered_on means opening old mid new steps made answers answers' room room' are d within answer gives items same =
    let more : made + 1 ≡ suc made = omega arith in
    let P : List Step → Type 0 = λ s. RunGivesBy means opening old s answers' new in
    let Q : List (Result Seen Refusal) → Type 0 = λ a. RunGivesBy means opening old (take made steps ++ get_or steps made d ∷ []) a new in
    record {
      gives =
          subst P (sym (ap (λ n. take n steps) more ∙ take-suc steps made d within))
          (subst Q (sym items) (run_on means opening old mid new (take made steps) answers (get_or steps made d) answer are.gives gives));
      counted = ap (λ l. length l) items ∙ length-append answers (answer ∷ []) ∙ ap (λ n. n + 1) are.counted;
      roomy = (let r = are.roomy in omega (arith, r, same));
    }
