-- One step more behind those of a list.
use Rattle.std.specs.Prelude.{Result, Ok, Err}
use Rattle.std.proofs.Common.{◌≡◌, ℕ, suc, ◌+◌, List, [], ◌∷◌, ◌++◌, length, inl, inr, refl, sym, subst, arith}
use Rattle.mj_steps.specs.declared.step.Step.{Step}
use Rattle.mj_steps.specs.declared.round.Standing.{Standing}
use Rattle.mj_steps.specs.declared.step.Refusal.{Refusal}
use Rattle.mj_steps.specs.declared.drive.Ending.{Ending}
use Rattle.mj_steps.specs.declared.drive.Ending.TheVariants as endings
use Rattle.mj_steps.specs.Driven.{ByList}

-- a list of steps that ends otherwise than by being over was stopped
never_stops : (why : Refusal) (n : ℕ) → endings.Over ≡ endings.Refused why n → ⊥
never_stops why n e = let P : Ending → Type 0 = λ x. elim x [ endings.Over ↦ Unit {0} | _ ↦ ⊥ ] in subst P e tt

later : (made n : ℕ) → made + 1 + (n + 1) ≡ made + (suc n + 1)
later made n = omega arith

first : (made : ℕ) → made + (0 + 1) ≡ made + 1
first made = omega arith

-- what follows the steps is done behind them
pub then : {X : Type 0} (makes : X → Step → Result Standing Refusal → X → Type 0) (steps more : List Step) (made : ℕ) (ending : Ending) (old mid new : X)
    → ByList makes made steps old endings.Over mid → ((k : ℕ) → k ≡ made + length steps → ByList makes k more mid ending new) → ByList makes made (steps ++ more) old ending new
then {X = X} makes [] more made ending old mid new done rest =
    let P : X → Type 0 = λ x. ByList makes made more x ending new in
    subst P done.1 (rest made (omega arith))
then makes (step ∷ steps) more made ending old mid new (inl stops) rest = absurd (never_stops stops.0 (made + 1) stops.2)
then makes (step ∷ steps) more made ending old mid new (inr goes) rest =
    inr (goes.0, goes.1, goes.2, then makes steps more (made + 1) ending goes.1 mid new goes.3 (λ k e. rest k (omega (arith, e))))

-- one step more, which is made
pub goes_on : {X : Type 0} (makes : X → Step → Result Standing Refusal → X → Type 0) (steps : List Step) (step : Step) (standing : Standing) (old mid new : X)
    → ByList makes 0 steps old endings.Over mid → makes mid step (Ok standing) new → ByList makes 0 (steps ++ step ∷ []) old endings.Over new
goes_on makes steps step standing old mid new done made =
    then makes steps (step ∷ []) 0 endings.Over old mid new done (λ k e. inr (standing, new, made, (refl, refl)))

-- one step more, which is refused
pub stops : {X : Type 0} (makes : X → Step → Result Standing Refusal → X → Type 0) (steps : List Step) (step : Step) (why : Refusal) (n : ℕ) (old mid new : X)
    → ByList makes 0 steps old endings.Over mid → makes mid step (Err why) new → n ≡ length steps + 1 → ByList makes 0 (steps ++ step ∷ []) old (endings.Refused why n) new
stops makes steps step why n old mid new done made count =
    then makes steps (step ∷ []) 0 (endings.Refused why n) old mid new done
    (λ k e. (let same : n ≡ k + 1 = omega (arith, count, e) in
    let P : ℕ → Type 0 = λ m. ByList makes k (step ∷ []) mid (endings.Refused why m) new in
    subst P (sym same) (inl (why, made, refl))))
