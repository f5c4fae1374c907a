-- Stepping by a list and in turn, as lists of steps of the core.
use Rattle.std.proofs.Common.{◌≡◌, ℕ, zero, suc, ◌+◌, List, [], ◌∷◌, take, Bool, Result, Ok, Err, Option, Some, None, true, false, inl, inr, ap, sym, refl, ◌∙◌}
use Rattle.std.specs.Prelude.{IfNone, not, ◌&&◌, if◌then◌else◌}
use Rattle.std.specs.Option.{is_some}
use Rattle.mj_ask.specs.declared.ask.Ask.{Ask}
use Rattle.mj_ask.specs.Fits.{timeout_of}
use Rattle.mj_sessions.specs.Asked.{Answering}
use Rattle.mj_sys.specs.Shared.{Shared}
use Rattle.mj_core.specs.Shown.{AtAsk, Shown}
use Rattle.mj_jobs.specs.Rows.{Row}
use Rattle.mj_load.specs.Image.{Loaded}
use Rattle.mj_core.specs.Gives.{CoreStepGives, RunGives, Made, is_late}
use Rattle.mj_core.specs.declared.seen.Seen.{Seen}
use Rattle.mj_core.specs.declared.seen.Seen.TheVariants as seen
use Rattle.mj_steps.specs.declared.step.Step.{Step}
use Rattle.mj_steps.specs.declared.round.Round.{Round}
use Rattle.mj_steps.specs.declared.round.Standing.{Standing}
use Rattle.mj_steps.specs.declared.round.Next.{Next}
use Rattle.mj_steps.specs.declared.round.Next.TheVariants as nexts
use Rattle.mj_steps.specs.declared.step.Refusal.{Refusal}
use Rattle.mj_steps.specs.declared.drive.Ending.{Ending}
use Rattle.mj_steps.specs.Rounds.{next_step, after_step}
use Rattle.mj_steps.specs.Driven.{ByList, InTurn, NextIsDone, stand}
use Rattle.mj_run.specs.Stepping.{StepsAs, StandsSo, IsFitting, AreSteps, jobs_of, is_timed}

-- a step behind which its job stands somewhere isn't unfit
is_fitting : (core : Shown) (job : ℕ) (what : Seen) (standing : Standing) → StandsSo core job what standing → IsFitting (Ok what)
is_fitting core job seen.Unfit standing stands = absurd stands
is_fitting core job _ standing stands = tt

module _ (tells : Answering) (opening : Shared) where
  -- one step more, in front
  more : (old mid new : Shown) (step : Step) (standing : Standing) → StepsAs tells opening old step (Ok standing) mid → AreSteps tells opening mid new
      → AreSteps tells opening old new
  more old mid new step standing (what, gives, calls, stands) (steps, answers, run, called, served) =
      (step ∷ steps, Ok what ∷ answers, (mid, gives, run), (mid, calls, called), (is_fitting mid step.job what standing stands, served))

  -- the last one, which is refused
  last : (old new : Shown) (step : Step) (why : Refusal) → StepsAs tells opening old step (Err why) new → AreSteps tells opening old new
  last old new step why (gives, calls) = (step ∷ [], Err why ∷ [], (new, gives, refl), (new, calls, refl), (tt, tt))

  -- none
  none : (old new : Shown) → new ≡ old → AreSteps tells opening old new
  none old new same = ([], [], same, same, tt)

  pub by_list : (steps : List Step) (made : ℕ) (old : Shown) (ending : Ending) (new : Shown) → ByList (StepsAs tells opening) made steps old ending new
      → AreSteps tells opening old new
  by_list [] made old ending new (e, same) = none old new same
  by_list (step ∷ steps) made old ending new (inl (why, makes, e)) = last old new step why makes
  by_list (step ∷ steps) made old ending new (inr (standing, mid, makes, rest)) = more old mid new step standing makes (by_list steps (made + 1) mid ending new rest)

  comes : (number : ℕ) (goes : Step → Standing → Shown → Type 0) (old : Shown) (ending : Ending) (new : Shown) (next : Next)
      → ((step : Step) (standing : Standing) (mid : Shown) → goes step standing mid → AreSteps tells opening mid new)
      → NextIsDone (StepsAs tells opening) number goes old ending new next → AreSteps tells opening old new
  comes number goes old ending new nexts.Over on (e, same) = none old new same
  comes number goes old ending new nexts.Stuck on (e, same) = none old new same
  comes number goes old ending new (nexts.Step step) on (inl (why, makes, e)) = last old new step why makes
  comes number goes old ending new (nexts.Step step) on (inr (standing, mid, makes, rest)) = more old mid new step standing makes (on step standing mid rest)

  pub in_turn : (most made : ℕ) (round : Round) (jobs : List Standing) (old : Shown) (ending : Ending) (new : Shown)
      → InTurn (jobs_of opening) (StepsAs tells opening) most made round jobs old ending new → AreSteps tells opening old new
  in_turn zero made round jobs old ending new (e, same) = none old new same
  in_turn (suc most) made round jobs old ending new h =
      comes (made + 1)
      (λ step standing mid. InTurn (jobs_of opening) (StepsAs tells opening) most (made + 1) (after_step round step standing) (stand jobs step.job standing) mid
      ending new)
      old ending new (next_step round (take (jobs_of opening old) jobs))
      (λ step standing mid rest. in_turn most (made + 1) (after_step round step standing) (stand jobs step.job standing) mid ending new rest)
      h

-- ---- the routines stay

abbrev pub image_of : Shown → Loaded
image_of s = s.image

module _ (opening : Shared) (old new : Shown) (job : ℕ) (row : Row) (late : Bool) where
  made_image : (answer : Result Seen Refusal) → Made opening old job row late answer new → new.image ≡ old.image
  made_image (Ok seen.Ended) made = ap image_of made.1
  made_image (Ok (seen.Event at)) made = ap image_of made.1.5.1
  made_image (Ok (seen.Busy holder held)) made = ap image_of made.1.5
  made_image (Ok seen.NotYet) made = ap image_of made.1.3.3
  made_image (Ok seen.Unfit) made = ap image_of made.1.3.1
  made_image (Ok seen.Ran) made = ap image_of made.1.4
  made_image (Err why) (inl made) = ap image_of made.1
  made_image (Err why) (inr made) = ap image_of made.2

step_image : (opening : Shared) (old new : Shown) (step : Step) (answer : Result Seen Refusal) → CoreStepGives opening old step answer new
    → new.image ≡ old.image
step_image opening old new step answer (inl nobody) = ap image_of nobody.2
step_image opening old new step answer (inr (row, is, inl over)) = ap image_of over.2
step_image opening old new step answer (inr (row, is, inr (inl full))) = ap image_of full.3
step_image opening old new step answer (inr (row, is, inr (inr goes))) = made_image opening old new step.job row (is_late step.way) answer goes.2

run_image : (opening : Shared) (old : Shown) (steps : List Step) (answers : List (Result Seen Refusal)) (new : Shown)
    → RunGives opening old steps answers new → new.image ≡ old.image
run_image opening old [] [] new same = ap image_of same
run_image opening old (step ∷ steps) (answer ∷ answers) new (mid, gives, rest) =
    run_image opening mid steps answers new rest ∙ step_image opening old mid step answer gives
run_image opening old [] (answer ∷ answers) new run = absurd run
run_image opening old (step ∷ steps) [] new run = absurd run

pub steps_image : (tells : Answering) (opening : Shared) (old new : Shown) → AreSteps tells opening old new → new.image ≡ old.image
steps_image tells opening old new (steps, answers, run, called, served) = run_image opening old steps answers new run

-- what was seen that can't be unfit
pub seen_fitting : (what : Seen) → ((what ≡ seen.Unfit) → ⊥) → IsFitting (Ok what)
seen_fitting seen.Unfit none = absurd (none refl)
seen_fitting _ none = tt

-- what holds is so where there is none
pub if_none : {A P : Type 0} (r : Option A) → P → IfNone r P
if_none None p = p
if_none (Some a) p = tt

-- whether a job that is shown so waits with a timeout, by what it waits with
pub timed_as : (pending : Option Ask) (at : AtAsk) → pending ≡ (if at.answered then None else Some at.ask)
    → is_timed (Some at) ≡ (elim pending as (λ _. Bool) [ None ↦ false | Some a ↦ is_some (timeout_of a) ])
timed_as pending at is = by at.answered is where
  by : (b : Bool) → pending ≡ (if b then None else Some at.ask)
      → (not b && is_some (timeout_of at.ask)) ≡ (elim pending as (λ _. Bool) [ None ↦ false | Some a ↦ is_some (timeout_of a) ])
  by true e = ap (λ (o : Option Ask). elim o as (λ _. Bool) [ None ↦ false | Some a ↦ is_some (timeout_of a) ]) (sym e)
  by false e = ap (λ (o : Option Ask). elim o as (λ _. Bool) [ None ↦ false | Some a ↦ is_some (timeout_of a) ]) (sym e)
