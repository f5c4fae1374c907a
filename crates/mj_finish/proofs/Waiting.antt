-- A step that brings no event leaves the history as it was.
use Rattle.std.proofs.Common.{◌≡◌, ℕ, Bool, Result, Ok, Err, inl, inr, ap}
use Rattle.mj_jobs.specs.Rows.{Row}
use Rattle.mj_sys.specs.History.{History}
use Rattle.mj_sys.specs.Shared.{Shared}
use Rattle.mj_core.specs.Shown.{Shown}
use Rattle.mj_core.specs.Gives.{CoreStepGives, Made, is_late}
use Rattle.mj_core.specs.declared.seen.Seen.{Seen}
use Rattle.mj_core.specs.declared.seen.Seen.TheVariants as seen
use Rattle.mj_steps.specs.declared.step.Step.{Step}
use Rattle.mj_steps.specs.declared.step.Refusal.{Refusal}

-- what a step gave is no event
abbrev pub IsNoEvent : Result Seen Refusal → Type 0
IsNoEvent (Ok (seen.Event at)) = ⊥
IsNoEvent _ = Unit {0}

abbrev history_of : Shown → History
history_of s = s.history

module _ (opening : Shared) (old new : Shown) (job : ℕ) (row : Row) (late : Bool) where
  made_stays : (answer : Result Seen Refusal) → Made opening old job row late answer new → IsNoEvent answer → new.history ≡ old.history
  made_stays (Ok seen.Ended) made none = ap history_of made.1
  made_stays (Ok (seen.Event at)) made none = absurd none
  made_stays (Ok (seen.Busy holder held)) made none = ap history_of made.1.5
  made_stays (Ok seen.NotYet) made none = ap history_of made.1.3.3
  made_stays (Ok seen.Unfit) made none = ap history_of made.1.3.1
  made_stays (Ok seen.Ran) made none = ap history_of made.1.4
  made_stays (Err why) (inl made) none = ap history_of made.1
  made_stays (Err why) (inr made) none = ap history_of made.2

pub step_stays : (opening : Shared) (old new : Shown) (step : Step) (answer : Result Seen Refusal) → CoreStepGives opening old step answer new → IsNoEvent answer
    → new.history ≡ old.history
step_stays opening old new step answer (inl nobody) none = ap history_of nobody.2
step_stays opening old new step answer (inr (row, is, inl over)) none = ap history_of over.2
step_stays opening old new step answer (inr (row, is, inr (inl full))) none = ap history_of full.3
step_stays opening old new step answer (inr (row, is, inr (inr goes))) none = made_stays opening old new step.job row (is_late step.way) answer goes.2 none
