-- A step adds one event to the history at most.
use Rattle.std.proofs.Common.{◌≡◌, ◌∙◌, ◌⊎◌, inl, inr, ℕ, List, [], ◌∷◌, ◌++◌, Bool, Result, Ok, Err, Option, Some, None, refl, ap}
use Rattle.mj_jobs.specs.Rows.{Row}
use Rattle.mj_sessions.specs.Asked.{Answering}
use Rattle.mj_sys.specs.declared.event.Event.{Event}
use Rattle.mj_sys.specs.Shared.{Shared}
use Rattle.mj_sys.specs.History.{History}
use Rattle.mj_core.specs.Shown.{Shown}
use Rattle.mj_core.specs.Gives.{CoreStepGives, Made, is_late}
use Rattle.mj_core.specs.declared.seen.Seen.{Seen}
use Rattle.mj_core.specs.declared.seen.Seen.TheVariants as seen
use Rattle.mj_steps.specs.declared.step.Step.{Step}
use Rattle.mj_steps.specs.declared.step.Refusal.{Refusal}
use Rattle.mj_steps.specs.declared.round.Standing.{Standing}
use Rattle.mj_run.specs.Stepping.{StepsAs}

-- by one event, or none
abbrev pub Grows : History → History → Type 0
Grows old new = (new ≡ old) ⊎ ((e : Event) × (new ≡ old ++ e ∷ []))

abbrev history_of : Shown → History
history_of s = s.history

module _ (opening : Shared) (old new : Shown) (job : ℕ) (row : Row) (late : Bool) where
  made_grows : (what : Seen) → Made opening old job row late (Ok what) new → Grows old.history new.history
  made_grows seen.Ended made = inl (ap history_of made.1)
  made_grows (seen.Event at) made = inr (record { job = job; ask = made.1.0.ask; reply = made.1.1 }, ap history_of made.1.5.1)
  made_grows (seen.Busy holder held) made = inl (ap history_of made.1.5)
  made_grows seen.NotYet made = inl (ap history_of made.1.3.3)
  made_grows seen.Unfit made = inl (ap history_of made.1.3.1)
  made_grows seen.Ran made = inl (ap history_of made.1.4)

  made_stays : (why : Refusal) → Made opening old job row late (Err why) new → new.history ≡ old.history
  made_stays why (inl made) = ap history_of made.1
  made_stays why (inr made) = ap history_of made.2

step_grows : (opening : Shared) (old new : Shown) (step : Step) (what : Seen) → CoreStepGives opening old step (Ok what) new → Grows old.history new.history
step_grows opening old new step what (inl nobody) = inl (ap history_of nobody.2)
step_grows opening old new step what (inr (row, is, inl over)) = inl (ap history_of over.2)
step_grows opening old new step what (inr (row, is, inr (inl full))) = inl (ap history_of full.3)
step_grows opening old new step what (inr (row, is, inr (inr goes))) = made_grows opening old new step.job row (is_late step.way) what goes.2

step_stays : (opening : Shared) (old new : Shown) (step : Step) (why : Refusal) → CoreStepGives opening old step (Err why) new → new.history ≡ old.history
step_stays opening old new step why (inl nobody) = ap history_of nobody.2
step_stays opening old new step why (inr (row, is, inl over)) = ap history_of over.2
step_stays opening old new step why (inr (row, is, inr (inl full))) = ap history_of full.3
step_stays opening old new step why (inr (row, is, inr (inr goes))) = made_stays opening old new step.job row (is_late step.way) why goes.2

pub made : (tells : Answering) (opening : Shared) (old new : Shown) (step : Step) (standing : Standing) → StepsAs tells opening old step (Ok standing) new
    → Grows old.history new.history
made tells opening old new step standing (what, gives, calls, stands) = step_grows opening old new step what gives

pub stays : (tells : Answering) (opening : Shared) (old new : Shown) (step : Step) (why : Refusal) → StepsAs tells opening old step (Err why) new
    → new.history ≡ old.history
stays tells opening old new step why (gives, calls) = step_stays opening old new step why gives
