-- What a step of the program comes to, by what the core gives for it.
use Rattle.std.specs.Prelude.{◌≡◌, ℕ, List, [], ◌∷◌, length, slice_get, Bool, true, false, not, ◌&&◌, Option, Some, None, Result, Ok, Err, if◌then◌else◌}
use Rattle.std.specs.Option.{is_some}
use Rattle.mj_ask.specs.declared.ask.Ask.{Ask}
use Rattle.mj_ask.specs.declared.ask.Ask.TheVariants as asks
use Rattle.mj_ask.specs.declared.ask.SharedAsk.TheVariants as shared_asks
use Rattle.mj_ask.specs.Fits.{timeout_of}
use Rattle.mj_sessions.specs.Asked.{Answering}
use Rattle.mj_sys.specs.declared.event.Event.{Event}
use Rattle.mj_sys.specs.Shared.{Shared}
use Rattle.mj_sys.specs.History.{state_of}
use Rattle.mj_core.specs.Shown.{AtAsk, Shown, stand_at}
use Rattle.mj_core.specs.Gives.{CoreStepGives, DeviceStepGives, RunGives, DeviceRunGives}
use Rattle.mj_core.specs.declared.seen.Seen.{Seen}
use Rattle.mj_core.specs.declared.seen.Seen.TheVariants as seen
use Rattle.mj_steps.specs.declared.step.Step.{Step}
use Rattle.mj_steps.specs.declared.round.Standing.{Standing}
use Rattle.mj_steps.specs.declared.round.Standing.TheVariants as standings
use Rattle.mj_steps.specs.declared.drive.Ending.{Ending}
use Rattle.mj_steps.specs.declared.step.Refusal.{Refusal}
use Rattle.mj_steps.specs.Driven.{InTurn, new_round, fresh}

-- how many steps are made in turn at most (this profile)
abbrev pub in_turn_limit : ℕ
in_turn_limit = 1000000

-- the job waits at an ask with a timeout
abbrev pub is_timed : Option AtAsk → Bool
is_timed None = false
is_timed (Some at) = not at.answered && is_some (timeout_of at.ask)

-- it waits, with a timeout or without one
abbrev pub waits_at : Option AtAsk → Standing
waits_at stand = if is_timed stand then standings.WaitsTimed else standings.Waits

-- what is asked is the job's end
abbrev pub is_halt : Ask → Bool
is_halt (asks.Shared (shared_asks.Halt fault)) = true
is_halt _ = false

-- the event is the end of its job
abbrev pub ends_its_job : Option Event → Bool
ends_its_job None = false
ends_its_job (Some event) = is_halt event.ask

-- Where a job stands behind a step of which this was seen, and which left the core so. One that is busy, or has nothing to read yet, waits: with a timeout
-- exactly where its ask has one. No step is unfit.
abbrev pub StandsSo : Shown → ℕ → Seen → Standing → Type 0
StandsSo core job (seen.Event at) standing = standing ≡ (if ends_its_job (slice_get core.history at) then standings.Ended else standings.Goes)
StandsSo core job (seen.Busy holder held) standing = standing ≡ waits_at (stand_at core.stands job)
StandsSo core job seen.NotYet standing = standing ≡ waits_at (stand_at core.stands job)
StandsSo core job seen.Unfit standing = ⊥
StandsSo core job seen.Ran standing = standing ≡ standings.Goes
StandsSo core job seen.Ended standing = standing ≡ standings.Ended

-- What a step comes to: what the core gives for it, and of which call to a device that comes; and where its job stands then. `tells` says which call was the
-- last to a device with these counts.
abbrev pub StepsAs : Answering → Shared → Shown → Step → Result Standing Refusal → Shown → Type 0
StepsAs tells opening old step (Ok standing) new =
    (what : Seen) × CoreStepGives opening old step (Ok what) new × DeviceStepGives tells opening old step (Ok what) new
    × StandsSo new step.job what standing
StepsAs tells opening old step (Err why) new = CoreStepGives opening old step (Err why) new × DeviceStepGives tells opening old step (Err why) new

-- how many jobs there are, ended ones among them
abbrev pub jobs_of : Shared → Shown → ℕ
jobs_of opening core = length (state_of opening core.history).rows

-- Jobs are stepped in turn from a beginning, no more often than that. It is a record so that no number of steps is unfolded.
pub record IsInTurn (tells : Answering) (opening : Shared) (most : ℕ) (old : Shown) (ending : Ending) (new : Shown) : Type 0 where
  pub turns : InTurn (jobs_of opening) (StepsAs tells opening) most 0 new_round fresh old ending new

-- what a step gave is another thing than that nobody can serve what the job asks
abbrev pub IsFitting : Result Seen Refusal → Type 0
IsFitting (Ok seen.Unfit) = ⊥
IsFitting _ = Unit {0}

-- and so of each step
abbrev pub AreFitting : List (Result Seen Refusal) → Type 0
AreFitting [] = Unit {0}
AreFitting (answer ∷ answers) = IsFitting answer × AreFitting answers

-- a list of steps of the core leads from the one to the other, of which none is unfit, and of each it is said which call to a device its reply comes from
abbrev pub AreSteps : Answering → Shared → Shown → Shown → Type 0
AreSteps tells opening old new =
    (steps : List Step) × (answers : List (Result Seen Refusal)) × RunGives opening old steps answers new
    × DeviceRunGives tells opening old steps answers new × AreFitting answers
