-- What a step gives.
use Rattle.std.specs.Prelude.{◌≡◌, ℕ, ◌+◌, ◌^◌, ◌≤◌, ◌<◌, min, List, [], ◌∷◌, ◌++◌, length, Bool, true, false, Option, Some, None, Result, Ok, Err, ◌⊎◌}
use Rattle.mj_ask.specs.declared.ask.Ask.{Ask}
use Rattle.mj_ask.specs.declared.ask.Reply.{Reply}
use Rattle.mj_ask.specs.declared.ask.Reply.TheVariants as replies
use Rattle.mj_ask.specs.Fits.{fits, is_shared, timeout_of}
use Rattle.mj_semantics.specs.Program.{Program}
use Rattle.mj_semantics.specs.State.{Locals, Place}
use Rattle.mj_semantics.specs.Outcome as outcomes
use Rattle.mj_semantics.specs.Job.{Start, next}
use Rattle.mj_load.specs.Image.{program_of}
use Rattle.mj_jobs.specs.Rows.{Row, row_at, IsLive}
use Rattle.mj_jobvm.specs.declared.job.Turn.{Turn}
use Rattle.mj_jobvm.specs.declared.job.Turn.TheVariants as turns
use Rattle.mj_jobvm.specs.Run.{Log, replies_of, GoesOn}
use Rattle.mj_ask.specs.Late.{is_timed_out}
use Rattle.mj_sessions.specs.Asked.{Answering}
use Rattle.mj_sys.specs.Shared.{Shared, served}
use Rattle.mj_sys.specs.History.{state_of, log_of}
use Rattle.mj_sys.specs.System.{KeepsBusy}
use Rattle.mj_core.specs.declared.seen.Seen.{Seen}
use Rattle.mj_core.specs.declared.seen.Seen.TheVariants as seen
use Rattle.mj_steps.specs.declared.step.Refusal.{Refusal}
use Rattle.mj_steps.specs.declared.step.Refusal.TheVariants as refusals
use Rattle.mj_steps.specs.declared.step.Step.{Step}
use Rattle.mj_steps.specs.declared.step.Way.{Way}
use Rattle.mj_steps.specs.declared.step.Way.TheVariants as ways
use Rattle.mj_core.specs.Shown.{AtAsk, Shown, was_over, with_over, spent_by, with_spent, stand_at, with_stand}
use Rattle.mj_core.specs.Having.{has_session}
use Rattle.mj_core.specs.Meaning.{Means}
use Rattle.mj_core.specs.Serving.{serving, calling}
use Rattle.mj_core.specs.Runs.{start_in}

-- the turns that a step lets a job go on for
abbrev pub fuel : ℕ
fuel = 10000

-- the most turns that are counted
abbrev pub spent_limit : ℕ
spent_limit = 2 ^ 63

-- after this log the job asks this
abbrev pub Makes : Program → Start → Log → Ask → Type 0
Makes program start log a = (n : ℕ) × (locals : Locals) × (at : List Place) × (next program start n (replies_of log) ≡ outcomes.Needs a locals at)

-- after this log the job waits for a reply: this is what it asks, with its locals and the places of its frames there
abbrev pub Waits : Program → Start → Log → AtAsk → Type 0
Waits program start log at = ((n : ℕ) × (next program start n (replies_of log) ≡ outcomes.Needs at.ask at.locals at.places)) × (at.answered ≡ false)

-- By this log the job stands at that ask: it waits for the reply behind the log; or the reply is the log's last, and it waited for it before.
abbrev pub StandsAt : Program → Start → Log → AtAsk → Type 0
StandsAt program start log at =
    Waits program start log at
    ⊎ ((earlier : Log) × (reply : Reply) × (log ≡ earlier ++ (at.ask, reply) ∷ []) × Waits program start earlier (record at { answered = false })
    × (at.answered ≡ true))

-- the job has its reply, and hasn't gone on
abbrev pub answered : AtAsk → AtAsk
answered at = record at { answered = true }

-- a job stands so now, or at no ask; all else is as it was
abbrev pub stands_so : Shown → ℕ → Option AtAsk → Shown
stands_so old job stand = record old { stands = with_stand old.stands job stand }

-- A job that stands so may go on: it stands at no ask, or has its reply. One that waits may not.
abbrev pub MayGoOn : Option AtAsk → Type 0
MayGoOn stand = (at : AtAsk) → stand ≡ Some at → at.answered ≡ true

-- what is asked has a timeout where the step is late
abbrev pub IsTimely : Bool → Ask → Type 0
IsTimely late a = late ≡ true → timeout_of a ≡ None → ⊥

-- the reply is one that the ask is told: what the shared state serves as that serves it, and else late only where the timeout is over
pub record IsReplyTold (s : Shared) (job : ℕ) (a : Ask) (late : Bool) (reply : Reply) (s' : Shared) : Type 0 where
  pub fit : fits a reply ≡ true
  pub shared : is_shared a ≡ true → served s job a late ≡ Some (reply, s')
  pub in_time : is_shared a ≡ false → reply ≡ replies.Late → is_timed_out (timeout_of a) late ≡ true

-- When a step of a job isn't made that stood so, and how the job stands then: the step is late, and the job waits with an ask that has no timeout; or memory
-- was refused to a job that could go on, on its way, and it stands at no ask, so that it doesn't wait; or where it waits, and there it stands. So a job that
-- waits is shown, and stays shown.
abbrev pub IsStepRefused : Program → Start → Log → Option AtAsk → Bool → Refusal → Option AtAsk → Type 0
IsStepRefused program start log stood late refusals.NotTimed stand =
    (late ≡ true) × ((at : AtAsk) × Waits program start log at × (timeout_of at.ask ≡ None) × (stand ≡ Some at))
IsStepRefused program start log stood late refusals.Memory stand =
    (MayGoOn stood × (stand ≡ None)) ⊎ ((at : AtAsk) × Waits program start log at × (stand ≡ Some at))
IsStepRefused program start log stood late _ stand = ⊥

-- a job that could go on does so for all turns of a step, and asks nothing: so it stands at no ask
abbrev pub RunsOn : Program → ℕ → Start → Shown → Shown → Type 0
RunsOn program job start old new =
    (turns : ℕ) × (turns ≡ min (spent_by old.spent job + fuel) spent_limit) × GoesOn program start (log_of job old.history) turns
    × MayGoOn (stand_at old.stands job) × (new ≡ record old { spent = with_spent old.spent job turns; stands = with_stand old.stands job None })

-- What a step of a live job gives, for which this reply of a device is given or none: an event, of what the job asks after its events so far, which is
-- told its reply; what keeps it busy; that there is nothing to read yet; that nobody can answer it; or that it goes on for all turns of the step.
abbrev pub LiveStepGives : Means → Program → Shared → ℕ → Start → Bool → Option Reply → Shown → Seen → Shown → Type 0
LiveStepGives means program opening job start late given old (seen.Event place) new =
    (at : AtAsk) × (reply : Reply) × Waits program start (log_of job old.history) at × IsTimely late at.ask
    × IsReplyTold (state_of opening old.history) job at.ask late reply (state_of opening new.history)
    × means.Told (log_of job old.history) given at.ask late reply ((place ≡ length old.history)
    × (new ≡ record old {
      history = old.history ++ record { job = job; ask = at.ask; reply = reply } ∷ [];
      spent = with_spent old.spent job 0;
      stands = with_stand old.stands job (Some (answered at));
    }))
LiveStepGives means program opening job start late given old (seen.Busy holder held) new =
    (at : AtAsk) × Waits program start (log_of job old.history) at × IsTimely late at.ask
    × (served (state_of opening old.history) job at.ask late ≡ None) × KeepsBusy (state_of opening old.history) job at.ask holder held
    × (new ≡ stands_so old job (Some at))
LiveStepGives means program opening job start late given old seen.NotYet new =
    (at : AtAsk) × Waits program start (log_of job old.history) at × IsTimely late at.ask
    × means.NotYet (log_of job old.history) at.ask late (new ≡ stands_so old job (Some at))
LiveStepGives means program opening job start late given old seen.Unfit new =
    (at : AtAsk) × Waits program start (log_of job old.history) at × IsTimely late at.ask
    × means.Unfit (state_of opening old.history) (log_of job old.history) (λ name. has_session opening job name old.history) at.ask late given
    (new ≡ stands_so old job (Some at))
LiveStepGives means program opening job start late given old seen.Ran new = RunsOn program job start old new
LiveStepGives means program opening job start late given old seen.Ended new = ⊥

-- the job's row isn't that of a job that goes on
abbrev pub IsDone : Shared → Shown → ℕ → Type 0
IsDone opening old job = IsLive (state_of opening old.history).rows job → ⊥

-- What a step of a job gives that has a row, whose end wasn't seen, where the history has room: its job has halted, which is seen now, and no other
-- job's end is; or it goes on; or its step isn't made, at once for want of memory, or behind some turns.
abbrev pub JobStepGives : Means → Shared → Shown → ℕ → Row → Bool → Option Reply → Result Seen Refusal → Shown → Type 0
JobStepGives means opening old job row late given (Ok seen.Ended) new = IsDone opening old job × (new ≡ record old { over = with_over old.over job })
JobStepGives means opening old job row late given (Ok what) new =
    IsLive (state_of opening old.history).rows job × LiveStepGives means (program_of old.image) opening job (start_in job row.start) late given old what new
JobStepGives means opening old job row late given (Err why) new =
    ((why ≡ refusals.Memory) × (new ≡ old))
    ⊎ ((stand : Option AtAsk)
    × IsStepRefused (program_of old.image) (start_in job row.start) (log_of job old.history) (stand_at old.stands job) late why stand
    × (new ≡ stands_so old job stand))

-- whether a step is late
abbrev pub is_late : Way → Bool
is_late ways.Go = false
is_late ways.Late = true

-- What a step gives, for which this reply of a device is given or none. That there is no such job is tested first; then that its end was seen; then that
-- the history is full, as the image's bounds say.
abbrev pub StepGivesBy : Means → Shared → Shown → Step → Option Reply → Result Seen Refusal → Shown → Type 0
StepGivesBy means opening old step given answer new =
    ((row_at (state_of opening old.history).rows step.job ≡ None) × (answer ≡ Err refusals.NoJob) × (new ≡ old))
    ⊎ ((row : Row) × (row_at (state_of opening old.history).rows step.job ≡ Some row)
    × (((was_over old.over step.job ≡ true) × (answer ≡ Err refusals.Ended) × (new ≡ old))
    ⊎ ((was_over old.over step.job ≡ false) × (old.image.bounds.events ≤ length old.history) × (answer ≡ Err refusals.Full) × (new ≡ old))
    ⊎ ((was_over old.over step.job ≡ false) × (length old.history < old.image.bounds.events)
    × JobStepGives means opening old step.job row (is_late step.way) given answer new)))

-- What a step gives where a job's own sessions serve what it asks a device.
abbrev pub CoreStepGives : Shared → Shown → Step → Result Seen Refusal → Shown → Type 0
CoreStepGives opening old step answer new = StepGivesBy serving opening old step None answer new

-- What a step gives, and which call to a device each reply comes from: `tells` says which call was the last to a device with these counts.
abbrev pub DeviceStepGives : Answering → Shared → Shown → Step → Result Seen Refusal → Shown → Type 0
DeviceStepGives tells opening old step answer new = StepGivesBy (calling tells) opening old step None answer new

-- and so of a job
abbrev pub Made : Shared → Shown → ℕ → Row → Bool → Result Seen Refusal → Shown → Type 0
Made opening old job row late answer new = JobStepGives serving opening old job row late None answer new

-- these steps give these answers, one for each, one after the other
abbrev pub RunGivesBy : Means → Shared → Shown → List Step → List (Result Seen Refusal) → Shown → Type 0
RunGivesBy means opening old [] [] new = new ≡ old
RunGivesBy means opening old (step ∷ steps) (answer ∷ answers) new =
    (mid : Shown) × StepGivesBy means opening old step None answer mid × RunGivesBy means opening mid steps answers new
RunGivesBy means opening old [] (answer ∷ answers) new = ⊥
RunGivesBy means opening old (step ∷ steps) [] new = ⊥

-- They do where a job's own sessions serve what it asks a device.
abbrev pub RunGives : Shared → Shown → List Step → List (Result Seen Refusal) → Shown → Type 0
RunGives opening old steps answers new = RunGivesBy serving opening old steps answers new

-- They do, and it is said of each which call to a device its reply comes from.
abbrev pub DeviceRunGives : Answering → Shared → Shown → List Step → List (Result Seen Refusal) → Shown → Type 0
DeviceRunGives tells opening old steps answers new = RunGivesBy (calling tells) opening old steps answers new

-- What comes of making a job ready that has a row, and whose end wasn't seen. It asks, and waits there, as it isn't told; or it goes on for all turns of a
-- step; or it has halted, which no step has seen yet; or memory was refused, before it went on, or on its way: so of a job that could go on.
abbrev pub Readies : Shared → Shown → ℕ → Row → Result Turn Refusal → Shown → Type 0
Readies opening old job row (Ok turns.Asks) new =
    (at : AtAsk) × Waits (program_of old.image) (start_in job row.start) (log_of job old.history) at × (new ≡ stands_so old job (Some at))
Readies opening old job row (Ok turns.Ran) new = RunsOn (program_of old.image) job (start_in job row.start) old new
Readies opening old job row (Ok turns.Ended) new = IsDone opening old job × (new ≡ old)
Readies opening old job row (Err why) new =
    (why ≡ refusals.Memory) × ((new ≡ old) ⊎ (MayGoOn (stand_at old.stands job) × (new ≡ stands_so old job None)))

-- What comes of making a job ready, whichever it is. That there is no such job is tested first, and then that its end was seen.
abbrev pub GivesReady : Shared → Shown → ℕ → Result Turn Refusal → Shown → Type 0
GivesReady opening old job answer new =
    ((row_at (state_of opening old.history).rows job ≡ None) × (answer ≡ Err refusals.NoJob) × (new ≡ old))
    ⊎ ((row : Row) × (row_at (state_of opening old.history).rows job ≡ Some row)
    × (((was_over old.over job ≡ true) × (answer ≡ Err refusals.Ended) × (new ≡ old))
    ⊎ ((was_over old.over job ≡ false) × Readies opening old job row answer new)))
