-- That what jobs ask of devices in a run can be served.
use Rattle.std.specs.Prelude.{◌≡◌, ℕ, List, Bool, Option, Some, None, Ok}
use Rattle.mj_ask.specs.Started.{Started}
use Rattle.mj_ask.specs.declared.ask.Ask.{Ask}
use Rattle.mj_ask.specs.declared.ask.Reply.{Reply}
use Rattle.mj_semantics.specs.Program.{Program}
use Rattle.mj_store.specs.Questions.{Content}
use Rattle.mj_dev.specs.Shelves.{Shelf}
use Rattle.mj_semantics.specs.Job.{Start}
use Rattle.mj_load.specs.Image.{Loaded, program_of}
use Rattle.mj_jobs.specs.Rows.{Row, row_at}
use Rattle.mj_jobvm.specs.Run.{Log, IsTrace}
use Rattle.mj_jobvm.specs.Jobs.{Running}
use Rattle.mj_jobvm.specs.Fit.{first_links, links_after}
use Rattle.mj_sessions.specs.Asked.{Answering}
use Rattle.mj_sessions.specs.Named.{Roomy}
use Rattle.mj_sys.specs.Devices.{holder_of}
use Rattle.mj_sys.specs.Shared.{Shared}
use Rattle.mj_sys.specs.Opening.{opening_of}
use Rattle.mj_sys.specs.History.{History, state_of, log_of}
use Rattle.mj_sys.specs.System.{Claimed}
use Rattle.mj_steps.specs.declared.step.Step.{Step}
use Rattle.mj_core.specs.declared.parts.Made.TheVariants as made
use Rattle.mj_core.specs.declared.seen.Seen.TheVariants as seen
use Rattle.mj_core.specs.Runs.{IsRun, start_in}
use Rattle.mj_core.specs.Shown.{Shown}
use Rattle.mj_core.specs.Having.{has_session, IsUnfitBy}
use Rattle.mj_core.specs.Gives.{Makes, CoreStepGives}
use Rattle.mj_core.specs.Answering.{HasAll}
use Rattle.mj_core.specs.BySessions.{by_sessions}
use Rattle.mj_core.specs.Ties.{IsJobOf, Talks}

-- no job holds a device
abbrev pub NoneIsHeld : Shared → Type 0
NoneIsHeld s = (name : List ℕ) → holder_of s.devices name ≡ None

-- so it is at the opening of a system
abbrev pub OpensFree : Type 0
OpensFree = (globals : Content) (shelves : List Shelf) (starts : List Started) → NoneIsHeld (opening_of globals shelves starts)

-- In every run what a job asks next can be served
abbrev pub AllAreServed : Type 0
AllAreServed =
    (program : Program) (opening : Shared) (history : History) (job : ℕ) (row : Row) (a : Ask) → NoneIsHeld opening → IsRun program opening history
    → row_at (state_of opening history).rows job ≡ Some row → Makes program (start_in job row.start) (log_of job history) a
    → IsUnfitBy (state_of opening history) (log_of job history) (λ name. has_session opening job name history) a → ⊥

-- and no step of a core is unfit whose history is a run
abbrev pub NoStepIsUnfit : Type 0
NoStepIsUnfit =
    (opening : Shared) (old new : Shown) (step : Step) → NoneIsHeld opening → IsRun (program_of old.image) opening old.history
    → CoreStepGives opening old step (Ok seen.Unfit) new → ⊥

-- whether a job has a session with the device of a name, by the replies of its log alone
abbrev pub has_by : Log → List ℕ → Bool
has_by log name = (links_after first_links log name).session

-- Behind each trace of a job's run, what it asks next can be served where it has these sessions, whatever is shared.
abbrev pub AllAreServedBy : Type 0
AllAreServedBy =
    (program : Program) (start : Start) (log : Log) (s : Shared) (a : Ask) → IsTrace program start log → Makes program start log a
    → IsUnfitBy s log (has_by log) a → ⊥

-- So `talk` finds no job unfit that is that of its claim, whatever the system is, and has these sessions. `tells` says which call was the last to a device
-- with these counts.
abbrev pub NoTalkIsUnfit : Answering → Type 0
NoTalkIsUnfit tells =
    (image : Loaded) (claim : Claimed) (job job' : Running) (x x' : Roomy) (a : Ask) (late : Bool) (given : Option Reply)
    → IsJobOf (by_sessions tells) image claim job x → job.run.pending ≡ Some a → HasAll (by_sessions tells) x (has_by job.run.log)
    → Talks (by_sessions tells) job x a late given made.Unfit job' x' → ⊥
