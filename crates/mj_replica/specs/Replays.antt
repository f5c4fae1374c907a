-- When a recorded event isn't made, and what a replay of recorded events says.
use Rattle.std.specs.Prelude.{◌≡◌, ℕ, ◌≤◌, List, [], ◌∷◌, ◌++◌, Some, map, take, slice_get, ◌⊎◌}
use Rattle.mj_ask.specs.declared.noted.Noted.{Noted}
use Rattle.mj_semantics.specs.Program.{Program}
use Rattle.mj_jobs.specs.Rows.{Row, row_at}
use Rattle.mj_jobvm.specs.Run.{GoesOn}
use Rattle.mj_sys.specs.declared.event.Event.{Event}
use Rattle.mj_sys.specs.Shared.{Shared}
use Rattle.mj_sys.specs.History.{History, state_of, log_of}
use Rattle.mj_core.specs.Runs.{IsRun, start_in}
use Rattle.mj_replica.specs.declared.replaying.Verdict.{Verdict}
use Rattle.mj_replica.specs.declared.replaying.Verdict.TheVariants as verdicts

-- an event as it is recorded: its job, what that asked, and what it was told, but not where the ask came from
abbrev pub event_of : Noted → Event
event_of e = record { job = e.job; ask = e.ask; reply = e.reply }

abbrev pub history_of : List Noted → History
history_of events = map event_of events

-- the turns that a job is let go on for behind a reply: one that asks nothing in them may be taken for one that never does
abbrev pub turns_limit : ℕ
turns_limit = 10000000000

-- behind a history the job's run is still going after so many turns
abbrev pub IsLong : Program → Shared → History → ℕ → Type 0
IsLong program opening front job =
    (row : Row) × (row_at (state_of opening front).rows job ≡ Some row)
    × ((turns : ℕ) × (turns_limit ≤ turns) × GoesOn program (start_in job row.start) (log_of job front) turns)

-- an event isn't made behind a history: with it that is no run; or its job goes on for too long
abbrev pub IsUnmade : Program → Shared → History → Event → Type 0
IsUnmade program opening front e = (IsRun program opening (front ++ e ∷ []) → ⊥) ⊎ IsLong program opening front e.job

-- the first event that isn't made stands at this place, from 0: those before it are a run
pub record IsFirstUnmade (program : Program) (opening : Shared) (history : History) (at : ℕ) : Type 0 where
  pub event : Event
  pub there : slice_get history at ≡ Some event
  pub before : IsRun program opening (take at history)
  pub unmade : IsUnmade program opening (take at history) event

-- what a replay says: all is a run of its opening; or which event is the first that isn't made
abbrev pub Says : Program → Shared → History → Verdict → Type 0
Says program opening history verdicts.Same = IsRun program opening history
Says program opening history (verdicts.Differs at) = IsFirstUnmade program opening history at
