-- That a job whose run is over has halted.
use Rattle.std.specs.Prelude.{◌≡◌, ℕ, List, Some}
use Rattle.mj_semantics.specs.Program.{Program}
use Rattle.mj_jobs.specs.Rows.{Row, row_at, IsLive}
use Rattle.mj_jobvm.specs.Run.{HasEnded}
use Rattle.mj_jobvm.specs.Halted.{EndsInHalt}
use Rattle.mj_sys.specs.Shared.{Shared}
use Rattle.mj_sys.specs.History.{History, state_of, log_of}
use Rattle.mj_core.specs.Runs.{IsRun, start_in}

-- in every run of many jobs, a job whose own run is over with its events has asked its halt last, and its row isn't that of a job that goes on
abbrev pub HasHalted : Type 0
HasHalted =
    (program : Program) (opening : Shared) (history : History) → IsRun program opening history
    → (job : ℕ) (row : Row) → row_at (state_of opening history).rows job ≡ Some row → HasEnded program (start_in job row.start) (log_of job history)
    → EndsInHalt (log_of job history) × (IsLive (state_of opening history).rows job → ⊥)
