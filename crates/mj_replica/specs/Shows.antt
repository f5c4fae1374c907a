-- What is shown of a job behind the first events of a record.
use Rattle.std.specs.Prelude.{◌≡◌, ℕ, List, [], ◌∷◌, ◌++◌, Some, ◌⊎◌}
use Rattle.mj_ask.specs.declared.ask.Ask.{Ask}
use Rattle.mj_ask.specs.declared.ask.Reply.{Reply}
use Rattle.mj_semantics.specs.Program.{Program}
use Rattle.mj_semantics.specs.State.{Locals, Place}
use Rattle.mj_semantics.specs.Outcome as outcomes
use Rattle.mj_semantics.specs.Job.{Start, next}
use Rattle.mj_jobs.specs.Rows.{Row, row_at}
use Rattle.mj_jobvm.specs.Run.{Log, replies_of}
use Rattle.mj_sys.specs.Shared.{Shared}
use Rattle.mj_sys.specs.History.{History, state_of, log_of}
use Rattle.mj_core.specs.Runs.{start_in}

-- With these locals, and with its frames at these lines, the innermost first, a job stood at the ask of the last entry of its log, before the reply.
-- One without an entry has no local and no frame.
abbrev pub Stood : Program → Start → Log → Locals → List Place → Type 0
Stood program start log locals places =
    ((log ≡ []) × (locals ≡ []) × (places ≡ []))
    ⊎ ((earlier : Log) × (a : Ask) × (reply : Reply) × (log ≡ earlier ++ (a, reply) ∷ [])
    × ((n : ℕ) × (next program start n (replies_of earlier) ≡ outcomes.Needs a locals places)))

-- behind these events the job has a row, and stood so at its last ask there
abbrev pub HasStood : Program → Shared → History → ℕ → Locals → List Place → Type 0
HasStood program opening front job locals places =
    (row : Row) × (row_at (state_of opening front).rows job ≡ Some row) × Stood program (start_in job row.start) (log_of job front) locals places
