-- How a job starts.
use Rattle.std.specs.Prelude.{ℕ}
use Rattle.mj_semantics.specs.Job as jobs
use Rattle.mj_machine.specs.declared.machine.Machine.{Machine}
use Rattle.mj_turn.specs.declared.start.Start.{Start}

abbrev pub start_of : Start → jobs.Start
start_of s = record { job = s.job; entry = s.entry; values = s.values.items }

-- how many writes and restarts were done, and how many asks were replied to
abbrev pub counts : Machine → ℕ × ℕ × ℕ
counts m = (m.devices.writes, m.restarts, m.replied)
