use Rattle.std.proofs.Common.{ℕ, ◌<◌, ◌≤◌}
use Rattle.mj_jobs.specs.Rows.{IsLive}
use Rattle.mj_sys.specs.History.{state_of}
use Rattle.mj_replica.proofs.replica.Replica.lowest.Given as goal

-- none of those so far goes on
abbrev pub invariant-loop-job : goal.invariant-loop-job
invariant-loop-job g l = (other : ℕ) → l.from ≤ other → other < l.job → IsLive (state_of g.O.Opening.opening l.self.system.history).rows other → ⊥
