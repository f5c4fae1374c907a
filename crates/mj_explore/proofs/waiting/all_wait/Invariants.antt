use Rattle.std.proofs.Common.{◌≡◌, ◌≤◌, ℕ}
use Rattle.mj_jobs.specs.Rows.{IsLive}
use Rattle.mj_load.specs.Image.{program_of}
use Rattle.mj_sys.specs.History.{state_of}
use Rattle.mj_explore.specs.Found.{IsHeld}
use Rattle.mj_explore.proofs.waiting.all_wait.Given as goal

-- nothing was asked or told, and the jobs up to here are held
abbrev pub invariant-each : goal.invariant-each
invariant-each g l = record {
  history : l.jobs.history ≡ l.fn.jobs.history;
  image : l.jobs.image ≡ l.fn.jobs.image;
  held : (job : ℕ) → job ≤ l.done → IsLive (state_of g.O.Opening.opening l.fn.jobs.history).rows job
      → IsHeld (program_of l.fn.jobs.image) g.O.Opening.opening l.fn.jobs.history job;
}
