use Rattle.std.proofs.Common.{ℕ, drop}
use Rattle.std.specs.List.{All}
use Rattle.mj_sys.specs.History.{state_of}
use Rattle.mj_gather.specs.Gathered.{StartDiffers}
use Rattle.mj_gather.specs.Found.{IsSound}
use Rattle.mj_gather.proofs.gathering.start_differs.Given as goal

abbrev pub invariant-loop-ran : goal.invariant-loop-ran
invariant-loop-ran g l =
    ((job : ℕ) → StartDiffers (state_of g.O.Opening.opening l.system.history).rows (drop l.ran-index l.rans) job
    → StartDiffers (state_of g.O.Opening.opening l.system.history).rows l.rans job)
    × (All (λ r. IsSound (state_of g.O.Opening.opening l.system.history).rows r) (drop l.ran-index l.rans)
    → All (λ r. IsSound (state_of g.O.Opening.opening l.system.history).rows r) l.rans)
