use Rattle.std.proofs.Common.{ℕ, ◌<◌}
use Rattle.mj_describe.specs.Elsewhere.{IsThere}
use Rattle.mj_describe.proofs.elsewhere.first_elsewhere.Given as goal

abbrev pub invariant-loop-place : goal.invariant-loop-place
invariant-loop-place l = (k : ℕ) → k < l.place → IsThere l.events l.spots k
