use Rattle.std.proofs.Common.{◌≡◌}
use Rattle.mj_replica.proofs.Pools.{so_far}
use Rattle.mj_replica.proofs.replica.pool_of.Given as goal

-- the names from that one on are there
abbrev pub invariant-loop-left : goal.invariant-loop-left
invariant-loop-left l = l.pool ≡ so_far l.counts l.left
