use Rattle.std.proofs.Common.{◌≡◌}
use Rattle.mj_replica.proofs.Pools.{after_adds}
use Rattle.mj_replica.proofs.replica.add.Given as goal

-- so many were added
abbrev pub invariant-loop : goal.invariant-loop
invariant-loop l = l.pool ≡ after_adds l.name l.counter l.fn.pool
