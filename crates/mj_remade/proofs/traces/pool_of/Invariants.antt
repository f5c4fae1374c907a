use Rattle.mj_replica.specs.Replicas.{AreWhole}
use Rattle.mj_remade.proofs.traces.pool_of.Given as goal

-- of no device something was taken
abbrev pub invariant-names : goal.invariant-names
invariant-names l = AreWhole l.pool
