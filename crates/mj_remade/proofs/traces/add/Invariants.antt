use Rattle.mj_replica.specs.Replicas.{AreWhole}
use Rattle.mj_remade.proofs.traces.add.Given as goal

-- of no device something was taken
abbrev pub invariant-devices : goal.invariant-devices
invariant-devices l = AreWhole l.pool
