use Rattle.mj_replica.proofs.Admitting.{AreAdmitted}
use Rattle.mj_replica.proofs.replaying.admit.Given as goal

abbrev pub invariant-loop : goal.invariant-loop
invariant-loop g l = AreAdmitted l.fn.image g.O.Opening.opening l.fn.system l.fn.jobs.items l.system l.jobs.items l.counter
