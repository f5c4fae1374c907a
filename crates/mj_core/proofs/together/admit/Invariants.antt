use Rattle.mj_core.proofs.Admitting.{AreAdmitted}
use Rattle.mj_core.proofs.together.admit.Given as goal

abbrev pub invariant-loop : goal.invariant-loop
invariant-loop g l = AreAdmitted g.A.Answerer.answering l.fn.image g.O.Opening.opening l.fn.order l.fn.at l.fn.system l.fn.slots.items l.system l.slots.items l.waiting l.counter l.end
