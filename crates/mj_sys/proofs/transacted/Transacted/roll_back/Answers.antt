use Rattle.mj_sys.proofs.transacted.Transacted.roll_back.Goals as goal

pub invariant_of-self : goal.invariant_of-self
invariant_of-self c = (c.take_out-own.ensures.open c.self.inside.globals c.self.invariant).1
