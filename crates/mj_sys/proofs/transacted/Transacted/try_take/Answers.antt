use Rattle.mj_sys.proofs.transacted.Transacted.try_take.Goals as goal

pub invariant_of-self : goal.invariant_of-self
invariant_of-self c =
    let i = c.self.inside in
    let out = c.take_out-own.ensures.open i.globals c.self.invariant in
    c.put_back.ensures.open i.globals (c.try_take-taken.ensures.open i.globals out.0) out.1
