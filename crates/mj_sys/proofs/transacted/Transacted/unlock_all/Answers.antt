use Rattle.mj_sys.proofs.transacted.Transacted.unlock_all.Goals as goal

pub invariant_of-self : goal.invariant_of-self
invariant_of-self c =
    let i = c.self.inside in
    let out = c.take_out-own.ensures.open i.globals c.self.invariant in
    c.put_back.ensures.open i.globals (c.unlock_all-told.ensures.open i.globals out.0) out.1
