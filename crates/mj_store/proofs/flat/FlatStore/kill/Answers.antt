use Rattle.mj_store.proofs.Places.{rises_kill}
use Rattle.mj_store.proofs.flat.FlatStore.kill.Goals as goal

pub invariant_of-self : goal.invariant_of-self
invariant_of-self c = rw c.kill.ensures (rises_kill c.self.inside.entries.items c.args.name.now c.self.invariant)
