use Rattle.mj_store.proofs.Places.{rises_change}
use Rattle.mj_store.proofs.flat.FlatStore.set.Goals as goal

pub invariant_of-self : goal.invariant_of-self
invariant_of-self c = rises_change c.set.result c.self.inside.entries.items c.set.new.entries.items c.args.name.now c.args.text.now c.set.ensures.ok c.set.ensures.err c.self.invariant
