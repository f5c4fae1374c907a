use Rattle.mj_dev.specs.Shelves.{IsThere, Belongs}
use Rattle.mj_dev.proofs.Shelves.{rising-added, AreRising-added}
use Rattle.mj_dev.proofs.pool.Pool.add.Goals as goal

pub invariant_of-self : goal.invariant_of-self
invariant_of-self g c =
    let there : IsThere c.args.name.now c.self.inside.rows.items c.in-Ok.place = rw c.as_slice.ensures.value at c.in-Ok.ensures.there in
    rising-added c.add.result c.args.name.now c.self.inside.rows.items c.in-Ok.place c.index_mut-row.result.now c.add.new.self there c.index_mut-row.ensures.value c.add.ensures.added
    c.add.ensures.kept c.self.invariant

pub invariant_of-self-in-Err : goal.invariant_of-self-in-Err
invariant_of-self-in-Err g c =
    let absent : Belongs c.args.name.now c.self.inside.rows.items c.in-Err.place = rw c.as_slice.ensures.value at c.in-Err.ensures.absent in
    rw (c.in-Ok-insert.ensures.items, c.reserve.ensures.items, c.in_ok-row-in-Err.ensures.ok, ← absent.grows) (AreRising-added c.args.name.now c.self.inside.rows.items c.self.invariant)
