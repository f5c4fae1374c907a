use Rattle.std.proofs.Common.{◌<◌, ◌∙◌, arith}
use Rattle.mj_dev.specs.Shelves.{IsThere, Belongs}
use Rattle.mj_dev.proofs.Adding.{with-there, rising-there, with-absent, AreRising-more}
use Rattle.mj_dev.proofs.pool.Pool+Blank.add_many.Goals as goal

pub invariant_of-self : goal.invariant_of-self
invariant_of-self c =
    let some : 0 < c.args.count = omega (arith, c.if-count-eq0.false) in
    let there : IsThere c.args.name.now c.self.inside.rows.items c.in-Ok.place = rw c.as_slice.ensures.value at c.in-Ok.ensures.there in
    rising-there c.add_many.result c.args.count c.args.name.now c.self.inside.rows.items c.in-Ok.place c.index_mut-row.result.now c.add_many.new.self some there
    c.index_mut-row.ensures.value c.add_many.ensures.added c.add_many.ensures.kept c.self.invariant

pub invariant_of-self-in-Err : goal.invariant_of-self-in-Err
invariant_of-self-in-Err c =
    let some : 0 < c.args.count = omega (arith, c.if-count-eq0.false) in
    let absent : Belongs c.args.name.now c.self.inside.rows.items c.in-Err.place = rw c.as_slice.ensures.value at c.in-Err.ensures.absent in
    rw (c.in-Ok-insert.ensures.items, c.reserve.ensures.items, c.in_ok-row-in-Err.ensures, with-absent c.args.count c.args.name.now c.self.inside.rows.items c.in-Err.place some absent)
    (AreRising-more c.args.count c.args.name.now c.self.inside.rows.items c.self.invariant)

pub returns-in-Ok-clause-added : goal.returns-in-Ok-clause-added
returns-in-Ok-clause-added c =
    let some : 0 < c.args.count = omega (arith, c.if-count-eq0.false) in
    let there : IsThere c.args.name.now c.self.inside.rows.items c.in-Ok.place = rw c.as_slice.ensures.value at c.in-Ok.ensures.there in
    rw (← c.self.view_is)
    (with-there c.add_many.result c.args.count c.args.name.now c.self.inside.rows.items c.in-Ok.place c.index_mut-row.result.now c.add_many.new.self some there
    c.index_mut-row.ensures.value c.add_many.ensures.added)

pub returns-in-Ok-insert-clause-added : goal.returns-in-Ok-insert-clause-added
returns-in-Ok-insert-clause-added c =
    let some : 0 < c.args.count = omega (arith, c.if-count-eq0.false) in
    let absent : Belongs c.args.name.now c.self.inside.rows.items c.in-Err.place = rw c.as_slice.ensures.value at c.in-Err.ensures.absent in
    rw (c.in-Ok-insert.ensures.items, c.reserve.ensures.items, c.in_ok-row-in-Err.ensures, ← c.self.view_is)
    (with-absent c.args.count c.args.name.now c.self.inside.rows.items c.in-Err.place some absent)
