use Rattle.std.proofs.Common.{sym, ◌∙◌}
use Rattle.mj_dev.proofs.Shelves.{found-there, found-gap, found-end}
use Rattle.mj_dev.proofs.pool.place_for.Goals as goal

pub returns-then-is_named-clause-there : goal.returns-then-is_named-clause-there
returns-then-is_named-clause-there g c =
    found-there c.args.name.now c.args.rows.now c.in-Some.place c.index-rows-place.result (sym c.first_behind.ensures ∙ c.in-Some.is) c.index-rows-place.is
    (sym c.is_named.ensures ∙ c.if-is_named.true)

pub returns-else-is_named-clause-absent : goal.returns-else-is_named-clause-absent
returns-else-is_named-clause-absent g c =
    found-gap c.args.name.now c.args.rows.now c.in-Some.place c.index-rows-place.result (sym c.first_behind.ensures ∙ c.in-Some.is) c.index-rows-place.is (sym c.is_named.ensures ∙ c.if-is_named.false)

pub returns-in-None-clause-absent : goal.returns-in-None-clause-absent
returns-in-None-clause-absent g c = found-end c.args.name.now c.args.rows.now (sym c.first_behind.ensures ∙ c.in-None.is)
