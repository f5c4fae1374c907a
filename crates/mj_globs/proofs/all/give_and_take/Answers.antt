use Rattle.std.proofs.Common.{ap, ◌∙◌}
use Rattle.mj_subs.specs.Collation.{name_cmp}
use Rattle.mj_tree.specs.Undo.{undone}
use Rattle.mj_globs.specs.Changes.{are_to}
use Rattle.mj_globs.proofs.Taken.{in_parts}
use Rattle.mj_globs.proofs.Stamping.{rises_then, keeps_then}
use Rattle.mj_globs.proofs.Lists.{on_err}
use Rattle.mj_globs.proofs.all.give_and_take.Goals as goal

pub returns-clause-ok : goal.returns-clause-ok
returns-clause-ok c =
    in_parts c.args.globals.now.content c.args.changes.now c.in_ok-alone.alone.content c.give_all.new.globals.content c.take_ungiven.new.globals.content
    c.rises.ensures c.in_ok-alone.ensures c.in_ok-give_all.ensures.ok c.in_ok-take_ungiven.ensures.ok

pub returns-clause-stamps : goal.returns-clause-stamps
returns-clause-stamps c = rises_then _ _ _ c.give_all.ensures.stamps c.take_ungiven.ensures.stamps

pub returns-clause-others : goal.returns-clause-others
returns-clause-others c =
    keeps_then (are_to c.args.changes.now) c.args.globals.now.stamps c.give_all.new.globals.stamps c.take_ungiven.new.globals.stamps c.give_all.ensures.others c.take_ungiven.ensures.others

pub returns-in_err-take_ungiven-clause-before : goal.returns-in_err-take_ungiven-clause-before
returns-in_err-take_ungiven-clause-before c =
    on_err c.from_residual-in_err-take_ungiven.result (ap (undone name_cmp c.give_all.new.log.items) c.in_err-take_ungiven.ensures.err ∙ c.give_all.ensures.before)

pub returns-in_err-take_ungiven-clause-stamps : goal.returns-in_err-take_ungiven-clause-stamps
returns-in_err-take_ungiven-clause-stamps c = rises_then _ _ _ c.give_all.ensures.stamps c.take_ungiven.ensures.stamps
