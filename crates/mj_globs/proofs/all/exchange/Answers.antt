use Rattle.std.proofs.Common.{◌∙◌}
use Rattle.mj_subs.specs.Collation.{name_cmp}
use Rattle.mj_subs.specs.Laws.Total.{name_cmp_total}
use Rattle.mj_tree.specs.Undo.{restored}
use Rattle.mj_tree.proofs.Undo.{undone_written, undone_refused}
use Rattle.mj_globs.proofs.Stamping.{rises_then}
use Rattle.mj_globs.proofs.Lists.{keeps_returned}
use Rattle.mj_globs.proofs.all.exchange.Goals as goal

pub returns-in-Ok-clause-before : goal.returns-in-Ok-clause-before
returns-in-Ok-clause-before c =
    undone_written name_cmp name_cmp_total c.args.name c.in_ok-before.before c.args.text.now c.args.globals.now.content c.set.new.self.content c.rises.ensures
    c.in_ok-before.ensures c.in_ok-set.ensures.ok c.args.log.now.items c.push.new.self.items c.in-Ok.ensures.items

pub returns-in-Err-clause-before : goal.returns-in-Err-clause-before
returns-in-Err-clause-before c =
    undone_refused name_cmp name_cmp_total c.args.name c.in_ok-before.before c.args.text.now c.args.globals.now.content c.set.new.self.content c.rises.ensures
    c.in_ok-before.ensures c.in_ok-set.ensures.ok c.args.log.now.items c.push.new.self.items c.restore.new.self.content c.in-Err.ensures.items
    (c.restore.ensures.content ∙ (λ i. restored name_cmp (c.in-Err.ensures.value_returned i).0 (c.in-Err.ensures.value_returned i).1 c.set.new.self.content))

pub returns-in-Err-clause-stamps : goal.returns-in-Err-clause-stamps
returns-in-Err-clause-stamps c = rises_then _ _ _ c.set.ensures.stamps c.restore.ensures.stamps

pub returns-in-Err-clause-others : goal.returns-in-Err-clause-others
returns-in-Err-clause-others c =
    keeps_returned _ c.args.name c.args.globals.now.stamps c.set.new.self.stamps c.restore.new.self.stamps (λ i. (c.in-Err.ensures.value_returned i).0) c.set.ensures.others c.restore.ensures.others
