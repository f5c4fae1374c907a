use Rattle.std.proofs.Common.{◌∙◌}
use Rattle.std.specs.Cmp.Lexicographic.{slice_cmp, lists_total}
use Rattle.mj_subs.specs.Collation.{subscript_cmp}
use Rattle.mj_subs.specs.Laws.Total.{subscript_cmp_total}
use Rattle.mj_tree.specs.Undo.{restored}
use Rattle.mj_tree.proofs.Undo.{undone_written, undone_refused}
use Rattle.mj_tree.proofs.tree.Tree.exchange.Goals as goal

pub returns-in-Ok-clause-before : goal.returns-in-Ok-clause-before
returns-in-Ok-clause-before c =
    undone_written (slice_cmp subscript_cmp) (lists_total subscript_cmp_total) c.args.place c.in_ok-before.before c.args.text.now c.args.self.now c.set.new.self c.rises.ensures c.in_ok-before.ensures
    c.in_ok-set.ensures.ok c.args.log.now.items c.push.new.self.items c.in-Ok.ensures.items

pub returns-in-Err-clause-before : goal.returns-in-Err-clause-before
returns-in-Err-clause-before c =
    undone_refused (slice_cmp subscript_cmp) (lists_total subscript_cmp_total) c.args.place c.in_ok-before.before c.args.text.now c.args.self.now c.set.new.self c.rises.ensures c.in_ok-before.ensures
    c.in_ok-set.ensures.ok c.args.log.now.items c.push.new.self.items c.restore.new.self c.in-Err.ensures.items
    (c.restore.ensures ∙ (λ i. restored (slice_cmp subscript_cmp) (c.in-Err.ensures.value_returned i).0 (c.in-Err.ensures.value_returned i).1 c.set.new.self))
