use Rattle.std.proofs.Common.{sym, ap, ◌∙◌, arith}
use Rattle.std.specs.Ordering.{is_lt}
use Rattle.mj_tree.proofs.Added.{ahead_none, ahead_told}
use Rattle.mj_tree.proofs.children.Children.is_ahead.Goals as goal

pub returns-in-None : goal.returns-in-None
returns-in-None c = sym (ahead_none c.args.sub.now c.args.self.now.row.items (omega (arith, c.in-None.ensures.item.3)))

pub returns-in-Some : goal.returns-in-Some
returns-in-Some c =
    c.is_lt.ensures ∙ ap is_lt c.cmp.ensures ∙ ahead_told c.args.sub.now c.args.self.now.row.items c.in-Some.first.now c.in-Some.ensures.item.3.0 c.in-Some.ensures.lookup
