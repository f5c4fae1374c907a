use Rattle.std.proofs.Common.{sym, ap, ◌∙◌}
use Rattle.std.specs.Ordering.{is_lt}
use Rattle.mj_tree.proofs.Added.{before_first, before_none}
use Rattle.mj_tree.proofs.children.Children.is_before_others.Goals as goal

pub returns-in-None : goal.returns-in-None
returns-in-None c = λ _. before_none c.args.sub.now c.args.self.now.others.entries (sym c.iter.ensures.rest ∙ c.in-None.ensures.steps.0)

pub returns-in-Some : goal.returns-in-Some
returns-in-Some c = λ e.
    before_first c.args.sub.now c.args.self.now.others.entries c.next.new.self c.in-Some.child (sym c.iter.ensures.rest ∙ c.in-Some.ensures.steps) c.requires
    (sym (c.is_lt.ensures ∙ ap is_lt c.cmp.ensures) ∙ e)
