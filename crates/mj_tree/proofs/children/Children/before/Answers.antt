use Rattle.std.proofs.Common.{ℕ, List, Some, None, subst}
use Rattle.mj_subs.specs.Collation.{subscript_cmp}
use Rattle.mj_subs.specs.Laws.Total.{subscript_cmp_total}
use Rattle.mj_store.specs.Questions.{Subtree}
use Rattle.mj_tree.specs.Rows.{IsLast}
use Rattle.mj_tree.proofs.Found.{between_before, before_others, before_row}
use Rattle.mj_tree.proofs.children.Children.before.Goals as goal

pub returns-in-Some : goal.returns-in-Some
returns-in-Some c =
    before_others subscript_cmp c.args.sub.now c.args.self.now.row.items c.args.self.now.others.entries c.requires.filled c.in-Some.child
    (subst (λ (es : List (List ℕ × Subtree)). IsLast es (Some c.in-Some.child))
    (between_before subscript_cmp subscript_cmp_total c.args.sub.now c.args.self.now.others.entries c.range-sooner.result (c.range-sooner.ensures.between tt))
    (c.next_back.new.self, c.in-Some.ensures.steps))

pub returns-in-None : goal.returns-in-None
returns-in-None c =
    before_row subscript_cmp c.args.sub.now c.args.self.now.row.items c.args.self.now.others.entries c.requires.filled c.span-end.result.0 c.last_before.result c.span-end.ensures.before
    (subst (λ (es : List (List ℕ × Subtree)). IsLast es None)
    (between_before subscript_cmp subscript_cmp_total c.args.sub.now c.args.self.now.others.entries c.range-sooner.result (c.range-sooner.ensures.between tt))
    (c.next_back.new.self, c.in-None.ensures.steps))
    c.last_before.ensures
