use Rattle.std.proofs.Common.{ℕ, List, subst}
use Rattle.mj_subs.specs.Collation.{subscript_cmp}
use Rattle.mj_store.specs.Questions.{Subtree}
use Rattle.mj_tree.specs.Rows.{IsFirst}
use Rattle.mj_tree.proofs.Found.{between_after, after_row, after_others}
use Rattle.mj_subs.specs.Laws.Total.{subscript_cmp_total}
use Rattle.mj_tree.proofs.children.Children.after.Goals as goal

pub returns-in-Some : goal.returns-in-Some
returns-in-Some c =
    after_row subscript_cmp c.args.sub.now c.args.self.now.row.items c.args.self.now.others.entries c.requires.filled c.span-from.result.1 c.in-Some.child c.span-from.ensures.behind c.in-Some.ensures

pub returns-in-None : goal.returns-in-None
returns-in-None c =
    after_others subscript_cmp c.args.sub.now c.args.self.now.row.items c.args.self.now.others.entries c.requires.filled c.span-from.result.1 c.next.result c.span-from.ensures.behind c.in-None.ensures
    (subst (λ (es : List (List ℕ × Subtree)). IsFirst es c.next.result)
    (between_after subscript_cmp subscript_cmp_total c.args.sub.now c.args.self.now.others.entries c.range-later.result (c.range-later.ensures.between tt)) (c.next.new.self, c.next.ensures.steps))
