use Rattle.std.proofs.Common.{sym, ap, ◌∙◌}
use Rattle.mj_subs.specs.Collation.{subscript_cmp}
use Rattle.mj_store.specs.Nodes.{is_empty, subtree, first_subscripts, next_past}
use Rattle.mj_store.specs.Questions.{Subtree}
use Rattle.mj_tree.proofs.Trees.{order_of_split}
use Rattle.mj_tree.proofs.tree.Tree.order.Goals as goal

-- the list of subscripts is its front and its last
pub returns : goal.returns
returns c =
    let front = c.in_ok-last.front.now in
    let last = c.in_ok-last.last.now in
    c.order.ensures
    ∙ ap (λ (n : Subtree). next_past subscript_cmp c.args.direction (is_empty last) last (first_subscripts (subtree subscript_cmp front n))) c.self.view_is
    ∙ sym (order_of_split c.args.direction c.args.path.now front last c.args.self.now (sym c.as_slice.ensures.value ∙ c.in_ok-last.ensures.cases.0))
