use Rattle.std.proofs.Common.{sym, ap, ◌∙◌}
use Rattle.std.proofs.lemmas.Result.{IfOk-weaker}
use Rattle.mj_subs.specs.Collation.{subscript_cmp}
use Rattle.mj_store.specs.Nodes.{is_empty, first_subscripts, next_past, subtree}
use Rattle.mj_store.specs.Questions.{Subtree}
use Rattle.mj_tree.proofs.Trees.{order_of_split}
use Rattle.mj_tree.proofs.tree.Tree.order_at.Goals as goal

-- the list of subscripts is its front and its last
pub returns-in-Some : goal.returns-in-Some
returns-in-Some c =
    let front = c.in-Some.front.now in
    let last = c.in-Some.last.now in
    IfOk-weaker c.order_at.result _ _
    (λ next e. e
    ∙ ap (λ (n : Subtree). next_past subscript_cmp c.args.direction (is_empty last) last (first_subscripts (subtree subscript_cmp front n))) c.self.view_is
    ∙ sym (order_of_split c.args.direction c.args.path.now front last c.args.self.now c.in-Some.ensures.cases.0))
    c.order_at.ensures
