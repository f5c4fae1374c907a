use Rattle.std.proofs.Common.{◌∙◌}
use Rattle.std.proofs.lemmas.Result.{IfOk-weaker}
use Rattle.mj_subs.specs.Collation.{subscript_cmp}
use Rattle.std.specs.Cmp.Lexicographic.{lists_total}
use Rattle.mj_subs.specs.Laws.Total.{subscript_cmp_total}
use Rattle.mj_store.specs.Nodes.{next_after}
use Rattle.mj_tree.proofs.Trees.{next_lead}
use Rattle.mj_tree.proofs.tree.Tree.query.Goals as goal

-- the first list after it in a list that rises is the least
pub returns : goal.returns
returns c =
    IfOk-weaker c.query.result _ _ (λ next is.
    is
    ∙ next_lead subscript_cmp (lists_total subscript_cmp_total) c.as_slice.result.now c.self.inside.root c.self.invariant
    ∙ (λ i. next_after subscript_cmp (c.as_slice.ensures.value i) (c.self.view_is i))) c.query.ensures
