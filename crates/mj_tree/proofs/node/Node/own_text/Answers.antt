use Rattle.std.proofs.Common.{[], sym, ◌∙◌}
use Rattle.std.specs.FinMap.{find}
use Rattle.std.specs.Cmp.Lexicographic.{slice_cmp}
use Rattle.mj_subs.specs.Collation.{subscript_cmp}
use Rattle.mj_tree.specs.Rows.{places}
use Rattle.mj_tree.proofs.Nest.{find_own}
use Rattle.mj_tree.proofs.node.Node.own_text.Goals as goal

pub returns : goal.returns
returns c =
    c.as_ref.ensures.value
    ∙ sym (find_own subscript_cmp c.self.inside.text (places c.self.inside.children))
    ∙ (λ i. find (slice_cmp subscript_cmp) [] (c.self.view_is i))
