use Rattle.std.proofs.Common.{[], sym, ap, ◌∙◌}
use Rattle.std.specs.FinMap.{find}
use Rattle.std.specs.Cmp.Lexicographic.{slice_cmp}
use Rattle.mj_subs.specs.Collation.{subscript_cmp}
use Rattle.mj_store.specs.Questions.{Subtree}
use Rattle.mj_tree.specs.Rows.{places}
use Rattle.mj_tree.proofs.Nest.{find-subtree, find_own}
use Rattle.mj_tree.proofs.node.Node.value.Goals as goal

-- the text is that of the node at the place
pub returns-in-None : goal.returns-in-None
returns-in-None c = sym (find-subtree subscript_cmp c.args.path.now c.args.self.now ∙ ap (λ (n : Subtree). find (slice_cmp subscript_cmp) [] n) (sym c.in-None.ensures))

pub returns-in-Some : goal.returns-in-Some
returns-in-Some c =
    c.as_ref.ensures.value
    ∙ sym (find-subtree subscript_cmp c.args.path.now c.args.self.now ∙ ap (λ (n : Subtree). find (slice_cmp subscript_cmp) [] n) (sym c.in-Some.ensures ∙ sym c.node.view_is)
    ∙ find_own subscript_cmp c.node.inside.text (places c.node.inside.children))
