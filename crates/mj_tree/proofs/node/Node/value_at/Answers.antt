use Rattle.std.proofs.Common.{[], sym, ap, ◌∙◌}
use Rattle.std.specs.Prelude.{option_copied}
use Rattle.std.specs.FinMap.{find}
use Rattle.std.specs.Cmp.Lexicographic.{slice_cmp}
use Rattle.mj_subs.specs.Collation.{subscript_cmp}
use Rattle.mj_store.specs.Questions.{Subtree}
use Rattle.mj_tree.specs.Nest.{nodes_of}
use Rattle.mj_tree.proofs.Nest.{find-subtree}
use Rattle.mj_tree.proofs.node.Node.value_at.Goals as goal

-- the text is that of the node at the place
pub returns-in-None : goal.returns-in-None
returns-in-None c =
    let there = sym c.in_ok-at_texts.ensures ∙ ap (λ o. nodes_of (option_copied o)) c.in-None.is in
    sym (find-subtree subscript_cmp c.args.path.now c.args.self.now ∙ ap (λ (n : Subtree). find (slice_cmp subscript_cmp) [] n) there)

pub returns-in-Some : goal.returns-in-Some
returns-in-Some c =
    let there = sym c.in_ok-at_texts.ensures ∙ ap (λ o. nodes_of (option_copied o)) c.in-Some.is in
    c.own_text.ensures ∙ sym (find-subtree subscript_cmp c.args.path.now c.args.self.now ∙ ap (λ (n : Subtree). find (slice_cmp subscript_cmp) [] n) there)
