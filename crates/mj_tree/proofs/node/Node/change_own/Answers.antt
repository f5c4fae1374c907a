use Rattle.std.proofs.Common.{[], sym, ap, ◌∙◌}
use Rattle.std.specs.Cmp.Lexicographic.{slice_cmp}
use Rattle.mj_subs.specs.Collation.{subscript_cmp}
use Rattle.mj_store.specs.Questions.{Subtree}
use Rattle.mj_tree.specs.Undo.{restored}
use Rattle.mj_tree.specs.Changes.{changed}
use Rattle.mj_tree.specs.Rows.{places}
use Rattle.mj_tree.proofs.Kills.{without_all}
use Rattle.mj_tree.proofs.Undo.{restore_no_own}
use Rattle.mj_tree.proofs.Whole.{restore_text}
use Rattle.mj_tree.proofs.node.Node.change_own.Goals as goal
use Rattle.mj_tree.proofs.node.Node.change_own.Goals.{in-Some-1, in-None-2, in-Some+in-Long-2, in-Some+in-Number-2, in-None-3}

pub returns-in-Kill : goal.returns-in-Kill
returns-in-Kill c =
    let done = sym (ap (λ x. changed x [] c.args.self.now) c.in-Kill.is ∙ without_all subscript_cmp c.args.self.now) in
    elim c.match-self-3.branch [ in-Some-1 w ↦ w.self-is ∙ done | in-None-2 w ↦ w.self-is ∙ done ]

pub returns-then-is_some : goal.returns-then-is_some
returns-then-is_some c =
    let done =
    sym (ap (λ x. changed x [] c.args.self.now) c.in-Restore.is
    ∙ ap (λ (n : Subtree). restored (slice_cmp subscript_cmp) [] c.in-Restore.text n) (sym c.self.view_is)
    ∙ restore_text c.in-Restore.text c.self.inside.text (places c.self.inside.children) (sym c.if-is_some.ensures)) in
    elim c.match-self-text.branch [ in-Some+in-Long-2 w ↦ w.self-is ∙ done | in-Some+in-Number-2 w ↦ w.self-is ∙ done | in-None-3 w ↦ w.self-is ∙ done ]

pub returns-else-is_some : goal.returns-else-is_some
returns-else-is_some c =
    sym (ap (λ x. changed x [] c.args.self.now) c.in-Restore.is
    ∙ ap (λ (n : Subtree). restored (slice_cmp subscript_cmp) [] c.in-Restore.text n) (sym c.self.view_is)
    ∙ restore_no_own subscript_cmp c.in-Restore.text c.self.inside.text (places c.self.inside.children) (sym c.if-is_some.ensures)
    ∙ c.self.view_is)
