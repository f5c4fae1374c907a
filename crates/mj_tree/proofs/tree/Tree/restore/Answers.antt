use Rattle.std.proofs.Common.{sym, subst}
use Rattle.std.specs.Prelude.{T}
use Rattle.std.specs.FinMap.{is_sorted}
use Rattle.std.specs.Cmp.Lexicographic.{slice_cmp}
use Rattle.mj_subs.specs.Collation.{subscript_cmp}
use Rattle.mj_store.specs.Questions.{Subtree}
use Rattle.mj_tree.proofs.Undo.{sorted_restored}
use Rattle.mj_tree.proofs.tree.Tree.restore.Goals as goal

pub invariant_of-self : goal.invariant_of-self
invariant_of-self c =
    subst (λ (es : Subtree). T (is_sorted (slice_cmp subscript_cmp) es)) (sym c.restore.ensures)
    (sorted_restored (slice_cmp subscript_cmp) c.as_slice.result.now c.args.text c.self.inside.root c.self.invariant)
