use Rattle.std.proofs.Common.{[], sym, subst}
use Rattle.std.specs.Prelude.{T}
use Rattle.std.specs.FinMap.{is_sorted}
use Rattle.std.specs.Cmp.Lexicographic.{slice_cmp, lists_total}
use Rattle.std.specs.FinMap.Entries.{is_sorted-put}
use Rattle.mj_store.specs.Questions.{Subtree}
use Rattle.mj_subs.specs.Collation.{subscript_cmp}
use Rattle.mj_subs.specs.Laws.Total.{subscript_cmp_total}
use Rattle.mj_tree.proofs.tree.Tree.assign.Goals as goal

pub invariant_of-self : goal.invariant_of-self
invariant_of-self c =
    subst (λ (es : Subtree). T (is_sorted (slice_cmp subscript_cmp) es)) (sym c.assign.ensures)
    (is_sorted-put (slice_cmp subscript_cmp) (lists_total subscript_cmp_total) [] c.args.text c.self.inside.root c.self.invariant)
