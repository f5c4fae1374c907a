use Rattle.std.proofs.Common.{◌≡◌, length}
use Rattle.std.specs.Cmp.Lexicographic.{slice_cmp}
use Rattle.mj_subs.specs.Collation.{subscript_cmp}
use Rattle.mj_tree.specs.Undo.{undone}
use Rattle.mj_tree.proofs.tree.Tree.undo.Given as goal

-- what is left of the log leaves what the whole log leaves
abbrev pub invariant-loop-place : goal.invariant-loop-place
invariant-loop-place l = undone (slice_cmp subscript_cmp) l.left.items l.self ≡ undone (slice_cmp subscript_cmp) l.fn.log.items l.fn.self

abbrev pub decreases-loop-place : goal.decreases-loop-place
decreases-loop-place l = length l.left.items
