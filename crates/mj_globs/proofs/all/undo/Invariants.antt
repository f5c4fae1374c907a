use Rattle.std.proofs.Common.{◌≡◌, length}
use Rattle.mj_subs.specs.Collation.{name_cmp}
use Rattle.mj_tree.specs.Undo.{undone}
use Rattle.mj_globs.specs.Stamps.{Rises}
use Rattle.mj_globs.proofs.all.undo.Given as goal

-- what is left of the log leaves what the whole log leaves
abbrev pub invariant-loop-name : goal.invariant-loop-name
invariant-loop-name l = record {
  content : undone name_cmp l.left.items l.globals.content ≡ undone name_cmp l.fn.log.items l.fn.globals.content;
  stamps : Rises l.fn.globals l.globals;
}

abbrev pub decreases-loop-name : goal.decreases-loop-name
decreases-loop-name l = length l.left.items
