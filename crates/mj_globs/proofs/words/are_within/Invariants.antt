use Rattle.std.proofs.Common.{◌≡◌, Bool}
use Rattle.mj_globs.specs.Words.{of_kind, spelled}
use Rattle.mj_globs.proofs.Within.{are_entries_within}
use Rattle.mj_globs.proofs.words.are_within.Given as goal

-- the words so far keep to it, so that those to come decide
abbrev pub invariant-loop-tree : goal.invariant-loop-tree
invariant-loop-tree l =
    (g : Bool) → are_entries_within l.limit (of_kind g (spelled l.initial.tree-iterator)) ≡ are_entries_within l.limit (of_kind g (spelled l.tree-iterator))
