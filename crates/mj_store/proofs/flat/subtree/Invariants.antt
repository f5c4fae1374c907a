use Rattle.std.proofs.Common.{◌≡◌, ◌++◌, drop}
use Rattle.mj_store.specs.Questions.{subtree_at}
use Rattle.mj_store.proofs.flat.subtree.Given as goal

-- the nodes so far and those to come are all
abbrev pub invariant-loop-entry : goal.invariant-loop-entry
invariant-loop-entry l = l.nodes ++ subtree_at (drop l.entry-index l.entries) l.name ≡ subtree_at l.entries l.name
