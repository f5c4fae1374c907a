use Rattle.std.proofs.Common.{◌≡◌, ◌++◌}
use Rattle.mj_locktab.proofs.node.Node.+try_clone.Given as goal

-- the children so far and those to come are all
abbrev pub invariant-loop-sub : goal.invariant-loop-sub
invariant-loop-sub l = l.children.entries ++ l.sub-iterator ≡ l.initial.sub-iterator
