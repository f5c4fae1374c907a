use Rattle.std.proofs.Common.{◌≡◌}
use Rattle.mj_store.specs.Within.{are_nodes_within}
use Rattle.mj_tree.specs.Nest.{below, weight}
use Rattle.mj_tree.specs.Steps.{steps_rest}
use Rattle.mj_tree.proofs.Lighter.{AreLighter}
use Rattle.mj_tree.proofs.node.Node.+is_within.Given as goal

-- the text of the node and the children so far keep to it, so that the children to come decide; each of them weighs less than the node
abbrev pub invariant-loop-sub : goal.invariant-loop-sub
invariant-loop-sub l = record {
  same : are_nodes_within l.limit l.fn.self ≡ are_nodes_within l.limit (below (steps_rest l.sub-iterator));
  light : AreLighter (weight l.fn.self) (steps_rest l.sub-iterator);
}

abbrev pub decreases-is_within : goal.decreases-is_within
decreases-is_within l = weight l.self.now
