use Rattle.std.proofs.Common.{◌≡◌, ◌++◌}
use Rattle.mj_tree.specs.Nest.{behind, below, weight}
use Rattle.mj_tree.specs.Steps.{steps_rest}
use Rattle.mj_tree.proofs.Lighter.{AreLighter}
use Rattle.mj_tree.proofs.node.Node.+collect.Given as goal

-- the nodes so far and those of the children to come are all; each of them weighs less than the node
abbrev pub invariant-loop-sub : goal.invariant-loop-sub
invariant-loop-sub l = record {
  nodes : l.nodes ++ behind l.fn.front (below (steps_rest l.sub-iterator)) ≡ l.fn.nodes ++ behind l.fn.front l.fn.self;
  front : l.front ≡ l.fn.front;
  light : AreLighter (weight l.fn.self) (steps_rest l.sub-iterator);
}

abbrev pub decreases-collect : goal.decreases-collect
decreases-collect l = weight l.self.now
