use Rattle.mj_tree.specs.Nest.{weight}
use Rattle.mj_tree.proofs.node.Node.+descend.Given as goal

abbrev pub decreases-descend : goal.decreases-descend
decreases-descend l = weight l.self.now
