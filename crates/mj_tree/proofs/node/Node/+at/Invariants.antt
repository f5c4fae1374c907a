use Rattle.std.proofs.Common.{length}
use Rattle.mj_tree.proofs.node.Node.+at.Given as goal

abbrev pub decreases-at : goal.decreases-at
decreases-at l = length l.path.now
