use Rattle.std.proofs.Common.{length}
use Rattle.mj_tree.proofs.node.Node.+set.Given as goal

abbrev pub decreases-set : goal.decreases-set
decreases-set l = length l.path.now
