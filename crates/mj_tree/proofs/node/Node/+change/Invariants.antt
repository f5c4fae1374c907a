use Rattle.std.proofs.Common.{length}
use Rattle.mj_tree.proofs.node.Node.+change.Given as goal

abbrev pub decreases-change : goal.decreases-change
decreases-change l = length l.path.now
