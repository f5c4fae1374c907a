use Rattle.std.proofs.Common.{length}
use Rattle.mj_tree.proofs.node.Node.+turn.Given as goal

abbrev pub decreases-turn : goal.decreases-turn
decreases-turn l = length l.path.now
