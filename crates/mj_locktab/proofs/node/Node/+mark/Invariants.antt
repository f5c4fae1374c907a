use Rattle.std.proofs.Common.{length}
use Rattle.mj_locktab.proofs.node.Node.+mark.Given as goal

abbrev pub decreases-mark : goal.decreases-mark
decreases-mark l = length l.path.now
