use Rattle.std.proofs.Common.{length}
use Rattle.mj_locktab.proofs.node.Node.+least_other.Given as goal

abbrev pub decreases-least_other : goal.decreases-least_other
decreases-least_other l = length l.path.now
