use Rattle.std.proofs.Common.{length}
use Rattle.mj_tree.proofs.node.Node.+at_texts.Given as goal

abbrev pub decreases-at_texts : goal.decreases-at_texts
decreases-at_texts l = length l.path.now
