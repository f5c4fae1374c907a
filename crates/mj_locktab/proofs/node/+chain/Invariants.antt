use Rattle.std.proofs.Common.{length}
use Rattle.mj_locktab.proofs.node.+chain.Given as goal

abbrev pub decreases-chain : goal.decreases-chain
decreases-chain l = length l.path.now
