use Rattle.std.proofs.Common.{length}
use Rattle.mj_store.proofs.flat.+strip.Given as goal

abbrev pub decreases-strip : goal.decreases-strip
decreases-strip l = length l.front.now
