use Rattle.std.proofs.Common.{length}
use Rattle.mj_explain.proofs.cycles.+are_round.Given as goal

abbrev pub decreases-are_round : goal.decreases-are_round
decreases-are_round l = length l.waits.now
