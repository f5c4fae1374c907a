use Rattle.std.proofs.Common.{length}
use Rattle.mj_ask.proofs.formed.+are_filled_before_last.Given as goal

abbrev pub decreases-are_filled_before_last : goal.decreases-are_filled_before_last
decreases-are_filled_before_last l = length l.subs.now
