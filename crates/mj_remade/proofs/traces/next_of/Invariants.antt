use Rattle.std.proofs.Common.{length}
use Rattle.mj_remade.proofs.traces.next_of.Given as goal

abbrev pub decreases-sessions : goal.decreases-sessions
decreases-sessions l = length l.rest
