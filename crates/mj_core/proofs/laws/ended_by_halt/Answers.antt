use Rattle.mj_core.proofs.Ended.{has_halted}
use Rattle.mj_core.proofs.laws.ended_by_halt.Goals as goal

pub returns : goal.returns
returns c = has_halted
