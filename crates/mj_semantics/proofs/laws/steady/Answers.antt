use Rattle.mj_semantics.proofs.Depth as depth
use Rattle.mj_semantics.proofs.laws.steady.Goals as goal

pub returns : goal.returns
returns c = depth.steady
