use Rattle.mj_semantics.proofs.Depth as depth
use Rattle.mj_semantics.proofs.laws.deep_enough.Goals as goal

pub returns : goal.returns
returns c = depth.deep_enough
