use Rattle.mj_semantics.proofs.Depth as depth
use Rattle.mj_semantics.proofs.laws.hands_on_at_most.Goals as goal

pub returns : goal.returns
returns c = depth.hands_on
