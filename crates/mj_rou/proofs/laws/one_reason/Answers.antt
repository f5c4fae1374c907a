use Rattle.mj_rou.proofs.Once as once
use Rattle.mj_rou.proofs.laws.one_reason.Goals as goal

pub returns : goal.returns
returns c = once.one_reason
