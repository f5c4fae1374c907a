use Rattle.mj_rou.proofs.Once as once
use Rattle.mj_rou.proofs.laws.read_or_refused.Goals as goal

pub returns : goal.returns
returns c = once.read_or_refused
