use Rattle.mj_pcode.proofs.Deep as deep
use Rattle.mj_pcode.proofs.laws.deep_enough.Goals as goal

pub returns : goal.returns
returns c = deep.deep_enough
