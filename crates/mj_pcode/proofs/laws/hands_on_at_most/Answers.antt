use Rattle.mj_pcode.proofs.Deep as deep
use Rattle.mj_pcode.proofs.laws.hands_on_at_most.Goals as goal

pub returns : goal.returns
returns c = deep.hands_on
