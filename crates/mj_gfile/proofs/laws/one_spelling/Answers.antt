use Rattle.mj_gfile.specs.Laws.Refused as laws
use Rattle.mj_gfile.proofs.laws.one_spelling.Goals as goal

pub returns : goal.returns
returns c = laws.one_spelling
