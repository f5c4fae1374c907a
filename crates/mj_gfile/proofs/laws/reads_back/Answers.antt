use Rattle.mj_gfile.specs.Laws.Listings as laws
use Rattle.mj_gfile.proofs.laws.reads_back.Goals as goal

pub returns : goal.returns
returns c = laws.reads_back
