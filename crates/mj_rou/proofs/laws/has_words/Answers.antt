use Rattle.mj_rou.proofs.Words as words
use Rattle.mj_rou.proofs.laws.has_words.Goals as goal

pub returns : goal.returns
returns c = words.has_words
