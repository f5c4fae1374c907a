use Rattle.mj_explain.proofs.Telling as telling
use Rattle.mj_explain.proofs.looks.looks_tell.Goals as goal

pub returns : goal.returns
returns c = telling.looks_tell
