use Rattle.mj_fit.proofs.Serving as serving
use Rattle.mj_fit.proofs.laws.none_is_held.Goals as goal

pub returns : goal.returns
returns c = serving.opens_free
