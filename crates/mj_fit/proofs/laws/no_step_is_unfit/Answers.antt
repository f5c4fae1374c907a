use Rattle.mj_fit.proofs.Serving as serving
use Rattle.mj_fit.proofs.laws.no_step_is_unfit.Goals as goal

pub returns : goal.returns
returns c = serving.no_step_is_unfit
