use Rattle.mj_fit.proofs.Serving as serving
use Rattle.mj_fit.proofs.laws.all_are_served_by.Goals as goal

pub returns : goal.returns
returns c = serving.all_are_served_by
