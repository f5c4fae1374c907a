use Rattle.mj_replica.proofs.Fronts.{fronts}
use Rattle.mj_replica.proofs.laws.fronts_are_runs.Goals as goal

pub returns : goal.returns
returns c = fronts
