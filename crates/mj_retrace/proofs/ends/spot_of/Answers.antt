use Rattle.mj_retrace.proofs.Standing.{no_line}
use Rattle.mj_retrace.proofs.ends.spot_of.Goals as goal

pub returns-in-None : goal.returns-in-None
returns-in-None c = no_line c.args.job.now.run.at.state c.in-None.ensures
