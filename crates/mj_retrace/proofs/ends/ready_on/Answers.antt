use Rattle.mj_core.specs.Asking.{turn_of}
use Rattle.mj_retrace.proofs.Stepped.{ready_keeps}
use Rattle.mj_retrace.proofs.ends.ready_on.Goals as goal

pub returns-clause-image : goal.returns-clause-image
returns-clause-image g c = (ready_keeps g.O.Opening.opening c.args.core.now c.ready_job.new.self c.args.job (turn_of c.ready_job.result) c.ready_job.ensures.gives).0

pub returns-clause-history : goal.returns-clause-history
returns-clause-history g c = (ready_keeps g.O.Opening.opening c.args.core.now c.ready_job.new.self c.args.job (turn_of c.ready_job.result) c.ready_job.ensures.gives).1
