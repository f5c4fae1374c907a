use Rattle.mj_core.specs.Asking.{turn_of}
use Rattle.mj_debug.proofs.Growing.{ready_keeps, ready_grows, replica_on}
use Rattle.mj_debug.proofs.Showing.{views_on}
use Rattle.mj_debug.proofs.debugger.ready_on.Goals as goal

pub returns-clause-image : goal.returns-clause-image
returns-clause-image g c = (ready_keeps g.O.Opening.opening c.args.core.now c.ready_job.new.self c.args.job (turn_of c.ready_job.result) c.ready_job.ensures.gives).0

pub returns-clause-history : goal.returns-clause-history
returns-clause-history g c = (ready_keeps g.O.Opening.opening c.args.core.now c.ready_job.new.self c.args.job (turn_of c.ready_job.result) c.ready_job.ensures.gives).1

pub returns-clause-replica : goal.returns-clause-replica
returns-clause-replica g c = λ replica is.
    replica_on g.O.Opening.opening c.args.core.now c.ready_job.new.self replica
    (ready_grows g.O.Opening.opening c.args.core.now c.ready_job.new.self c.args.job (turn_of c.ready_job.result) c.ready_job.ensures.gives) is

pub returns-clause-views : goal.returns-clause-views
returns-clause-views g c = λ views are.
    views_on g.O.Opening.opening c.args.core.now c.ready_job.new.self views (ready_grows g.O.Opening.opening c.args.core.now c.ready_job.new.self c.args.job (turn_of c.ready_job.result)
    c.ready_job.ensures.gives) are
