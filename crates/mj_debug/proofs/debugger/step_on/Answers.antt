use Rattle.mj_debug.proofs.Growing.{step_grows, replica_on}
use Rattle.mj_debug.proofs.Showing.{views_on}
use Rattle.mj_debug.proofs.debugger.step_on.Goals as goal

pub returns-clause-short : goal.returns-clause-short
returns-clause-short g c = (step_grows g.O.Opening.opening c.args.core.now c.step.new.self c.args.step c.step.result c.step.ensures.gives).within c.len-events.ensures.most c.requires

pub returns-clause-replica : goal.returns-clause-replica
returns-clause-replica g c = λ replica is.
    replica_on g.O.Opening.opening c.args.core.now c.step.new.self replica (step_grows g.O.Opening.opening c.args.core.now c.step.new.self c.args.step c.step.result c.step.ensures.gives) is

pub returns-clause-views : goal.returns-clause-views
returns-clause-views g c = λ views are.
    views_on g.O.Opening.opening c.args.core.now c.step.new.self views (step_grows g.O.Opening.opening c.args.core.now c.step.new.self c.args.step c.step.result c.step.ensures.gives) are
