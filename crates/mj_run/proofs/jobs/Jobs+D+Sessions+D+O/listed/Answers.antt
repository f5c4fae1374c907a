use Rattle.mj_dev.specs.Told.{IsToldBy}
use Rattle.mj_run.proofs.Stepping.{by_list}
use Rattle.mj_run.proofs.jobs.Jobs+D+Sessions+D+O.listed.Goals as goal

pub returns-clause-run : goal.returns-clause-run
returns-clause-run g c =
    let tells = IsToldBy g.D.Device.inside g.D.Device.failures g.D.Device.taken g.D.Device.given g.D.Device.IsTold in
    by_list tells g.O.Opening.opening c.args.steps.now 0 c.args.self.now c.step_by.result c.step_by.new.jobs c.step_by.ensures
