use Rattle.mj_dev.specs.Told.{IsToldBy}
use Rattle.mj_core.proofs.Plain.{plainly}
use Rattle.mj_core.proofs.by_sessions.Core+D+Sessions+D+O.step.Goals as goal

pub returns-clause-gives : goal.returns-clause-gives
returns-clause-gives g c =
    let tells = IsToldBy g.D.Device.inside g.D.Device.failures g.D.Device.taken g.D.Device.given g.D.Device.IsTold in
    plainly tells g.O.Opening.opening c.args.self.now c.make.new.self c.args.step c.make.result c.make.ensures
