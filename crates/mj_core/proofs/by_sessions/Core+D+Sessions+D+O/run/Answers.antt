use Rattle.std.proofs.lemmas.Result.{IfOk-weaker}
use Rattle.mj_dev.specs.Told.{IsToldBy}
use Rattle.mj_core.proofs.Plain.{all_plainly}
use Rattle.mj_core.proofs.by_sessions.Core+D+Sessions+D+O.run.Goals as goal

pub returns-clause-gives : goal.returns-clause-gives
returns-clause-gives g c =
    let tells = IsToldBy g.D.Device.inside g.D.Device.failures g.D.Device.taken g.D.Device.given g.D.Device.IsTold in
    IfOk-weaker c.answers-answers.result _ _
    (λ answers run. all_plainly tells g.O.Opening.opening c.args.self.now c.args.steps.now answers.items c.answers-answers.new.self run) c.answers-answers.ensures.called
