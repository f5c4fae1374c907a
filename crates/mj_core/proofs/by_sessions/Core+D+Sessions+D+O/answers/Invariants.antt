use Rattle.mj_dev.specs.Told.{IsToldBy}
use Rattle.mj_core.specs.Serving.{calling}
use Rattle.mj_core.proofs.Answered.{AreAnswered}
use Rattle.mj_core.proofs.by_sessions.Core+D+Sessions+D+O.answers.Given as goal

abbrev pub invariant-loop-step : goal.invariant-loop-step
invariant-loop-step g l =
    AreAnswered (calling (IsToldBy g.D.Device.inside g.D.Device.failures g.D.Device.taken g.D.Device.given g.D.Device.IsTold)) g.O.Opening.opening l.fn.self l.fn.steps l.step-index
    l.answers.items l.answers.cap l.self
