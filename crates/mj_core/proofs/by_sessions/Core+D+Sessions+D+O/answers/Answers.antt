use Rattle.mj_steps.specs.declared.step.Way.TheVariants as ways
use Rattle.mj_dev.specs.Told.{IsToldBy}
use Rattle.mj_core.specs.Serving.{calling}
use Rattle.mj_core.proofs.Answered.{answered_on}
use Rattle.mj_core.proofs.by_sessions.Core+D+Sessions+D+O.answers.Goals as goal

pub loop-step-preserved : goal.loop-step-preserved
loop-step-preserved g c =
    let l = c.loop-step in
    let tells = IsToldBy g.D.Device.inside g.D.Device.failures g.D.Device.taken g.D.Device.given g.D.Device.IsTold in
    answered_on (calling tells) g.O.Opening.opening c.args.self.now l.self c.step-answer.new.self c.args.steps.now l.step-index l.answers.items c.push_reserved.new.self.items l.answers.cap
    c.push_reserved.new.self.cap
    l.invariant (record { job = 0; way = ways.Go }) c.loop-step-test.true c.step-answer.result c.step-answer.ensures.called c.push_reserved.ensures.items c.push_reserved.ensures.capacity
