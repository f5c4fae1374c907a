use Rattle.mj_steps.specs.declared.step.Step.{Step}
use Rattle.mj_steps.specs.declared.step.Way.TheVariants.{Go}
use Rattle.mj_steps.proofs.Driving.{list_goes, list_stops}
use Rattle.mj_steps.proofs.drive.step_by.Goals as goal

any : Step
any = record { job = 0; way = Go }

pub returns-in-Err : goal.returns-in-Err
unfolding any
returns-in-Err g c =
    list_stops g.J.Stepped.makes c.args.steps.now c.steps.made c.args.jobs.now c.steps.jobs c.step.new.self any c.in-Err.why
    c.steps.invariant c.steps-test.true c.in-Err.ensures

pub steps-preserved : goal.steps-preserved
unfolding any
steps-preserved g c =
    list_goes g.J.Stepped.makes c.args.steps.now c.steps.made c.args.jobs.now c.steps.jobs c.step.new.self any c.in_default.field-0
    c.steps.invariant c.steps-test.true c.in_default.ensures
