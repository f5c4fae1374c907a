use Rattle.std.proofs.Common.{sym, ◌∙◌}
use Rattle.mj_steps.proofs.Driving.{turn_goes, turn_stops, turn_over, turn_stuck}
use Rattle.mj_steps.proofs.drive.step_in_turn.Goals as goal

pub returns-in-Over : goal.returns-in-Over
returns-in-Over g c =
    turn_over g.J.Stepped.count g.J.Stepped.makes c.args.most c.steps.made c.steps.round c.steps.standings c.args.jobs.now c.steps.jobs
    c.steps.invariant c.steps-test.true (sym c.in-Over.is ∙ c.next.ensures)

pub returns-in-Stuck : goal.returns-in-Stuck
returns-in-Stuck g c =
    turn_stuck g.J.Stepped.count g.J.Stepped.makes c.args.most c.steps.made c.steps.round c.steps.standings c.args.jobs.now c.steps.jobs
    c.steps.invariant c.steps-test.true (sym c.in-Stuck.is ∙ c.next.ensures)

pub returns-in-Err : goal.returns-in-Err
returns-in-Err g c =
    turn_stops g.J.Stepped.count g.J.Stepped.makes c.args.most c.steps.made c.steps.round c.steps.standings c.args.jobs.now c.steps.jobs c.step.new.self
    c.in-Step.step c.in-Err.why c.steps.invariant c.steps-test.true (sym c.in-Step.is ∙ c.next.ensures) c.in-Err.ensures

pub steps-preserved : goal.steps-preserved
steps-preserved g c =
    turn_goes g.J.Stepped.count g.J.Stepped.makes c.args.most c.steps.made c.steps.round c.after-round.result c.steps.standings c.stand.new.standings
    c.args.jobs.now c.steps.jobs c.step.new.self c.in-Step.step c.in-Ok.standing
    c.steps.invariant c.steps-test.true (sym c.in-Step.is ∙ c.next.ensures) c.in-Ok.ensures c.stand.ensures c.after-round.ensures
