use Rattle.mj_steps.proofs.Driving.{TurnGoes}
use Rattle.mj_steps.proofs.drive.step_in_turn.Given as goal

-- what is left to be made is the rest of the steps in turn
abbrev pub invariant-steps : goal.invariant-steps
invariant-steps g l = TurnGoes g.J.Stepped.count g.J.Stepped.makes l.fn.most l.made l.round l.standings l.initial.jobs l.jobs
