use Rattle.mj_steps.proofs.Driving.{ListGoes}
use Rattle.mj_steps.proofs.drive.step_by.Given as goal

-- what is left to be made is the rest of the list
abbrev pub invariant-steps : goal.invariant-steps
invariant-steps g l = ListGoes g.J.Stepped.makes l.fn.steps l.made l.initial.jobs l.jobs
