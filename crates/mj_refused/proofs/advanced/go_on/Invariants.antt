use Rattle.mj_jobvm.specs.Jobs.{IsIn}
use Rattle.mj_refused.proofs.advanced.go_on.Given as goal

-- the job stays one of the image
abbrev pub invariant-loop-event : goal.invariant-loop-event
invariant-loop-event l = IsIn l.fn.image l.job
