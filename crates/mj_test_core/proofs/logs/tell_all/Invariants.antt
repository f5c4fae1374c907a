use Rattle.mj_jobvm.specs.Jobs.{IsIn}
use Rattle.mj_test_core.proofs.logs.tell_all.Given as goal

-- the job stays one of the image
abbrev pub invariant-loop : goal.invariant-loop
invariant-loop l = IsIn l.fn.image l.job
