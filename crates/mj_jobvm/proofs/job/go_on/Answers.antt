use Rattle.mj_jobvm.specs.Jobs.{given_of}
use Rattle.mj_jobvm.proofs.job.go_on.Goals as goal

pub returns-in-Err-clause-err : goal.returns-in-Err-clause-err
returns-in-Err-clause-err c = c.in-Err.ensures.err (given_of c.args.given.now c.args.log.now)
