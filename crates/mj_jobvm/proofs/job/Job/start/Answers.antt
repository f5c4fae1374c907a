use Rattle.std.proofs.Common.{sym, subst}
use Rattle.mj_semantics.specs.Job.{Start}
use Rattle.mj_jobvm.specs.Jobs.{Running, IsRunOfAfter}
use Rattle.mj_jobvm.proofs.Opening.{starts}
use Rattle.mj_jobvm.proofs.job.Job.start.Goals as goal

pub returns-clause-run : goal.returns-clause-run
returns-clause-run c =
    let image = c.args.image.now in
    let start : Start = record { job = c.args.job; entry = c.args.entry; values = c.args.values.items } in
    subst (λ (j : Running). IsRunOfAfter image start 0 j) (sym c.at.ensures) (starts image c.units.ensures.are start)
