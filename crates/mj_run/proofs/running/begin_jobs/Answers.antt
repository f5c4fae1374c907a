use Rattle.std.proofs.Common.{subst}
use Rattle.mj_sys.specs.Shared.{Shared}
use Rattle.mj_fit.specs.Laws.{NoneIsHeld}
use Rattle.mj_run.proofs.running.begin_jobs.Goals as goal

pub invariant_of-jobs : goal.invariant_of-jobs
invariant_of-jobs g c =
    let N : Shared → Type 0 = λ opening. NoneIsHeld opening in
    subst N c.requires.opening (c.none_is_held.ensures c.args.globals.content c.args.pool c.args.starts.items)
