use Rattle.std.proofs.Common.{subst}
use Rattle.mj_load.specs.Image.{program_of}
use Rattle.mj_explore.specs.declared.fates.Fate.{Fate}
use Rattle.mj_explore.specs.Found.{IsFateOf}
use Rattle.mj_explore.proofs.goals.is_stuck.Goals as goal

pub returns-in-Stuck : goal.returns-in-Stuck
returns-in-Stuck g c is =
    let P : Fate → Type 0 = λ f. IsFateOf f (program_of c.args.jobs.now.image) g.O.Opening.opening c.args.jobs.now.history in
    subst P c.in-Stuck.is c.in_ok-fate.ensures
