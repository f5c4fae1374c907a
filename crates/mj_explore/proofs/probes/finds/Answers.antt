use Rattle.std.proofs.Common.{subst}
use Rattle.mj_load.specs.Image.{program_of}
use Rattle.mj_steps.specs.declared.drive.Ending.{Ending}
use Rattle.mj_steps.specs.declared.drive.Ending.TheVariants as endings
use Rattle.mj_steps.specs.Driven.{ByList}
use Rattle.mj_run.specs.Stepping.{StepsAs}
use Rattle.mj_explore.specs.declared.goals.Finding.{Finding}
use Rattle.mj_judge.specs.Judged.{by_memory}
use Rattle.mj_explore.specs.Found.{Shows}
use Rattle.mj_explore.proofs.Making.{are_made, where_some}
use Rattle.mj_explore.proofs.probes.finds.Goals as goal

pub returns : goal.returns
returns g c is =
    let begun = c.in_ok-jobs.ensures in
    let core = c.listed.new.self in
    let opening = g.O.Opening.opening in
    let P : Ending → Type 0 = λ e. ByList (StepsAs by_memory opening) 0 c.args.steps.now c.in_ok-jobs.jobs e core in
    let Q : Finding → Type 0 = λ finding. Shows c.args.goal.now finding (program_of core.image) opening core.history in (
      core,
      are_made c.args.script.now opening c.args.steps.now endings.Over c.in_ok-jobs.jobs core begun.0 begun.1 begun.2 (subst P c.in-Over.is c.listed.ensures.listed),
      where_some Q _ _ (c.is_that_of.ensures is) c.in_ok-shown.ensures,
    )
