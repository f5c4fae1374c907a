use Rattle.std.proofs.Common.{subst}
use Rattle.mj_load.specs.Image.{program_of}
use Rattle.mj_replica.specs.declared.replaying.Verdict.{Verdict}
use Rattle.mj_replica.specs.declared.walking.Sought.TheVariants as sought
use Rattle.mj_replica.specs.Walks.{Walks}
use Rattle.mj_replica.proofs.Seeking.{all_located}
use Rattle.mj_replica.proofs.placing.locate.Goals as goal

pub returns-in-Same : goal.returns-in-Same
returns-in-Same g c =
    let W : Verdict → Type 0 = λ v. Walks (program_of c.args.image.now) g.O.Opening.opening sought.All c.args.events.now v c.walk.new.found.items in
    all_located c.args.image.now g.O.Opening.opening c.args.events.now c.walk.new.found.items (subst W c.in-Same.is c.in_ok-verdict.ensures)

pub returns-in-Differs : goal.returns-in-Differs
returns-in-Differs g c =
    let W : Verdict → Type 0 = λ v. Walks (program_of c.args.image.now) g.O.Opening.opening sought.All c.args.events.now v c.walk.new.found.items in
    subst W c.in-Differs.is c.in_ok-verdict.ensures
