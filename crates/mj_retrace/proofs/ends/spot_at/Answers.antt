use Rattle.std.proofs.Common.{sym, ◌∙◌}
use Rattle.std.proofs.lemmas.Option.{none-some}
use Rattle.mj_core.specs.Shown.{stand_at}
use Rattle.mj_retrace.proofs.Standing.{spot_shown}
use Rattle.mj_retrace.proofs.ends.spot_at.Goals as goal

pub returns-in-None : goal.returns-in-None
returns-in-None g c = λ at is. absurd (none-some at (sym c.in-None.ensures.none ∙ is))

pub returns-in-Some : goal.returns-in-Some
returns-in-Some g c = λ at is.
    spot_shown c.spot_of.result c.in-Some.job.now.run (stand_at c.args.core.now.stands c.args.job) at is c.in-Some.ensures.shown c.spot_of.ensures
