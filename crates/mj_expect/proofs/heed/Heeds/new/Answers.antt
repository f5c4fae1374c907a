use Rattle.std.proofs.Common.{[], sym, subst}
use Rattle.mj_expect.specs.Heeds.{Heeds, AreHeeds}
use Rattle.mj_expect.proofs.Hearing.{heard_nothing}
use Rattle.mj_expect.proofs.heed.Heeds.new.Goals as goal

pub returns : goal.returns
returns c =
    let P : Heeds → Type 0 = λ l. AreHeeds [] l in
    subst P (sym c.new.ensures.items) heard_nothing
