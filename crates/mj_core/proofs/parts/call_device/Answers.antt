use Rattle.std.proofs.Common.{◌≡◌, Some, refl, sym, subst}
use Rattle.mj_ask.specs.declared.ask.Ask.{Ask}
use Rattle.mj_core.specs.Meaning.{IsOfDevice}
use Rattle.mj_core.proofs.Stepping.{same_ask}
use Rattle.mj_core.proofs.parts.call_device.Goals as goal

pub answer-requires : goal.answer-requires
answer-requires g c =
    let D : Ask → Type 0 = λ a. IsOfDevice a in
    subst D (same_ask c.args.job.now.run.pending c.requires.asks.0 c.in-Some.ask.now c.requires.asks.1 (sym c.in-Some.ensures)) c.requires.asks.2

pub returns-in-Told-clause-ok : goal.returns-in-Told-clause-ok
returns-in-Told-clause-ok g c =
    let ask = c.in-Some.ask.now in
    let pending : c.args.job.now.run.pending ≡ Some ask = sym c.in-Some.ensures in
    let told = c.in-Told.ensures in (
      ask,
      pending,
      (
        c.in-Told.reply,
        told.0,
        told.1,
        (c.answer-in-Told.ensures.log ask pending, c.answer-in-Told.ensures.run, c.answer-in-Told.ensures.spent, c.answer-in-Told.ensures.pending, c.answer-in-Told.ensures.state),
        told.2 c.args.job.now.run.log,
        told.3,
        told.4 c.args.job.now.run.log,
      ),
    )

pub returns-in-NotYet-clause-ok : goal.returns-in-NotYet-clause-ok
returns-in-NotYet-clause-ok g c =
    let waits = c.in-NotYet.ensures in
    (c.in-Some.ask.now, sym c.in-Some.ensures, (waits.0 c.args.job.now.run.log, refl, waits.1))

pub returns-in-Unfit-clause-ok : goal.returns-in-Unfit-clause-ok
returns-in-Unfit-clause-ok g c =
    let unfit = c.in-Unfit.ensures in
    (c.in-Some.ask.now, sym c.in-Some.ensures, ((λ s has. unfit.0 s c.args.job.now.run.log has), refl, unfit.1))

pub returns-in-Memory-clause-err : goal.returns-in-Memory-clause-err
returns-in-Memory-clause-err g c = (refl, refl, c.in-Memory.ensures)
