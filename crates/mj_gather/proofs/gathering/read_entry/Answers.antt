use Rattle.std.specs.Prelude.{IfNone, slice_get}
use Rattle.std.specs.Borrow.{Bor}
use Rattle.std.proofs.Common.{◌≡◌, ℕ, Option, None, refl, sym, subst}
use Rattle.mj_ask.specs.declared.ask.Ask.{Ask}
use Rattle.mj_ask.specs.declared.ask.Reply.{Reply}
use Rattle.mj_core.proofs.Views.{found_at, missed_at}
use Rattle.mj_gather.proofs.gathering.read_entry.Goals as goal

pub returns-clause-some : goal.returns-clause-some
returns-clause-some c =
    let lookup = c.in_ok-ask.ensures.lookup in
    found_at c.args.log.now c.args.log.now c.args.place c.in_ok-ask.field-0.now refl lookup.0 lookup.1

pub returns-in_err-ask-clause-none : goal.returns-in_err-ask-clause-none
returns-in_err-ask-clause-none c =
    let P : Option (Bor Ask × Bor Reply × ℕ) → Type 0 = λ e. IfNone e (slice_get c.args.log.now c.args.place ≡ None) in
    subst P (sym c.from_residual.ensures) (missed_at c.args.log.now c.args.log.now c.args.place refl c.in_err-ask.ensures.lookup.0)
