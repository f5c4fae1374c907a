use Rattle.std.proofs.Common.{Option, sym, ap, ◌∙◌, subst}
use Rattle.mj_ask.specs.declared.ask.Ask.{Ask}
use Rattle.mj_ask.specs.declared.ask.Ask.TheVariants as asks
use Rattle.mj_ask.specs.declared.ask.Reply.{Reply}
use Rattle.mj_work.specs.Working.{needs_no_place, WasToldAt}
use Rattle.mj_work.proofs.Telling.{told_at}
use Rattle.mj_work.proofs.Locking.{refused_by}
use Rattle.mj_work.proofs.job.Worker.tell_once.Goals as goal

pub tell-requires : goal.tell-requires
tell-requires g c = ap needs_no_place c.in-Ok.ensures ∙ c.requires

pub returns-clause-ok : goal.returns-clause-ok
returns-clause-ok g c =
    let P : Ask → Type 0 = λ a. WasToldAt g.O.Opening.opening c.args.claim.now a c.args.late c.reply_in.result c.tell.new.claim in
    let Q : Option Reply → Type 0 = λ o. WasToldAt g.O.Opening.opening c.args.claim.now (asks.Shared c.in-Ok.copy) c.args.late o c.tell.new.claim in
    subst P c.in-Ok.ensures
    (subst Q (sym c.reply_in.ensures)
    (told_at g.O.Opening.opening c.args.claim.now c.tell.new.claim (asks.Shared c.in-Ok.copy) c.args.late c.in_ok-told.told c.in_ok-told.ensures.ok))

pub returns-in_err-told-clause-refused : goal.returns-in_err-told-clause-refused
returns-in_err-told-clause-refused g c =
    refused_by g.J.Work.events g.O.Opening.opening c.args.claim.now c.from_residual.result c.in_err-told.field-0.0 c.from_residual.ensures.1 c.in_err-told.ensures.was_refused
