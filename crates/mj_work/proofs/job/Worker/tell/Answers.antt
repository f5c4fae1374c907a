use Rattle.std.proofs.Common.{Bool, Option, ◌∙◌, subst}
use Rattle.mj_ask.specs.declared.ask.Reply.{Reply}
use Rattle.mj_sys.specs.declared.served.Served.TheVariants as serveds
use Rattle.mj_sys.specs.System.{Claimed}
use Rattle.mj_work.specs.Working.{WasServed, WasToldAt}
use Rattle.mj_work.proofs.Telling.{stops_untold}
use Rattle.mj_work.proofs.job.Worker.tell.Goals as goal

pub loop-preserved : goal.loop-preserved
loop-preserved g c =
    let S : Option Reply → Type 0 = λ o. WasToldAt g.O.Opening.opening c.loop.claim c.args.ask.now c.is_late-late.result o c.tell_once.new.claim in
    let busy = subst S c.in-Ok-None.field-0-is c.in-Ok-None.ensures.ok in
    (tt, tt, busy.2.2.records.1 ∙ c.loop.invariant.2)

pub returns-in-Ok-Some-clause-ok : goal.returns-in-Ok-Some-clause-ok
returns-in-Ok-Some-clause-ok g c =
    let S : Option Reply → Type 0 = λ o. WasToldAt g.O.Opening.opening c.loop.claim c.args.ask.now c.is_late-late.result o c.tell_once.new.claim in
    let was = subst S c.in-Ok-Some.field-0-is c.in-Ok-Some.ensures.ok in
    let P : Claimed → Type 0 = λ k. (late : Bool) × WasServed g.O.Opening.opening k c.args.ask.now late (serveds.Reply c.in-Ok-Some.reply) c.tell_once.new.claim in
    subst P c.loop.invariant.2 (c.is_late-late.result, was)

pub returns-in-Err-clause-stop : goal.returns-in-Err-clause-stop
returns-in-Err-clause-stop g c =
    stops_untold g.J.Work.events g.O.Opening.opening c.args.claim.now c.loop.claim c.loop.invariant.2 c.in-Err.why c.stop_by.result c.stop_by.ensures c.in-Err.ensures.refused
