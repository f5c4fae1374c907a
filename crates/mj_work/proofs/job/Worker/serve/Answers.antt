use Rattle.std.proofs.Common.{Bool, Option, Some, sym, ◌∙◌, subst}
use Rattle.mj_dev.specs.Heard.{Heard}
use Rattle.mj_sys.specs.declared.served.Served.{Served}
use Rattle.mj_sys.specs.System.{Claimed}
use Rattle.mj_work.specs.Working.{WasServedAt}
use Rattle.mj_work.proofs.Telling.{busy_still, taken_at, stops_unserved}
use Rattle.mj_work.proofs.job.Worker.serve.Goals as goal

pub loop-preserved : goal.loop-preserved
loop-preserved g c =
    let S : Option (Served Heard) → Type 0 = λ o. WasServedAt g.O.Opening.opening c.loop.claim c.args.ask.now c.args.place.now c.is_late-late.result o c.try_once.new.claim in
    let was = subst S c.in-Ok-Some.field-0-is c.in-Ok-Some.ensures.ok in
    let still = busy_still g.O.Opening.opening c.loop.claim c.try_once.new.claim c.args.ask.now c.args.place.now c.is_late-late.result c.in-Ok-Some.served
    (sym c.is_told.ensures ∙ c.if-is_told.false) was in
    (tt, tt, still ∙ c.loop.invariant.2)

pub returns-then-is_told-clause-ok : goal.returns-then-is_told-clause-ok
returns-then-is_told-clause-ok g c =
    let S : Option (Served Heard) → Type 0 = λ o. WasServedAt g.O.Opening.opening c.loop.claim c.args.ask.now c.args.place.now c.is_late-late.result o c.try_once.new.claim in
    let was = subst S c.in-Ok-Some.field-0-is c.in-Ok-Some.ensures.ok in
    let P : Claimed → Type 0 = λ k. (late : Bool) × WasServedAt g.O.Opening.opening k c.args.ask.now c.args.place.now late (Some c.in-Ok-Some.served) c.try_once.new.claim in
    subst P c.loop.invariant.2 (c.is_late-late.result, was)

pub returns-in-Ok-None-clause-stop : goal.returns-in-Ok-None-clause-stop
returns-in-Ok-None-clause-stop g c =
    let S : Option (Served Heard) → Type 0 = λ o. WasServedAt g.O.Opening.opening c.loop.claim c.args.ask.now c.args.place.now c.is_late-late.result o c.try_once.new.claim in
    let was = subst S c.in-Ok-None.field-0-is c.in-Ok-None.ensures.ok in
    taken_at g.J.Work.events g.O.Opening.opening c.args.claim.now c.args.ask.now c.args.place.now c.is_late-late.result c.loop.claim c.try_once.new.claim was

pub returns-in-Err-clause-stop : goal.returns-in-Err-clause-stop
returns-in-Err-clause-stop g c =
    stops_unserved g.J.Work.events g.O.Opening.opening c.args.claim.now c.loop.claim c.loop.invariant.2 c.in-Err.why c.stop_by.result c.stop_by.ensures c.in-Err.ensures.refused
    c.args.ask.now c.args.place.now
