use Rattle.std.proofs.Common.{refl, subst}
use Rattle.mj_ask.specs.declared.ask.Ask.TheVariants as asks
use Rattle.mj_sys.specs.declared.served.Told.{Told}
use Rattle.mj_sys.specs.Told.{Serves, served_as}
use Rattle.mj_core.proofs.Placing.{reply_fits, replied, kept_busy}
use Rattle.mj_core.proofs.slot.tell.Goals as goal

pub take_reply-requires : goal.take_reply-requires
take_reply-requires g c =
    let opening = g.O.Opening.opening in
    let new = c.tell.new.self in
    let S : Told → Type 0 = λ t. Serves opening c.args.system.now c.args.claim.now (asks.Shared c.args.ask) c.args.late (served_as t) new c.tell.new.claim in
    let fit = reply_fits g.A.Answerer.answering opening c.args.system.now new c.args.claim.now c.tell.new.claim c.args.ask c.requires.moves c.args.late
    c.args.answerer.now c.args.job.now c.in-Ok-Reply.reply (subst S c.in-Ok-Reply.field-0-is c.in-Ok-Reply.ensures.ok) in
    record { told = (asks.Shared c.args.ask, c.requires.asks, refl, fit) }

pub returns-in-Ok-Reply-clause-ok : goal.returns-in-Ok-Reply-clause-ok
returns-in-Ok-Reply-clause-ok g c =
    let opening = g.O.Opening.opening in
    let new = c.tell.new.self in
    let S : Told → Type 0 = λ t. Serves opening c.args.system.now c.args.claim.now (asks.Shared c.args.ask) c.args.late (served_as t) new c.tell.new.claim in
    replied g.A.Answerer.answering opening c.args.system.now new c.args.claim.now c.tell.new.claim c.args.ask c.requires.moves c.args.late c.args.answerer.now
    c.args.job.now c.in-Ok-Reply.reply c.take_reply.new.job (subst S c.in-Ok-Reply.field-0-is c.in-Ok-Reply.ensures.ok)
    (c.take_reply.ensures.told (asks.Shared c.args.ask) c.requires.asks)

pub returns-in-Ok-Busy-clause-ok : goal.returns-in-Ok-Busy-clause-ok
returns-in-Ok-Busy-clause-ok g c =
    let opening = g.O.Opening.opening in
    let new = c.tell.new.self in
    let S : Told → Type 0 = λ t. Serves opening c.args.system.now c.args.claim.now (asks.Shared c.args.ask) c.args.late (served_as t) new c.tell.new.claim in
    kept_busy g.A.Answerer.answering opening c.args.system.now new c.args.claim.now c.tell.new.claim c.args.ask c.requires.moves c.args.late c.args.answerer.now
    c.args.job.now c.in-Ok-Busy.holder c.in-Ok-Busy.held (subst S c.in-Ok-Busy.field-0-is c.in-Ok-Busy.ensures.ok)
