use Rattle.std.proofs.Common.{false, refl}
use Rattle.mj_ask.specs.declared.ask.Ask.TheVariants as asks
use Rattle.mj_ask.specs.declared.ask.SharedAsk.TheVariants as shared_asks
use Rattle.mj_core.proofs.Placing.{reply_fits, replied, serves_late}
use Rattle.mj_core.proofs.slot.access.Goals as goal

pub take_reply-requires : goal.take_reply-requires
take_reply-requires g c =
    let a = shared_asks.Access c.args.access in
    let fit = reply_fits g.A.Answerer.answering g.O.Opening.opening c.args.system.now c.access.new.self c.args.claim.now c.access.new.claim a refl false
    c.args.answerer.now c.args.job.now c.in-Ok.reply c.in-Ok.ensures.ok in
    record { told = (asks.Shared a, c.requires.asks, refl, fit) }

pub returns-in-Ok-clause-ok : goal.returns-in-Ok-clause-ok
returns-in-Ok-clause-ok g c = λ late.
    let opening = g.O.Opening.opening in
    let a = shared_asks.Access c.args.access in
    let serves = serves_late opening c.args.system.now c.access.new.self c.args.claim.now c.access.new.claim c.args.access c.in-Ok.reply late c.in-Ok.ensures.ok in
    replied g.A.Answerer.answering opening c.args.system.now c.access.new.self c.args.claim.now c.access.new.claim a refl late c.args.answerer.now c.args.job.now
    c.in-Ok.reply c.take_reply.new.job serves (c.take_reply.ensures.told (asks.Shared a) c.requires.asks)
