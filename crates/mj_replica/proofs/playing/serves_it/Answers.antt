use Rattle.std.proofs.Common.{true, subst}
use Rattle.mj_ask.specs.declared.ask.Ask.TheVariants as asks
use Rattle.mj_ask.specs.declared.ask.Reply.TheVariants as replies
use Rattle.mj_dev.specs.Heard.{Heard}
use Rattle.mj_sys.specs.declared.served.Served.{Served}
use Rattle.mj_sys.specs.Told.{Serves}
use Rattle.mj_replica.proofs.Serving.{told_so, busy_so}
use Rattle.mj_replica.proofs.playing.serves_it.Goals as goal

pub returns-in-Ok-Reply : goal.returns-in-Ok-Reply
returns-in-Ok-Reply g c =
    let opening = g.O.Opening.opening in
    let S : Served Heard → Type 0 = λ t. Serves opening c.args.system.now c.args.claim.now (asks.Shared c.args.ask.now) true t c.serve_shared.new.self c.serve_shared.new.claim in
    let serves = subst S c.in-Ok-Reply.field-0-is c.in-Ok-Reply.ensures.ok in
    told_so opening c.args.system.now c.serve_shared.new.self c.args.claim.now c.serve_shared.new.claim
    (asks.Shared c.args.ask.now) c.args.reply.now c.in-Ok-Reply.told serves.tells.0 serves.records.0 serves.records.1
    c.is_same_reply.result c.is_same_reply.ensures.0 c.is_same_reply.ensures.1

pub returns-in-Ok-Opened : goal.returns-in-Ok-Opened
returns-in-Ok-Opened g c =
    let opening = g.O.Opening.opening in
    let S : Served Heard → Type 0 = λ t. Serves opening c.args.system.now c.args.claim.now (asks.Shared c.args.ask.now) true t c.serve_shared.new.self c.serve_shared.new.claim in
    let serves = subst S c.in-Ok-Opened.field-0-is c.in-Ok-Opened.ensures.ok in
    told_so opening c.args.system.now c.serve_shared.new.self c.args.claim.now c.serve_shared.new.claim
    (asks.Shared c.args.ask.now) c.args.reply.now replies.Got serves.tells.0 serves.records.0 serves.records.1
    c.is_same_reply-in-Ok-Opened.result c.is_same_reply-in-Ok-Opened.ensures.0 c.is_same_reply-in-Ok-Opened.ensures.1

pub returns-in-Ok-Busy : goal.returns-in-Ok-Busy
returns-in-Ok-Busy g c =
    let opening = g.O.Opening.opening in
    let S : Served Heard → Type 0 = λ t. Serves opening c.args.system.now c.args.claim.now (asks.Shared c.args.ask.now) true t c.serve_shared.new.self c.serve_shared.new.claim in
    let serves = subst S c.in-Ok-Busy.field-0-is c.in-Ok-Busy.ensures.ok in
    busy_so opening c.args.system.now c.serve_shared.new.self c.args.claim.now c.serve_shared.new.claim (asks.Shared c.args.ask.now) c.args.reply.now replies.Got serves.tells.0
