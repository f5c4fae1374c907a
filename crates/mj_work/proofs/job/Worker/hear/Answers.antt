use Rattle.std.proofs.Common.{◌≡◌, true, Ok, refl, sym, ◌∙◌, subst}
use Rattle.std.proofs.lemmas.Option.{same_Some}
use Rattle.mj_ask.specs.declared.ask.Ask.{Ask}
use Rattle.mj_work.specs.Working.{needs_no_place, IsAnswered}
use Rattle.mj_work.proofs.Telling.{placeless_shared, fits_told, may_hear, stays_same, unserved, was_replied, err_is}
use Rattle.mj_work.proofs.job.Worker.hear.Goals as goal

pub tell-requires : goal.tell-requires
tell-requires g c =
    let P : Ask → Type 0 = λ a. needs_no_place a ≡ true in
    subst P (same_Some c.requires.asks.0 c.in-Some.ask.now (sym c.requires.asks.1 ∙ sym c.in-Some.ensures)) c.requires.asks.2

pub take_reply-requires : goal.take_reply-requires
take_reply-requires g c =
    let ask = c.in-Some.ask.now in
    let P : Ask → Type 0 = λ a. needs_no_place a ≡ true in
    let shared = placeless_shared ask (subst P (same_Some c.requires.asks.0 ask (sym c.requires.asks.1 ∙ sym c.in-Some.ensures)) c.requires.asks.2) in
    let ok = c.in_ok-reply.ensures.ok in
    record { told = (ask, sym c.in-Some.ensures, shared, fits_told g.O.Opening.opening c.args.claim.now c.tell.new.claim ask ok.0 c.in_ok-reply.reply shared ok.1) }

pub returns-in_err-reply : goal.returns-in_err-reply
returns-in_err-reply g c = λ a is.
    let ans = g.A.Answerer.answering in
    let opening = g.O.Opening.opening in
    let P : Ask → Type 0 = λ b. needs_no_place b ≡ true in
    let shared = placeless_shared a (subst P (same_Some c.requires.asks.0 a (sym c.requires.asks.1 ∙ is)) c.requires.asks.2) in
    let stop = c.in_err-reply.field-0.0 in
    let may = may_hear g.J.Work.events opening c.args.claim.now ans a shared c.args.job.now c.args.answerer.now c.args.answerer.now stop c.in_err-reply.ensures.stop in
    unserved ans opening a c.args.claim.now c.args.job.now c.args.answerer.now (Unit {0}) stop c.from_residual.result c.tell.new.claim c.args.job.now
    c.args.answerer.now (err_is c.from_residual.result stop c.from_residual.ensures.1) may c.in_err-reply.ensures.err refl (stays_same ans c.args.answerer.now)

pub returns : goal.returns
returns g c = λ a is.
    let ask = c.in-Some.ask.now in
    let ans = g.A.Answerer.answering in
    let opening = g.O.Opening.opening in
    let ok = c.in_ok-reply.ensures.ok in
    let same : ask ≡ a = same_Some ask a (c.in-Some.ensures ∙ is) in
    let P : Ask → Type 0 = λ b. IsAnswered {R = Unit {0}} ans opening b c.args.claim.now c.args.job.now c.args.answerer.now (Ok tt) c.tell.new.claim c.take_reply.new.job c.args.answerer.now in
    subst P same
    (was_replied ans opening ask c.args.claim.now c.args.job.now c.args.answerer.now (Unit {0}) c.tell.new.claim ok.0 c.in_ok-reply.reply c.take_reply.new.job
    tt ok.1 (c.take_reply.ensures.told ask (sym c.in-Some.ensures)) c.take_reply.ensures.own)
