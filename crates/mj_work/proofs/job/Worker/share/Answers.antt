use Rattle.std.proofs.Common.{◌≡◌, true, Ok, refl, sym, ◌∙◌, subst}
use Rattle.std.proofs.lemmas.Option.{same_Some}
use Rattle.mj_ask.specs.declared.ask.Ask.{Ask}
use Rattle.mj_ask.specs.Fits.{is_shared}
use Rattle.mj_work.specs.Working.{MayStop, IsAnswered}
use Rattle.mj_work.proofs.Telling.{may_share, can_tell, unserved, was_told, err_is}
use Rattle.mj_work.proofs.job.Worker.share.Goals as goal

pub serve-requires : goal.serve-requires
serve-requires g c =
    let P : Ask → Type 0 = λ a. is_shared a ≡ true in
    subst P (same_Some c.requires.asks.0 c.in-Some.ask.now (sym c.requires.asks.1 ∙ sym c.in-Some.ensures)) c.requires.asks.2

pub take_up-requires : goal.take_up-requires
take_up-requires g c =
    let ask = c.in-Some.ask.now in
    let P : Ask → Type 0 = λ a. is_shared a ≡ true in
    let shared : is_shared ask ≡ true =
    subst P (same_Some c.requires.asks.0 ask (sym c.requires.asks.1 ∙ sym c.in-Some.ensures)) c.requires.asks.2 in
    let ok = c.in_ok-served.ensures.ok in
    let can = can_tell g.O.Opening.opening c.args.claim.now c.serve.new.claim ask c.in-Ok.place ok.0 c.in_ok-served.served ok.1 g.A.Answerer.answering
    c.args.answerer.now c.make_place.new.answerer shared c.in-Ok.ensures.place in
    record { told = (ask, sym c.in-Some.ensures, shared, can) }

pub returns-in_default-make_place : goal.returns-in_default-make_place
returns-in_default-make_place g c = λ a is. (tt, refl, refl, c.make_place.ensures.stays)

pub returns-in_err-served : goal.returns-in_err-served
returns-in_err-served g c = λ a is.
    let ans = g.A.Answerer.answering in
    let opening = g.O.Opening.opening in
    let P : Ask → Type 0 = λ b. is_shared b ≡ true in
    let shared : is_shared a ≡ true = subst P (same_Some c.requires.asks.0 a (sym c.requires.asks.1 ∙ is)) c.requires.asks.2 in
    let stop = c.in_err-served.field-0.0 in
    let M : Ask → Type 0 = λ b. MayStop ans opening b c.args.claim.now c.args.job.now c.args.answerer.now stop c.make_place.new.answerer in
    let ask = c.in-Some.ask.now in
    let same : a ≡ ask = same_Some a ask (sym is ∙ sym c.in-Some.ensures) in
    let may = may_share g.J.Work.events opening c.args.claim.now ans ask (subst P same shared) c.args.job.now c.args.answerer.now c.make_place.new.answerer c.in-Ok.place stop
    c.in-Ok.ensures.place c.in_err-served.ensures.stop in
    unserved ans opening a c.args.claim.now c.args.job.now c.args.answerer.now (Unit {0}) stop c.from_residual.result c.serve.new.claim c.args.job.now
    c.make_place.new.answerer (err_is c.from_residual.result stop c.from_residual.ensures.1) (subst M (sym same) may) c.in_err-served.ensures.err refl
    c.make_place.ensures.stays

pub returns : goal.returns
returns g c = λ a is.
    let ask = c.in-Some.ask.now in
    let ans = g.A.Answerer.answering in
    let opening = g.O.Opening.opening in
    let ok = c.in_ok-served.ensures.ok in
    let same : ask ≡ a = same_Some ask a (c.in-Some.ensures ∙ is) in
    let P : Ask → Type 0 = λ b. IsAnswered {R = Unit {0}} ans opening b c.args.claim.now c.args.job.now c.args.answerer.now (Ok tt) c.serve.new.claim c.take_up.new.job c.take_up.new.answerer in
    subst P same
    (was_told ans opening ask c.args.claim.now c.args.job.now c.args.answerer.now (Unit {0}) c.serve.new.claim c.in-Ok.place ok.0 c.in_ok-served.served
    c.make_place.new.answerer c.take_up.new.answerer c.take_up.new.job tt ok.1 c.in_ok-served.ensures.told c.make_place.ensures.stays
    (c.take_up.ensures.told ask (sym c.in-Some.ensures)) c.take_up.ensures.own)
