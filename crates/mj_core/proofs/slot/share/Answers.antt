use Rattle.std.proofs.Common.{◌≡◌, true, Option, Some, sym, subst}
use Rattle.mj_ask.specs.declared.ask.Ask.{Ask}
use Rattle.mj_ask.specs.Fits.{is_shared}
use Rattle.mj_dev.specs.Heard.{Heard}
use Rattle.mj_sys.specs.declared.served.Served.{Served}
use Rattle.mj_core.specs.Ties.{IsServedAt}
use Rattle.mj_core.proofs.Placing.{can_be_told, shares}
use Rattle.mj_core.proofs.Stepping.{same_ask}
use Rattle.mj_core.proofs.slot.share.Goals as goal

pub take_up-requires : goal.take_up-requires
take_up-requires g c =
    let ask = c.in-Some.ask.now in
    let opening = g.O.Opening.opening in
    let P : Ask → Type 0 = λ a. is_shared a ≡ true in
    let shared : is_shared ask ≡ true =
    subst P (same_ask c.args.job.now.run.pending c.requires.asks.0 ask c.requires.asks.1 (sym c.in-Some.ensures)) c.requires.asks.2 in
    let S : Option (Served Heard) → Type 0 = λ s.
    IsServedAt opening c.args.system.now c.args.claim.now ask c.in-Ok.place c.args.late s c.serve_at.new.system c.serve_at.new.claim in
    let is = subst S c.in-Ok-Some.field-0-is c.in-Ok-Some.ensures.ok in
    let can = can_be_told g.A.Answerer.answering opening c.args.system.now c.serve_at.new.system c.args.claim.now c.serve_at.new.claim ask c.in-Ok.place c.args.late
    c.args.answerer.now c.make_place.new.answerer shared c.in-Ok.ensures.place c.in-Ok-Some.served is in
    record { told = (ask, sym c.in-Some.ensures, shared, can) }

pub returns-in-Ok-Some-clause-ok : goal.returns-in-Ok-Some-clause-ok
returns-in-Ok-Some-clause-ok g c =
    let ask = c.in-Some.ask.now in
    let opening = g.O.Opening.opening in
    let P : Ask → Type 0 = λ a. is_shared a ≡ true in
    let shared : is_shared ask ≡ true =
    subst P (same_ask c.args.job.now.run.pending c.requires.asks.0 ask c.requires.asks.1 (sym c.in-Some.ensures)) c.requires.asks.2 in
    let S : Option (Served Heard) → Type 0 = λ s.
    IsServedAt opening c.args.system.now c.args.claim.now ask c.in-Ok.place c.args.late s c.serve_at.new.system c.serve_at.new.claim in
    let is = subst S c.in-Ok-Some.field-0-is c.in-Ok-Some.ensures.ok in (
      ask,
      sym c.in-Some.ensures,
      shares g.A.Answerer.answering opening c.args.system.now c.serve_at.new.system c.args.claim.now c.serve_at.new.claim ask c.in-Ok.place c.args.late
          c.args.answerer.now c.make_place.new.answerer shared c.in-Ok.ensures.place c.args.job.now c.take_up.new.job c.take_up.new.answerer c.make_place.ensures.stays
          c.in-Ok-Some.served c.take_up.result is c.take_up.ensures.made (c.take_up.ensures.told ask (sym c.in-Some.ensures)),
    )
