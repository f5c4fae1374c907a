use Rattle.std.proofs.Common.{◌≡◌, false, refl, ap, inl, inr}
use Rattle.mj_ask.specs.Fits.{is_shared}
use Rattle.mj_replica.specs.Playing.{start_of}
use Rattle.mj_replica.proofs.Telling.{isnt_asked, is_asked, isnt_served, isnt_heard, is_served_on, is_heard_on}
use Rattle.mj_replica.proofs.playing.play.Goals as goal

pub returns-then-not-branch : goal.returns-then-not-branch
returns-then-not-branch g c =
    isnt_asked c.args.image.now g.O.Opening.opening c.args.system.now c.args.claim.now c.args.job.now c.args.heeds.now c.args.ask.now c.args.reply.now c.requires.tied c.asks_it.new.job
    c.in_ok-asks_it.field-0 c.if-not-branch.true (c.in_ok-asks_it.ensures.asks (start_of c.args.claim.now) c.requires.tied.run)

pub returns-then-not-branch-2 : goal.returns-then-not-branch-2
returns-then-not-branch-2 g c =
    isnt_served c.args.image.now g.O.Opening.opening c.args.system.now c.args.claim.now c.args.job.now c.args.heeds.now c.args.ask.now c.args.reply.now c.requires.tied c.asks_it.new.job
    c.in_ok-serves_it-in-Shared.field-0 c.if-not-branch-2.true _ c.in-Shared.is refl c.serves_it.new.system c.serves_it.new.claim c.in_ok-serves_it-in-Shared.ensures

pub tell-requires : goal.tell-requires
tell-requires g c =
    is_asked c.args.image.now g.O.Opening.opening c.args.system.now c.args.claim.now c.args.job.now c.args.heeds.now c.args.ask.now c.args.reply.now c.requires.tied c.asks_it.new.job
    c.in_ok-asks_it.field-0 c.if-not-branch.false (c.in_ok-asks_it.ensures.asks (start_of c.args.claim.now) c.requires.tied.run)

pub returns-else-not-branch-2 : goal.returns-else-not-branch-2
returns-else-not-branch-2 g c =
    is_served_on c.args.image.now g.O.Opening.opening c.args.system.now c.args.claim.now c.args.job.now c.args.heeds.now c.args.ask.now c.args.reply.now c.requires.tied c.asks_it.new.job
    c.requires.live c.asks_it.ensures.log (c.asks_it.ensures.run (start_of c.args.claim.now) c.requires.tied.run)
    c.tell.new.job c.in_ok-asks_it.field-0 c.if-not-branch.false (c.in_ok-asks_it.ensures.asks (start_of c.args.claim.now) c.requires.tied.run)
    c.in_ok-serves_it-in-Shared.field-0 c.if-not-branch-2.false _ c.in-Shared.is refl c.serves_it.new.system c.serves_it.new.claim c.in_ok-serves_it-in-Shared.ensures
    c.tell.result c.tell.ensures

pub returns-then-not-branch-3 : goal.returns-then-not-branch-3
returns-then-not-branch-3 g c =
    isnt_heard c.args.image.now g.O.Opening.opening c.args.system.now c.args.claim.now c.args.job.now c.args.heeds.now c.args.ask.now c.args.reply.now c.requires.tied c.asks_it.new.job
    c.in_ok-hear-in-Device.field-0 c.if-not-branch-3.true c.hear.new.self (c.in_ok-hear-in-Device.ensures c.args.job.now.run.log c.requires.tied.heard)

pub tell-requires-in-Device : goal.tell-requires-in-Device
tell-requires-in-Device g c =
    is_asked c.args.image.now g.O.Opening.opening c.args.system.now c.args.claim.now c.args.job.now c.args.heeds.now c.args.ask.now c.args.reply.now c.requires.tied c.asks_it.new.job
    c.in_ok-asks_it.field-0 c.if-not-branch.false (c.in_ok-asks_it.ensures.asks (start_of c.args.claim.now) c.requires.tied.run)

pub returns-else-not-branch-3 : goal.returns-else-not-branch-3
returns-else-not-branch-3 g c =
    let unshared : is_shared c.args.ask.now ≡ false = elim c.in-Device.is [ inl e ↦ ap is_shared e.2 | inr e ↦ ap is_shared e.1 ] in
    is_heard_on c.args.image.now g.O.Opening.opening c.args.system.now c.args.claim.now c.args.job.now c.args.heeds.now c.args.ask.now c.args.reply.now c.requires.tied c.asks_it.new.job
    c.requires.live c.asks_it.ensures.log (c.asks_it.ensures.run (start_of c.args.claim.now) c.requires.tied.run)
    c.tell-in-Device.new.job c.in_ok-asks_it.field-0 c.if-not-branch.false (c.in_ok-asks_it.ensures.asks (start_of c.args.claim.now) c.requires.tied.run)
    c.in_ok-hear-in-Device.field-0 c.if-not-branch-3.false unshared c.hear.new.self (c.in_ok-hear-in-Device.ensures c.args.job.now.run.log c.requires.tied.heard)
    c.tell-in-Device.result c.tell-in-Device.ensures
