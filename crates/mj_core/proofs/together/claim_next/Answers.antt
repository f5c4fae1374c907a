use Rattle.std.proofs.Common.{Option, subst}
use Rattle.mj_dev.specs.Heard.{Heard}
use Rattle.mj_sys.specs.System.{Claimed}
use Rattle.mj_core.specs.Kept.{AreKept, claim_of}
use Rattle.mj_core.proofs.Admitting.{claims}
use Rattle.mj_core.proofs.together.claim_next.Goals as goal

pub returns-in-Some-clause-kept : goal.returns-in-Some-clause-kept
returns-in-Some-clause-kept g c =
    let ans = g.A.Answerer.answering in
    let opening = g.O.Opening.opening in
    let e = c.in_ok-claim.ensures in
    let K : Option (Claimed × Heard) → Type 0 = λ w. AreKept ans c.args.image.now opening c.claim.new.self c.args.slots.now (claim_of w) c.args.order.now in
    subst K c.in-Some.is
    (claims ans c.args.image.now opening c.args.system.now c.claim.new.self c.args.slots.now c.args.order.now c.args.waiting.now c.in_ok-claim.field-0
    c.is_none.result c.is_none.ensures c.if-is_none.true c.requires.kept e.history e.some e.start e.fresh e.none)
