use Rattle.std.proofs.Common.{◌+◌, drop, take, refl, arith}
use Rattle.std.specs.Prelude.{slice_get}
use Rattle.mj_inspect.specs.Waits.{started_at, started_in}
use Rattle.mj_inspect.proofs.Putting.{left_first, left_next, left_last, started_next, started_last}
use Rattle.mj_inspect.proofs.waiting.put_started.Goals as goal

pub loop-at-init : goal.loop-at-init
loop-at-init g c =
    let h = c.args.core.now.history in
    left_first c.args.core.now.image h c.args.place (started_in (take c.args.place h)) c.args.bytes.now.items c.args.bytes.now.items refl

pub loop-at-preserved : goal.loop-at-preserved
loop-at-preserved g c =
    let h = c.args.core.now.history in
    let place = c.args.place in
    let at = c.loop-at.at in
    left_next c.args.core.now.image h place (started_in (take place h)) (started_at (slice_get h at)) (started_in (drop (at + 1) (take place h)))
    (started_in (drop at (take place h))) c.args.bytes.now.items c.loop-at.bytes.items c.put_at.new.bytes.items (started_next h place at c.loop-at-test.true)
    c.loop-at.invariant c.in_ok-put_at.ensures

pub returns : goal.returns
returns g c =
    let h = c.args.core.now.history in
    let place = c.args.place in
    let at = c.loop-at.at in
    left_last c.args.core.now.image h place (started_in (take place h)) (started_in (drop at (take place h))) c.args.bytes.now.items c.loop-at.bytes.items
    (started_last h place at (omega (arith, c.loop-at-test.false))) c.loop-at.invariant
