use Rattle.std.proofs.Common.{◌∷◌, ◌+◌, [], drop, refl, arith}
use Rattle.mj_core.specs.Runs.{start_in}
use Rattle.mj_inspect.specs.Waits.{numbered}
use Rattle.mj_inspect.proofs.Putting.{left_first, left_next, left_last, numbered_next, numbered_last}
use Rattle.mj_inspect.proofs.waiting.put_first.Goals as goal

pub loop-start-init : goal.loop-start-init
loop-start-init g c =
    left_first c.args.core.now.image c.args.core.now.history c.args.place (numbered 1 c.args.starts.now) c.args.bytes.now.items c.args.bytes.now.items refl

pub loop-start-preserved : goal.loop-start-preserved
loop-start-preserved g c =
    let starts = c.args.starts.now in
    let i = c.loop-start.start-index in
    let job = c.loop-start.job in
    let number = c.in_ok-job.job in
    left_next c.args.core.now.image c.args.core.now.history c.args.place (numbered 1 starts) (start_in number c.start-item.result ∷ [])
    (numbered (number + 1) (drop (i + 1) starts)) (numbered (job + 1) (drop i starts)) c.args.bytes.now.items c.loop-start.bytes.items c.put_next.new.bytes.items
    (numbered_next starts i job number c.start-item.result c.loop-start-test.true c.start-item.is c.in_ok-job.ensures) c.loop-start.invariant c.in_ok-put_next.ensures

pub returns : goal.returns
returns g c =
    let starts = c.args.starts.now in
    let i = c.loop-start.start-index in
    let job = c.loop-start.job in
    left_last c.args.core.now.image c.args.core.now.history c.args.place (numbered 1 starts) (numbered (job + 1) (drop i starts)) c.args.bytes.now.items c.loop-start.bytes.items
    (numbered_last starts i (job + 1) (omega (arith, c.loop-start-test.false))) c.loop-start.invariant
