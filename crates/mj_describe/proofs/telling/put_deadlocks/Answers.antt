use Rattle.std.proofs.Common.{◌++◌, map, Vec, Global}
use Rattle.mj_explain.specs.declared.cycles.Wait.{Wait}
use Rattle.mj_describe.specs.Words.{apart, deadlock_text}
use Rattle.mj_describe.proofs.Rounds.{apart_on}
use Rattle.mj_describe.proofs.telling.put_deadlocks.Goals as goal

pub loop-waits-preserved : goal.loop-waits-preserved
loop-waits-preserved c =
    let text = deadlock_text c.args.shown.now c.args.standing.now in
    apart_on text (λ (d : Vec Wait Global). d.items) c.args.deadlocks.now c.loop-waits.waits-index c.waits-item.result
    (c.args.bytes.now.items ++ apart text (map (λ (d : Vec Wait Global). d.items) c.args.deadlocks.now)) c.loop-waits.bytes.items c.put.new.bytes.items
    c.put_deadlock.new.bytes.items c.deref.result.now c.loop-waits-test.true c.waits-item.is c.loop-waits.invariant c.in_ok-put.ensures c.deref.ensures.value
    c.in_ok-put_deadlock.ensures
