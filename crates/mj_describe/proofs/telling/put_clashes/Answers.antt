use Rattle.std.proofs.Common.{◌++◌}
use Rattle.mj_describe.specs.Words.{apart, clash_text}
use Rattle.mj_describe.proofs.Rounds.{apart_next}
use Rattle.mj_describe.proofs.telling.put_clashes.Goals as goal

pub loop-clash-preserved : goal.loop-clash-preserved
loop-clash-preserved c =
    let text = clash_text c.args.shown.now in
    apart_next text c.args.clashes.now c.loop-clash.clash-index c.clash-item.result (c.args.bytes.now.items ++ apart text c.args.clashes.now)
    c.loop-clash.bytes.items c.put.new.bytes.items c.put_clash.new.bytes.items c.loop-clash-test.true c.clash-item.is c.loop-clash.invariant c.in_ok-put.ensures
    c.in_ok-put_clash.ensures
