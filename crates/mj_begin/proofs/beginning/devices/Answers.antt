use Rattle.std.proofs.Common.{sym, ◌∙◌}
use Rattle.mj_begin.specs.Words.{IsNamedBy}
use Rattle.mj_begin.proofs.Devices.{one_more, of_some, pushed}
use Rattle.mj_begin.proofs.beginning.devices.Goals as goal

pub loop-word-preserved : goal.loop-word-preserved
loop-word-preserved c =
    let l = c.loop-word in
    let added = pushed c.push.result c.push.new.self.items _ l.devices.items c.push.ensures.items (sym c.is_err.ensures.value ∙ c.if-is_err.false) in
    let named = of_some c.in_ok-device.field-0 _ c.in-Some.device c.in_ok-device.ensures.some c.in-Some.is in
    one_more IsNamedBy c.args.words.now l.devices.items c.push.new.self.items l.word-index _ c.in-Some.device c.loop-word-test.true l.invariant named added
