use Rattle.std.proofs.Common.{◌∙◌, arith}
use Rattle.mj_guide.proofs.Counting.{counted_all}
use Rattle.mj_guide.proofs.tally.count_ended.Goals as goal

pub returns : goal.returns
returns g c =
    counted_all c.args.core.now.history c.loop-at.at c.loop-at.ended c.loop-at.invariant (omega (arith, c.loop-at-test.false, c.len-at-end.ensures.value))
