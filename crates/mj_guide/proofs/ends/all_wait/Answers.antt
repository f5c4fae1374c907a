use Rattle.std.proofs.Common.{arith}
use Rattle.mj_guide.proofs.Counting.{counted_whole}
use Rattle.mj_guide.proofs.ends.all_wait.Goals as goal

pub overflow_add-over : goal.overflow_add-over
overflow_add-over g c =
    let core = c.args.core.now in
    let few = counted_whole core.history c.args.ended core.image.bounds.events c.requires c.len-events.ensures.within in
    omega (arith, few, c.len-events.ensures.most, c.ranges.waited)
