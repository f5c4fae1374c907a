-- A proper front is a shorter list with which the other starts.
use Rattle.std.proofs.Common.{◌<◌, ◌≤◌, length, arith, le-ltb}
use Rattle.mj_subs.specs.Laws.Tests.{starts_with-shorter, is_proper_front-longer}
use Rattle.mj_subs.proofs.subs.Subs.is_front_of.Goals as goal

pub returns-then-len : goal.returns-then-len
returns-then-len c =
    let shorter : length c.args.self.now < length c.args.other.now = omega arith in
    rw (← starts_with-shorter c.args.self.now c.args.other.now shorter, ← c.as_slice.ensures.value, ← c.as_slice-then-len.ensures.value) c.starts_with.ensures.value

pub returns-else-len : goal.returns-else-len
returns-else-len c =
    let longer : length c.args.other.now ≤ length c.args.self.now = omega arith in
    rw (is_proper_front-longer c.args.self.now c.args.other.now longer) (le-ltb c.len.result c.len-2.result c.if-len.false)
