use Rattle.std.proofs.Common.{◌≡◌, ◌-◌, ◌+◌, ◌++◌, length}
use Rattle.mj_core.specs.Woven.{woven, AreThere}
use Rattle.mj_gather.specs.Merged.{firsts, left_by_firsts}
use Rattle.mj_gather.specs.Lent.{lent, left_at}
use Rattle.mj_gather.proofs.gathering.put_firsts.Given as goal

abbrev pub invariant-loop-at : goal.invariant-loop-at
invariant-loop-at l =
    (length l.places ≡ length l.logs)
    × (left_by_firsts 1 l.jobs (left_at (lent l.logs) l.fn.places) ≡ left_by_firsts (l.at + 1) (l.jobs - l.at) (left_at (lent l.logs) l.places))
    × (woven (lent l.logs) l.fn.order.items ++ firsts 1 l.jobs (left_at (lent l.logs) l.fn.places)
    ≡ woven (lent l.logs) l.order.items ++ firsts (l.at + 1) (l.jobs - l.at) (left_at (lent l.logs) l.places))
    × (AreThere (lent l.logs) l.fn.order.items → AreThere (lent l.logs) l.order.items)
