use Rattle.std.proofs.Common.{◌≡◌, length}
use Rattle.mj_core.specs.Woven.{woven, AreThere}
use Rattle.mj_gather.specs.Lent.{lent, log_at, left_at}
use Rattle.mj_gather.proofs.Merging.{IsMerged}
use Rattle.mj_gather.proofs.gathering.tell_all.Given as goal

abbrev pub invariant-loop-at : goal.invariant-loop-at
invariant-loop-at g l =
    (length l.places ≡ length l.logs)
    × AreThere (lent l.logs) l.order.items
    × IsMerged g.O.Opening.opening (log_at (lent l.logs)) l.history l.fn.jobs l.at (left_at (lent l.logs) l.places) (woven (lent l.logs) l.order.items)
