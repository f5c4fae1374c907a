use Rattle.std.proofs.Common.{◌-◌, length}
use Rattle.mj_gather.specs.Lent.{lent}
use Rattle.mj_gather.proofs.Written.{AreWritten}
use Rattle.mj_gather.proofs.gathering.put_own.Given as goal

abbrev pub invariant-entries : goal.invariant-entries
invariant-entries l = AreWritten (lent l.fn.logs) l.fn.job l.log l.fn.from l.place l.fn.order.items l.order.items

abbrev pub decreases-entries : goal.decreases-entries
decreases-entries l = length l.log - l.place
