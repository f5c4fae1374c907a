use Rattle.std.proofs.Common.{◌+◌, ◌-◌, ◌*◌, length}
use Rattle.mj_txlog.proofs.query.+down.Given as goal

abbrev pub decreases-first_below : goal.decreases-first_below
decreases-first_below l = 2 * (32 - length l.name.now.subscripts)

abbrev pub decreases-first_within : goal.decreases-first_within
decreases-first_within l = 2 * (32 - length l.name.now.subscripts) + 1
