use Rattle.std.proofs.Common.{◌+◌, ◌*◌, length}
use Rattle.mj_txlog.proofs.query.+up.Given as goal

abbrev pub decreases-first_past : goal.decreases-first_past
decreases-first_past l = 2 * length l.name.now.subscripts

abbrev pub decreases-first_beside : goal.decreases-first_beside
decreases-first_beside l = 2 * length l.front.now.subscripts + 1
