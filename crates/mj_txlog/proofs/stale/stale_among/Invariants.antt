use Rattle.std.proofs.Common.{◌≡◌, take}
use Rattle.mj_txlog.specs.Follows.{stale_among}
use Rattle.mj_txlog.proofs.stale.stale_among.Given as goal

-- the count is that of the accesses so far
abbrev pub invariant-loop-i : goal.invariant-loop-i
invariant-loop-i l = l.stale ≡ stale_among l.globals.stamps (take l.i l.entries) (take l.i l.stamps)
