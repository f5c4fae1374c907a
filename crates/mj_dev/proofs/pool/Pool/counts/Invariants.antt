use Rattle.std.proofs.Common.{◌≡◌, map, take}
use Rattle.mj_dev.specs.Shelves.{count_of}
use Rattle.mj_dev.proofs.pool.Pool.counts.Given as goal

abbrev pub invariant-loop-row : goal.invariant-loop-row
invariant-loop-row g l = l.counts.items ≡ map count_of (take l.row-index l.row-items)
