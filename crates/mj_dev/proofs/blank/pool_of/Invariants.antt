use Rattle.std.proofs.Common.{◌≡◌, drop}
use Rattle.mj_dev.specs.Pools.{with_all, shelves_of}
use Rattle.mj_dev.proofs.blank.pool_of.Given as goal

-- with those that are left it is the pool of all
abbrev pub invariant-loop-count : goal.invariant-loop-count
invariant-loop-count l = record { left : with_all (drop l.count-index l.counts) l.pool ≡ shelves_of l.counts }
