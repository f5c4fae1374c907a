use Rattle.std.proofs.Common.{◌≡◌, take}
use Rattle.mj_replay.proofs.migrating.copy_pool.Given as goal

-- those so far were copied
abbrev pub invariant-loop-device : goal.invariant-loop-device
invariant-loop-device l = l.copies.items ≡ take l.device-index l.pool
