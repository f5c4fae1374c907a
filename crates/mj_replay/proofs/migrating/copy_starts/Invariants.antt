use Rattle.std.proofs.Common.{◌≡◌, take}
use Rattle.mj_replay.proofs.migrating.copy_starts.Given as goal

-- those so far were copied
abbrev pub invariant-loop-start : goal.invariant-loop-start
invariant-loop-start l = l.copies.items ≡ take l.start-index l.starts
