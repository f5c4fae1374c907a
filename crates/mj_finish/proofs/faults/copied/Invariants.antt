use Rattle.std.proofs.Common.{◌≡◌, take}
use Rattle.mj_finish.proofs.faults.copied.Given as goal

-- those up to here are copied
abbrev pub invariant-starts : goal.invariant-starts
invariant-starts l = l.list.items ≡ take l.start-index l.starts
