use Rattle.std.proofs.Common.{◌≡◌, take}
use Rattle.mj_script.proofs.script.Script.starts.Given as goal

-- those up to here
abbrev pub invariant-starts : goal.invariant-starts
invariant-starts l = l.starts.items ≡ take l.start-index l.start-items
