use Rattle.std.proofs.Common.{◌≡◌, ◌+◌, ◌≤◌, drop}
use Rattle.mj_pcode.specs.Machine as machines
use Rattle.mj_lock_ops.proofs.actuals.given_count.Given as goal

-- those so far, and those that are left
abbrev pub invariant-loop-given : goal.invariant-loop-given
invariant-loop-given l = (l.count + machines.given_count (drop l.given-index l.shape) ≡ machines.given_count l.shape) × (l.count ≤ l.given-index)
