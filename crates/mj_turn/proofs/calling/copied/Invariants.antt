use Rattle.std.proofs.Common.{◌≡◌, ◌++◌, drop}
use Rattle.mj_turn.proofs.calling.copied.Given as goal

-- the values so far, and those that are left
abbrev pub invariant-loop-value : goal.invariant-loop-value
invariant-loop-value l = l.list.items ++ drop l.value-index l.values ≡ l.values
