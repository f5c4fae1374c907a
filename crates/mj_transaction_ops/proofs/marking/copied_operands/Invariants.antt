use Rattle.std.proofs.Common.{◌≡◌, ◌-◌, ◌≤◌, length, take}
use Rattle.mj_transaction_ops.proofs.marking.copied_operands.Given as goal

-- those so far, and room for the others and one more
abbrev pub invariant-loop-text : goal.invariant-loop-text
invariant-loop-text l = record {
  value : l.copy.items ≡ take l.text-index l.operands;
  many : l.copy.len ≡ l.text-index;
  room : length l.operands ≤ l.copy.cap - 1;
}
