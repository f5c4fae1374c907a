use Rattle.std.proofs.Common.{◌≡◌, ◌+◌, ◌≤◌, drop}
use Rattle.mj_semantics.specs.State.{row_after}
use Rattle.mj_open_devices.proofs.column.row_after.Given as goal

abbrev pub invariant-loop-b : goal.invariant-loop-b
invariant-loop-b l = record {
  value : row_after l.row (drop l.b-index l.bytes) ≡ row_after l.initial.row l.bytes;
  bound : l.row ≤ l.initial.row + l.b-index;
}
