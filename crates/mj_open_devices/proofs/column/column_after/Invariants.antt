use Rattle.std.proofs.Common.{◌≡◌, ◌+◌, ◌≤◌, drop}
use Rattle.mj_semantics.specs.State.{column_after}
use Rattle.mj_open_devices.proofs.column.column_after.Given as goal

abbrev pub invariant-loop-b : goal.invariant-loop-b
invariant-loop-b l = record {
  value : column_after l.column (drop l.b-index l.bytes) ≡ column_after l.initial.column l.bytes;
  bound : l.column ≤ l.initial.column + l.b-index;
}
