use Rattle.std.proofs.Common.{◌≡◌, ◌≤◌, ◌+◌, take}
use Rattle.mj_dev.specs.Cursor.{cursor_behind}
use Rattle.mj_dev.proofs.talk.Cursor.behind.Given as goal

abbrev pub invariant-loop-byte : goal.invariant-loop-byte
invariant-loop-byte l = record {
  place : l.at ≡ cursor_behind l.initial.at (take l.byte-index l.bytes);
  column : l.at.column ≤ l.initial.at.column + l.byte-index;
  row : l.at.row ≤ l.initial.at.row + l.byte-index;
}
