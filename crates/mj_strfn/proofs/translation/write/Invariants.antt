use Rattle.std.proofs.Common.{◌≡◌, ◌≤◌, length, take}
use Rattle.mj_strfn.specs.Table.{translated_by}
use Rattle.mj_strfn.proofs.translation.write.Given as goal

abbrev pub invariant-loop-byte : goal.invariant-loop-byte
invariant-loop-byte l = record {
  value : take l.kept l.made ≡ translated_by l.table (take l.byte-index l.bytes);
  room : length l.bytes ≤ length l.made;
  limit : l.kept ≤ l.byte-index;
}
