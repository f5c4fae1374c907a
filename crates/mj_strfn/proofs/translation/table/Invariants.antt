use Rattle.std.proofs.Common.{◌≡◌, drop, length}
use Rattle.mj_strfn.specs.Table.{IsTable}
use Rattle.mj_strfn.proofs.translation.table.Given as goal

abbrev pub invariant-loop-place : goal.invariant-loop-place
invariant-loop-place l = record {
  made : IsTable (drop l.place l.from) (drop l.place l.to) l.table;
  long : length l.table ≡ 256;
}
