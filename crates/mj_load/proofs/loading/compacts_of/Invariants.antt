use Rattle.std.proofs.Common.{◌≡◌, length}
use Rattle.mj_compact.specs.Compact.{AreCompact}
use Rattle.mj_load.proofs.loading.compacts_of.Given as goal

abbrev pub invariant-loop-unit : goal.invariant-loop-unit
invariant-loop-unit l = record {
  are : AreCompact l.units l.compacts.items;
  count : length l.compacts.items ≡ l.unit-index;
}
