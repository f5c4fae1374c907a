use Rattle.std.proofs.Common.{take}
use Rattle.std.specs.Prelude.{All}
use Rattle.mj_pcode.specs.Checked.{IsChecked}
use Rattle.mj_load.specs.Image.{AreUnits}
use Rattle.mj_load.proofs.loading.units_of.Given as goal

-- the code of those so far
abbrev pub invariant-loop-routine : goal.invariant-loop-routine
invariant-loop-routine l = record {
  code : AreUnits (take l.routine-index l.routines) l.units.items;
  checked : All IsChecked l.units.items;
}
