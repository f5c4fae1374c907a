use Rattle.std.proofs.Common.{sym, subst}
use Rattle.std.proofs.lemmas.List.Elements.{All-push}
use Rattle.std.specs.Prelude.{All}
use Rattle.mj_pcode.specs.Checked.{IsChecked}
use Rattle.mj_load.proofs.Units.{one_more}
use Rattle.mj_load.proofs.loading.units_of.Goals as goal

pub loop-routine-preserved : goal.loop-routine-preserved
loop-routine-preserved c = record {
  code =
      one_more c.args.routines.now c.loop-routine.units.items c.push.new.self.items c.loop-routine.routine-index c.routine-item.result c.in_ok-assemble.field-0
      c.loop-routine-test.true c.routine-item.is c.loop-routine.invariant.code c.in_ok-assemble.ensures.code c.in_ok-push.ensures.items;
  checked =
      subst (All IsChecked) (sym c.in_ok-push.ensures.items)
      (All-push IsChecked c.loop-routine.units.items c.in_ok-assemble.field-0 c.loop-routine.invariant.checked c.in_ok-assemble.ensures.checked);
}
