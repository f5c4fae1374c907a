use Rattle.std.proofs.Common.{None, refl}
use Rattle.mj_subs.specs.Collation.{name_cmp}
use Rattle.mj_tree.specs.Undo.{restored}
use Rattle.mj_globs.proofs.Stamping.{rises_then}
use Rattle.mj_globs.proofs.Lists.{fold_next, rises_itself}
use Rattle.mj_globs.proofs.Taken.{keeps_name}
use Rattle.mj_globs.proofs.all.take_each.Goals as goal

pub loop-name-init : goal.loop-name-init
loop-name-init c = record { content = refl; stamps = rises_itself c.args.globals.now; others = λ n e. refl }

pub loop-name-preserved : goal.loop-name-preserved
loop-name-preserved c = record {
  content = fold_next (λ es n. restored name_cmp n None es) _ _ _ _ _ _ c.loop-name-test.true c.name-item.is c.loop-name.invariant.content c.restore.ensures.content;
  stamps = rises_then _ _ _ c.loop-name.invariant.stamps c.restore.ensures.stamps;
  others =
      keeps_name c.args.names.now c.loop-name.name-index c.name-item.result c.args.globals.now.stamps c.loop-name.globals.stamps c.restore.new.self.stamps
      c.loop-name-test.true c.name-item.is c.loop-name.invariant.others c.restore.ensures.others;
}
