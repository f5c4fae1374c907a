use Rattle.std.proofs.Common.{sym, ◌∙◌}
use Rattle.mj_globs.specs.Changes.{after_change}
use Rattle.mj_globs.proofs.Lists.{of_ok, fold_next}
use Rattle.mj_globs.proofs.all.make_each.Goals as goal

pub loop-change-preserved : goal.loop-change-preserved
loop-change-preserved c =
    fold_next after_change _ _ _ _ _ _ c.loop-change-test.true c.change-item.is c.loop-change.invariant
    (of_ok c.make.result _ c.make.ensures.ok (sym c.is_err.ensures.value ∙ c.if-is_err.false))
