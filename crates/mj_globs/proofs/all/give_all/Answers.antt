use Rattle.std.proofs.Common.{refl, ◌∙◌}
use Rattle.mj_globs.specs.Parts.{changed_without_name}
use Rattle.mj_globs.proofs.Stamping.{rises_then}
use Rattle.mj_globs.proofs.Lists.{fold_next, keeps_next, rises_itself}
use Rattle.mj_globs.proofs.all.give_all.Goals as goal

pub loop-change-init : goal.loop-change-init
loop-change-init c = record { content = refl; before = refl; stamps = rises_itself c.args.globals.now; others = λ n e. refl }

pub loop-change-preserved : goal.loop-change-preserved
loop-change-preserved c = record {
  content = fold_next changed_without_name _ _ _ _ _ _ c.loop-change-test.true c.change-item.is c.loop-change.invariant.content c.in_ok-give.ensures.ok;
  before = c.give.ensures.before ∙ c.loop-change.invariant.before;
  stamps = rises_then _ _ _ c.loop-change.invariant.stamps c.give.ensures.stamps;
  others =
      keeps_next c.args.changes.now c.loop-change.change-index c.change-item.result c.args.globals.now.stamps c.loop-change.globals.stamps c.give.new.globals.stamps
      c.loop-change-test.true c.change-item.is c.loop-change.invariant.others c.give.ensures.others;
}

pub returns-in_err-give-clause-stamps : goal.returns-in_err-give-clause-stamps
returns-in_err-give-clause-stamps c = rises_then _ _ _ c.loop-change.invariant.stamps c.give.ensures.stamps

pub returns-in_err-give-clause-others : goal.returns-in_err-give-clause-others
returns-in_err-give-clause-others c =
    keeps_next c.args.changes.now c.loop-change.change-index c.change-item.result c.args.globals.now.stamps c.loop-change.globals.stamps c.give.new.globals.stamps
    c.loop-change-test.true c.change-item.is c.loop-change.invariant.others c.give.ensures.others
