use Rattle.std.proofs.Common.{refl, ap, ◌∙◌}
use Rattle.mj_subs.specs.Name.{Name}
use Rattle.mj_store.specs.Changes.{after_set, followed_by}
use Rattle.mj_globs.proofs.Stamping.{rises_then}
use Rattle.mj_globs.proofs.Lists.{fold_next, keeps_place, rises_itself}
use Rattle.mj_globs.proofs.all.give_nodes.Goals as goal

pub loop-node-init : goal.loop-node-init
loop-node-init c = record { content = refl; before = refl; stamps = rises_itself c.args.globals.now; others = λ n e. refl }

pub loop-node-preserved : goal.loop-node-preserved
loop-node-preserved c = record {
  content =
      fold_next (λ es e. after_set es (followed_by c.args.name.now e.0) e.1) _ _ _ _ _ _ c.loop-node-test.true c.node-item.is c.loop-node.invariant.content
      (c.in_ok-exchange.ensures.ok ∙ ap (λ (n : Name). after_set c.loop-node.globals.content n c.node-item.result.1) c.in_ok-place.ensures);
  before = c.exchange.ensures.before ∙ c.loop-node.invariant.before;
  stamps = rises_then _ _ _ c.loop-node.invariant.stamps c.exchange.ensures.stamps;
  others = keeps_place c.args.name.now _ _ _ _ _ c.in_ok-place.ensures c.loop-node.invariant.others c.exchange.ensures.others;
}

pub returns-in_err-exchange-clause-stamps : goal.returns-in_err-exchange-clause-stamps
returns-in_err-exchange-clause-stamps c = rises_then _ _ _ c.loop-node.invariant.stamps c.exchange.ensures.stamps

pub returns-in_err-exchange-clause-others : goal.returns-in_err-exchange-clause-others
returns-in_err-exchange-clause-others c = keeps_place c.args.name.now _ _ _ _ _ c.in_ok-place.ensures c.loop-node.invariant.others c.exchange.ensures.others
