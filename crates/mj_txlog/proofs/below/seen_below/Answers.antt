use Rattle.std.proofs.Common.{◌≡◌, ℕ, [], length, take, ap, ◌∙◌, arith}
use Rattle.std.proofs.Math.Seq.{take-length}
use Rattle.mj_store.specs.Questions.{Subtree, subtree_at}
use Rattle.mj_store.specs.Changes.{after_put}
use Rattle.mj_txlog.proofs.Kept.{kept, kept_alike}
use Rattle.mj_txlog.proofs.below.seen_below.Goals as goal

pub returns-in-Ok : goal.returns-in-Ok
returns-in-Ok c es laid =
    let nodes = c.as_slice-node-items.result.now in
    let all : c.loop-node.node-index ≡ length nodes = omega (arith, c.loop-node-test.false, c.loop-node.auto.node-index-end) in
    let mine : c.loop-node.below ≡ kept c.args.own.now.gone c.args.name.now [] (subtree_at c.args.globals.now c.args.name.now) =
    c.loop-node.invariant
    ∙ ap (λ (k : ℕ). kept c.args.own.now.gone c.args.name.now [] (take k nodes)) all
    ∙ ap (λ (ns : Subtree). kept c.args.own.now.gone c.args.name.now [] ns) (take-length nodes ∙ c.as_slice-node-items.ensures ∙ c.in_ok-nodes.ensures) in
    kept_alike c.args.own.now es c.args.name.now c.args.globals.now c.put-added.new.self laid c.rises.ensures c.over.ensures.rises
    (c.in-Ok.ensures.ok ∙ (λ i. after_put (mine i) c.args.name.now ((c.in_ok-texts.ensures ∙ ap (λ o. subtree_at o c.args.name.now) c.over.ensures.which) i)))
