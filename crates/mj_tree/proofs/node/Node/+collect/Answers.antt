use Rattle.std.proofs.Common.{◌<◌, refl, ap, sym, ◌∙◌, arith, ◌++◌}
use Rattle.mj_store.specs.Questions.{Subtree}
use Rattle.mj_tree.specs.Nest.{behind, weight}
use Rattle.mj_tree.specs.Rows.{all_of}
use Rattle.mj_tree.specs.Steps.{steps_rest}
use Rattle.mj_tree.proofs.Copies.{gathered, popped}
use Rattle.mj_tree.proofs.Gone.{places_of, begun, ended}
use Rattle.mj_tree.proofs.Lighter.{lighter_next}
use Rattle.mj_tree.proofs.Whole.{own_alone}
use Rattle.mj_tree.proofs.node.Node.+collect.Goals as goal

pub loop-sub-init : goal.loop-sub-init
loop-sub-init t c =
    let of =
    places_of c.self.inside.text c.self.inside.children c.in-Some.children c.args.self.now (steps_rest c.into_iter-sub-iterator.result) c.self.view_is c.self.invariant c.in-Some.is
    (ap steps_rest c.into_iter-sub-iterator.ensures.into_iter_gives ∙ c.iter-sub-items.ensures ∙ ap all_of c.deref.ensures) in
    record {
      nodes = begun c.args.front.now c.args.nodes.now c.collect_own.new.nodes c.self.inside.text (steps_rest c.into_iter-sub-iterator.result) c.args.self.now c.in_ok-collect_own.ensures of.view;
      front = refl;
      light = of.light;
    }

-- each child weighs less than the node
pub collect-requires : goal.collect-requires
collect-requires t c =
    let small : weight c.in-Some-2.child.now < weight c.args.self.now =
    (lighter_next (weight c.args.self.now) (steps_rest c.loop-sub.sub-iterator) (steps_rest c.next.new.self) c.in-Some-2.sub.now c.in-Some-2.child.now c.in-Some-2.ensures.steps
    c.loop-sub.invariant.light).0 in
    (omega (arith, small, c.decreases), tt)

pub loop-sub-preserved-in_ok-collect : goal.loop-sub-preserved-in_ok-collect
loop-sub-preserved-in_ok-collect t c = record {
  nodes =
      gathered c.args.front.now c.loop-sub.front c.append.new.list c.in-Some-2.sub.now c.in-Some-2.child.now c.loop-sub.nodes c.collect.new.nodes _ (steps_rest c.loop-sub.sub-iterator)
      (steps_rest c.next.new.self) c.loop-sub.invariant.nodes c.loop-sub.invariant.front c.in-Some-2.ensures.steps c.in_ok-append.ensures c.in_ok-collect.ensures.nodes;
  front =
      popped c.loop-sub.front c.collect.new.front c.pop-last.new.self c.in-Some-2.sub.now c.pop-last.result (c.in_ok-collect.ensures.front ∙ c.in_ok-append.ensures) c.pop-last.ensures.items
      c.pop-last.ensures.variant ∙ c.loop-sub.invariant.front;
  light =
      (lighter_next (weight c.args.self.now) (steps_rest c.loop-sub.sub-iterator) (steps_rest c.next.new.self) c.in-Some-2.sub.now c.in-Some-2.child.now c.in-Some-2.ensures.steps
      c.loop-sub.invariant.light).1;
}

pub loop-sub-preserved-in_ok-collect-2 : goal.loop-sub-preserved-in_ok-collect-2
loop-sub-preserved-in_ok-collect-2 t c = record {
  nodes =
      gathered c.args.front.now c.loop-sub.front c.append.new.list c.in-Some-2.sub.now c.in-Some-2.child.now c.loop-sub.nodes c.collect.new.nodes _ (steps_rest c.loop-sub.sub-iterator)
      (steps_rest c.next.new.self) c.loop-sub.invariant.nodes c.loop-sub.invariant.front c.in-Some-2.ensures.steps c.in_ok-append.ensures c.in_ok-collect.ensures.nodes;
  front =
      popped c.loop-sub.front c.collect.new.front c.pop-last.new.self c.in-Some-2.sub.now c.pop-last.result (c.in_ok-collect.ensures.front ∙ c.in_ok-append.ensures) c.pop-last.ensures.items
      c.pop-last.ensures.variant ∙ c.loop-sub.invariant.front;
  light =
      (lighter_next (weight c.args.self.now) (steps_rest c.loop-sub.sub-iterator) (steps_rest c.next.new.self) c.in-Some-2.sub.now c.in-Some-2.child.now c.in-Some-2.ensures.steps
      c.loop-sub.invariant.light).1;
}

pub loop-sub-preserved : goal.loop-sub-preserved
loop-sub-preserved t c = record {
  nodes =
      gathered c.args.front.now c.loop-sub.front c.append.new.list c.in-Some-2.sub.now c.in-Some-2.child.now c.loop-sub.nodes c.collect.new.nodes _ (steps_rest c.loop-sub.sub-iterator)
      (steps_rest c.next.new.self) c.loop-sub.invariant.nodes c.loop-sub.invariant.front c.in-Some-2.ensures.steps c.in_ok-append.ensures c.in_ok-collect.ensures.nodes;
  front =
      popped c.loop-sub.front c.collect.new.front c.pop-last.new.self c.in-Some-2.sub.now c.pop-last.result (c.in_ok-collect.ensures.front ∙ c.in_ok-append.ensures) c.pop-last.ensures.items
      c.pop-last.ensures.variant ∙ c.loop-sub.invariant.front;
  light =
      (lighter_next (weight c.args.self.now) (steps_rest c.loop-sub.sub-iterator) (steps_rest c.next.new.self) c.in-Some-2.sub.now c.in-Some-2.child.now c.in-Some-2.ensures.steps
      c.loop-sub.invariant.light).1;
}

pub returns-in-None-clause-nodes : goal.returns-in-None-clause-nodes
returns-in-None-clause-nodes t c = ended c.args.front.now c.loop-sub.nodes _ (steps_rest c.loop-sub.sub-iterator) c.loop-sub.invariant.nodes c.in-None.ensures.steps.0

-- the node has no child
pub returns-in_default-clause-nodes : goal.returns-in_default-clause-nodes
returns-in_default-clause-nodes t c =
    c.in_ok-collect_own.ensures
    ∙ ap (λ (n : Subtree). c.args.nodes.now ++ behind c.args.front.now n) (own_alone c.self.inside.text c.self.inside.children c.args.self.now c.self.view_is c.in_default.is)
