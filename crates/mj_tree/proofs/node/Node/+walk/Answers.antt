use Rattle.std.proofs.Common.{◌<◌, ap, ◌∙◌, refl, subst, sym, arith, rules}
use Rattle.mj_store.specs.Questions.{Subtree}
use Rattle.mj_tree.specs.Nest.{behind, below, weight}
use Rattle.mj_tree.specs.Rows.{all_of}
use Rattle.mj_tree.specs.Steps.{steps_rest}
use Rattle.mj_tree.proofs.Gone.{places_of}
use Rattle.mj_tree.proofs.Lighter.{lighter_next}
use Rattle.mj_tree.proofs.Whole.{own_alone}
use Rattle.mj_tree.specs.Walks.{named}
use Rattle.mj_tree.proofs.Copies.{popped}
use Rattle.mj_tree.proofs.Walked.{told_on, from_own, past_child, own_first, child_first, closes_before, closes_behind}
use Rattle.mj_tree.proofs.node.Node.+walk.Goals as goal

pub loop-sub-init : goal.loop-sub-init
loop-sub-init g t c =
    let of =
    places_of c.self.inside.text c.self.inside.children c.in-Some.children c.args.self.now (steps_rest c.into_iter-sub-iterator.result) c.self.view_is c.self.invariant c.in-Some.is
    (ap steps_rest c.into_iter-sub-iterator.ensures.into_iter_gives ∙ c.iter-sub-items.ensures ∙ ap all_of c.deref.ensures) in
    record {
      taken =
          from_own g.S.Sink.takes g.S.Sink.more c.args.global c.args.word.now c.args.front.now c.self.inside.text (steps_rest c.into_iter-sub-iterator.result) c.args.self.now c.args.sink.now
          c.walk_own.new.sink of.view c.in_ok-walk_own.ensures.taken;
      closed = λ t at.
          closes_behind g.S.Sink.closes g.S.Sink.takes g.S.Sink.closed c.args.sink.now c.walk_own.new.sink t _ _ _
          (own_first c.args.global c.args.word.now c.args.front.now c.self.inside.text (steps_rest c.into_iter-sub-iterator.result) c.args.self.now of.view) c.in_ok-walk_own.ensures.taken at;
      front = refl;
      light = of.light;
    }

pub walk-requires : goal.walk-requires
walk-requires g t c =
    let small : weight c.in-Some-2.child.now < weight c.args.self.now =
    (lighter_next (weight c.args.self.now) (steps_rest c.loop-sub.sub-iterator) (steps_rest c.next.new.self) c.in-Some-2.sub.now c.in-Some-2.child.now c.in-Some-2.ensures.steps
    c.loop-sub.invariant.light).0 in
    λ κs h. (first_of (omega (arith, small, c.decreases), search (rules, small)), search rules)

pub loop-sub-preserved-in_ok-walk : goal.loop-sub-preserved-in_ok-walk
loop-sub-preserved-in_ok-walk g t c = record {
  taken =
      past_child g.S.Sink.takes g.S.Sink.more c.args.global c.args.word.now c.args.front.now c.loop-sub.front c.append.new.list c.in-Some-2.sub.now c.in-Some-2.child.now
      (steps_rest c.loop-sub.sub-iterator)
      (steps_rest c.next.new.self) c.args.sink.now c.loop-sub.sink c.walk.new.sink _ c.loop-sub.invariant.taken c.loop-sub.invariant.front c.in-Some-2.ensures.steps
      c.in_ok-append.ensures c.in_ok-walk.ensures.taken;
  closed = λ t at.
      c.loop-sub.invariant.closed t (closes_behind g.S.Sink.closes g.S.Sink.takes g.S.Sink.closed c.loop-sub.sink c.walk.new.sink t _ _ _
      (child_first c.args.global c.args.word.now c.args.front.now c.loop-sub.front c.append.new.list c.in-Some-2.sub.now c.in-Some-2.child.now (steps_rest c.loop-sub.sub-iterator)
      (steps_rest c.next.new.self)
      c.loop-sub.invariant.front c.in-Some-2.ensures.steps c.in_ok-append.ensures) c.in_ok-walk.ensures.taken at);
  front =
      popped c.loop-sub.front c.walk.new.front c.pop-last.new.self c.in-Some-2.sub.now c.pop-last.result (c.in_ok-walk.ensures.front ∙ c.in_ok-append.ensures) c.pop-last.ensures.items
      c.pop-last.ensures.variant ∙ c.loop-sub.invariant.front;
  light =
      (lighter_next (weight c.args.self.now) (steps_rest c.loop-sub.sub-iterator) (steps_rest c.next.new.self) c.in-Some-2.sub.now c.in-Some-2.child.now c.in-Some-2.ensures.steps
      c.loop-sub.invariant.light).1;
}

pub loop-sub-preserved-in_ok-walk-2 : goal.loop-sub-preserved-in_ok-walk-2
loop-sub-preserved-in_ok-walk-2 g t c = record {
  taken =
      past_child g.S.Sink.takes g.S.Sink.more c.args.global c.args.word.now c.args.front.now c.loop-sub.front c.append.new.list c.in-Some-2.sub.now c.in-Some-2.child.now
      (steps_rest c.loop-sub.sub-iterator)
      (steps_rest c.next.new.self) c.args.sink.now c.loop-sub.sink c.walk.new.sink _ c.loop-sub.invariant.taken c.loop-sub.invariant.front c.in-Some-2.ensures.steps
      c.in_ok-append.ensures c.in_ok-walk.ensures.taken;
  closed = λ t at.
      c.loop-sub.invariant.closed t (closes_behind g.S.Sink.closes g.S.Sink.takes g.S.Sink.closed c.loop-sub.sink c.walk.new.sink t _ _ _
      (child_first c.args.global c.args.word.now c.args.front.now c.loop-sub.front c.append.new.list c.in-Some-2.sub.now c.in-Some-2.child.now (steps_rest c.loop-sub.sub-iterator)
      (steps_rest c.next.new.self)
      c.loop-sub.invariant.front c.in-Some-2.ensures.steps c.in_ok-append.ensures) c.in_ok-walk.ensures.taken at);
  front =
      popped c.loop-sub.front c.walk.new.front c.pop-last.new.self c.in-Some-2.sub.now c.pop-last.result (c.in_ok-walk.ensures.front ∙ c.in_ok-append.ensures) c.pop-last.ensures.items
      c.pop-last.ensures.variant ∙ c.loop-sub.invariant.front;
  light =
      (lighter_next (weight c.args.self.now) (steps_rest c.loop-sub.sub-iterator) (steps_rest c.next.new.self) c.in-Some-2.sub.now c.in-Some-2.child.now c.in-Some-2.ensures.steps
      c.loop-sub.invariant.light).1;
}

pub loop-sub-preserved : goal.loop-sub-preserved
loop-sub-preserved g t c = record {
  taken =
      past_child g.S.Sink.takes g.S.Sink.more c.args.global c.args.word.now c.args.front.now c.loop-sub.front c.append.new.list c.in-Some-2.sub.now c.in-Some-2.child.now
      (steps_rest c.loop-sub.sub-iterator)
      (steps_rest c.next.new.self) c.args.sink.now c.loop-sub.sink c.walk.new.sink _ c.loop-sub.invariant.taken c.loop-sub.invariant.front c.in-Some-2.ensures.steps
      c.in_ok-append.ensures c.in_ok-walk.ensures.taken;
  closed = λ t at.
      c.loop-sub.invariant.closed t (closes_behind g.S.Sink.closes g.S.Sink.takes g.S.Sink.closed c.loop-sub.sink c.walk.new.sink t _ _ _
      (child_first c.args.global c.args.word.now c.args.front.now c.loop-sub.front c.append.new.list c.in-Some-2.sub.now c.in-Some-2.child.now (steps_rest c.loop-sub.sub-iterator)
      (steps_rest c.next.new.self)
      c.loop-sub.invariant.front c.in-Some-2.ensures.steps c.in_ok-append.ensures) c.in_ok-walk.ensures.taken at);
  front =
      popped c.loop-sub.front c.walk.new.front c.pop-last.new.self c.in-Some-2.sub.now c.pop-last.result (c.in_ok-walk.ensures.front ∙ c.in_ok-append.ensures) c.pop-last.ensures.items
      c.pop-last.ensures.variant ∙ c.loop-sub.invariant.front;
  light =
      (lighter_next (weight c.args.self.now) (steps_rest c.loop-sub.sub-iterator) (steps_rest c.next.new.self) c.in-Some-2.sub.now c.in-Some-2.child.now c.in-Some-2.ensures.steps
      c.loop-sub.invariant.light).1;
}

pub returns-in-None-clause-taken : goal.returns-in-None-clause-taken
returns-in-None-clause-taken g t c =
    c.loop-sub.invariant.taken c.loop-sub.sink (subst (λ ks. g.S.Sink.takes c.loop-sub.sink (named c.args.global c.args.word.now (behind c.args.front.now (below ks))) c.loop-sub.sink)
    (sym c.in-None.ensures.steps.0) (g.S.Sink.nothing c.loop-sub.sink))

pub returns-in_err-walk-clause-closed : goal.returns-in_err-walk-clause-closed
returns-in_err-walk-clause-closed g t c =
    told_on g.S.Sink.closes c.args.sink.now c.walk.new.sink _ c.from_residual-in_err-walk.result c.in_err-walk.field-0.0 c.from_residual-in_err-walk.ensures.1
    (λ is. c.loop-sub.invariant.closed c.walk.new.sink (closes_before g.S.Sink.closes c.loop-sub.sink c.walk.new.sink _
    (named c.args.global c.args.word.now (behind c.args.front.now (below (steps_rest c.next.new.self)))) _
    (child_first c.args.global c.args.word.now c.args.front.now c.loop-sub.front c.append.new.list c.in-Some-2.sub.now c.in-Some-2.child.now (steps_rest c.loop-sub.sub-iterator)
    (steps_rest c.next.new.self)
    c.loop-sub.invariant.front c.in-Some-2.ensures.steps c.in_ok-append.ensures) (c.in_err-walk.ensures.closed is)))

-- the node has no child
pub returns-in_default-clause-taken : goal.returns-in_default-clause-taken
returns-in_default-clause-taken g t c =
    subst (λ (n : Subtree). g.S.Sink.takes c.args.sink.now (named c.args.global c.args.word.now (behind c.args.front.now n)) c.walk_own.new.sink)
    (own_alone c.self.inside.text c.self.inside.children c.args.self.now c.self.view_is c.in_default.is) c.in_ok-walk_own.ensures.taken
