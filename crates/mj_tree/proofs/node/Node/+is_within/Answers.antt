use Rattle.std.proofs.Common.{◌≡◌, true, false, ◌<◌, refl, rules, ap, sym, ◌∙◌, arith}
use Rattle.mj_tree.specs.Nest.{weight, own}
use Rattle.mj_tree.specs.Rows.{all_of}
use Rattle.mj_tree.specs.Steps.{steps_rest}
use Rattle.mj_tree.proofs.Gone.{places_of}
use Rattle.mj_tree.proofs.Kills.{some_node}
use Rattle.mj_tree.proofs.Lighter.{lighter_next}
use Rattle.mj_tree.proofs.Within.{child_within, child_none, child_over, subscript_over, own_within}
use Rattle.mj_tree.proofs.node.Node.+is_within.Goals as goal

pub loop-sub-init : goal.loop-sub-init
loop-sub-init t c =
    let of =
    places_of c.self.inside.text c.self.inside.children c.in-Some.children c.args.self.now (steps_rest c.into_iter-sub-iterator.result) c.self.view_is c.self.invariant c.in-Some.is
    (ap steps_rest c.into_iter-sub-iterator.ensures.into_iter_gives ∙ c.iter-sub-items.ensures ∙ ap all_of c.deref.ensures) in
    record {
      same = own_within c.args.limit (own c.self.inside.text) c.args.self.now (steps_rest c.into_iter-sub-iterator.result) of.view (search rules);
      light = of.light;
    }

pub is_within-requires-in-loop-sub : goal.is_within-requires-in-loop-sub
is_within-requires-in-loop-sub t c =
    let small : weight c.in-Some-2.child.now < weight c.args.self.now =
    (lighter_next (weight c.args.self.now) (steps_rest c.loop-sub.sub-iterator) (steps_rest c.next.new.self) c.in-Some-2.sub.now c.in-Some-2.child.now c.in-Some-2.ensures.steps
    c.loop-sub.invariant.light).0 in
    (omega (arith, small, c.decreases), tt)

pub returns-then-not-is_within : goal.returns-then-not-is_within
returns-then-not-is_within t c =
    sym (c.loop-sub.invariant.same
    ∙ subscript_over c.args.limit c.in-Some-2.sub.now c.in-Some-2.child.now (steps_rest c.loop-sub.sub-iterator) (steps_rest c.next.new.self) c.in-Some-2.ensures.steps
    (some_node c.in-Some-2.child.now (λ e. let f : false ≡ true = c.if-is_empty.ensures.1 e in absurd cc)) (search rules))

pub returns-then-not-is_within-2 : goal.returns-then-not-is_within-2
returns-then-not-is_within-2 t c =
    sym (c.loop-sub.invariant.same
    ∙ child_over c.args.limit c.in-Some-2.sub.now c.in-Some-2.child.now (steps_rest c.loop-sub.sub-iterator) (steps_rest c.next.new.self) c.in-Some-2.ensures.steps (search rules)
    (search rules))

-- a place that holds nothing
pub loop-sub-preserved-then-is_empty : goal.loop-sub-preserved-then-is_empty
loop-sub-preserved-then-is_empty t c = record {
  same =
      c.loop-sub.invariant.same
      ∙ child_none c.args.limit c.in-Some-2.sub.now c.in-Some-2.child.now (steps_rest c.loop-sub.sub-iterator) (steps_rest c.next.new.self) c.in-Some-2.ensures.steps
      (c.if-is_empty.ensures.0 refl);
  light =
      (lighter_next (weight c.args.self.now) (steps_rest c.loop-sub.sub-iterator) (steps_rest c.next.new.self) c.in-Some-2.sub.now c.in-Some-2.child.now c.in-Some-2.ensures.steps
      c.loop-sub.invariant.light).1;
}

pub loop-sub-preserved : goal.loop-sub-preserved
loop-sub-preserved t c = record {
  same =
      c.loop-sub.invariant.same
      ∙ child_within c.args.limit c.in-Some-2.sub.now c.in-Some-2.child.now (steps_rest c.loop-sub.sub-iterator) (steps_rest c.next.new.self) c.in-Some-2.ensures.steps (search rules)
      (search rules);
  light =
      (lighter_next (weight c.args.self.now) (steps_rest c.loop-sub.sub-iterator) (steps_rest c.next.new.self) c.in-Some-2.sub.now c.in-Some-2.child.now c.in-Some-2.ensures.steps
      c.loop-sub.invariant.light).1;
}
