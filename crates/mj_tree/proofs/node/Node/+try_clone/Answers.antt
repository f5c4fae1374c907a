use Rattle.std.proofs.Common.{◌≡◌, ◌<◌, ℕ, List, ◌++◌, refl, sym, ap, ◌∙◌, subst, arith}
use Rattle.std.specs.Prelude.{T}
use Rattle.std.specs.FinMap.{is_sorted}
use Rattle.std.specs.VecDeque.Iter.{deque_iter_rest}
use Rattle.mj_subs.specs.Collation.{subscript_cmp}
use Rattle.mj_subs.specs.Laws.Total.{subscript_cmp_total}
use Rattle.mj_store.specs.Questions.{Subtree}
use Rattle.mj_tree.specs.declared.children.Children.{Children}
use Rattle.mj_tree.specs.Nest.{weight}
use Rattle.mj_tree.specs.Rows.{all_of}
use Rattle.mj_tree.proofs.Added.{no_items}
use Rattle.mj_tree.proofs.Copies.{copied_one}
use Rattle.mj_tree.proofs.Gone.{places_of, copied_own, copied_node}
use Rattle.mj_tree.proofs.Lighter.{AreLighter, lighter_next, lighter_front, lighter_back}
use Rattle.mj_tree.proofs.Places.{sorted_back}
use Rattle.mj_tree.proofs.Whole.{seen, sound_in}
use Rattle.mj_tree.proofs.Written.{copied_place, whole_copied, copied_sound}
use Rattle.mj_tree.proofs.node.Node.+try_clone.Goals as goal

-- a node without children
pub returns-in_default : goal.returns-in_default
returns-in_default t c = copied_own c.self.inside.text c.in_ok-text.text c.self.inside.children c.args.self.now c.in_ok-text.ensures.cases c.self.view_is c.in_default.is

-- the row
pub loop-place-init : goal.loop-place-init
loop-place-init t c =
    let gives : deque_iter_rest c.into_iter-place-iterator.result ≡ c.deref.result.now.row.items = c.into_iter-place-iterator.ensures.into_iter_gives.0 in
    let rest = gives ∙ ap (λ (d : Children). d.row.items) c.deref.ensures in record {
      row = ap (λ (xs : List (List ℕ × Subtree)). xs ++ deque_iter_rest c.into_iter-place-iterator.result) c.new-copy.ensures.row ∙ rest;
      others = c.new-copy.ensures.others;
      light =
          subst (λ (ks : List (List ℕ × Subtree)). AreLighter (weight c.args.self.now) ks) (sym rest)
          (lighter_front (weight c.args.self.now) c.in-Some.children.value.row.items c.in-Some.children.value.others.entries
          (places_of c.self.inside.text c.self.inside.children c.in-Some.children c.args.self.now (all_of c.in-Some.children.value) c.self.view_is c.self.invariant c.in-Some.is refl).light);
      text = refl;
    }

pub try_clone-requires-in-loop-place : goal.try_clone-requires-in-loop-place
try_clone-requires-in-loop-place t c =
    let small : weight c.in-Some-place.place.now.1 < weight c.args.self.now =
    (lighter_next (weight c.args.self.now) (deque_iter_rest c.loop-place.place-iterator) (deque_iter_rest c.next.new.self) c.in-Some-place.place.now.0 c.in-Some-place.place.now.1
    c.in-Some-place.ensures.steps c.loop-place.invariant.light).0 in
    (omega (arith, small, c.decreases), tt)

pub loop-place-preserved : goal.loop-place-preserved
loop-place-preserved t c = record {
  row =
      copied_place c.loop-place.copy.row.items (deque_iter_rest c.loop-place.place-iterator) (deque_iter_rest c.next.new.self) c.in-Some.children.value.row.items
      c.push_back-in-loop-place.new.self.items c.in-Some-place.place.now (c.in_ok-try_clone.field-0, c.in_ok-try_clone-2.field-0) c.loop-place.invariant.row c.in-Some-place.ensures.steps
      (λ i. (c.in_ok-try_clone.ensures i, c.in_ok-try_clone-2.ensures i)) c.in_ok-push_back.ensures.items;
  others = c.loop-place.invariant.others;
  light =
      (lighter_next (weight c.args.self.now) (deque_iter_rest c.loop-place.place-iterator) (deque_iter_rest c.next.new.self) c.in-Some-place.place.now.0 c.in-Some-place.place.now.1
      c.in-Some-place.ensures.steps c.loop-place.invariant.light).1;
  text = c.loop-place.invariant.text;
}

-- the others
pub loop-sub-init : goal.loop-sub-init
loop-sub-init t c = record {
  row = refl;
  others = ap (λ (xs : List (List ℕ × Subtree)). xs ++ c.into_iter-sub-iterator.result) c.loop-place.invariant.others;
  light =
      subst (λ (ks : List (List ℕ × Subtree)). AreLighter (weight c.args.self.now) ks)
      (sym (c.into_iter-sub-iterator.ensures.into_iter_gives.0 ∙ ap (λ (d : Children). d.others.entries) c.deref-2.ensures))
      (lighter_back (weight c.args.self.now) c.in-Some.children.value.row.items c.in-Some.children.value.others.entries
      (places_of c.self.inside.text c.self.inside.children c.in-Some.children c.args.self.now (all_of c.in-Some.children.value) c.self.view_is c.self.invariant c.in-Some.is refl).light);
  text = refl;
}

pub try_clone-requires-in-loop-sub : goal.try_clone-requires-in-loop-sub
try_clone-requires-in-loop-sub t c =
    let small : weight c.in-Some-2.child.now < weight c.args.self.now =
    (lighter_next (weight c.args.self.now) c.loop-sub.sub-iterator c.next-in-loop-sub.new.self c.in-Some-2.sub.now c.in-Some-2.child.now c.in-Some-2.ensures.steps c.loop-sub.invariant.light).0 in
    (omega (arith, small, c.decreases), tt)

pub loop-sub-preserved : goal.loop-sub-preserved
loop-sub-preserved t c = record {
  row = c.loop-sub.invariant.row;
  others =
      copied_one subscript_cmp subscript_cmp_total c.loop-sub.copy.others.entries c.loop-sub.sub-iterator c.next-in-loop-sub.new.self c.into_iter-sub-iterator.result c.put.new.others.entries
      c.in-Some-2.sub.now c.in-Some-2.child.now c.in_ok-try_clone-3.field-0 c.loop-sub.invariant.others c.in-Some-2.ensures.steps c.in_ok-try_clone-3.ensures c.in_ok-put.ensures.ok
      (subst (λ (es : List (List ℕ × Subtree)). T (is_sorted subscript_cmp es)) (sym (c.into_iter-sub-iterator.ensures.into_iter_gives.0 ∙ ap (λ (d : Children). d.others.entries) c.deref-2.ensures))
      (sorted_back subscript_cmp c.in-Some.children.value.row.items c.in-Some.children.value.others.entries
      (sound_in c.self.inside.children c.in-Some.children c.self.invariant c.in-Some.is).0.0.rises));
  light =
      (lighter_next (weight c.args.self.now) c.loop-sub.sub-iterator c.next-in-loop-sub.new.self c.in-Some-2.sub.now c.in-Some-2.child.now c.in-Some-2.ensures.steps c.loop-sub.invariant.light).1;
  text = c.loop-sub.invariant.text;
}

-- the copy is as sound as the node
pub invariant_of-result-2 : goal.invariant_of-result-2
invariant_of-result-2 t c =
    copied_sound c.in-Some.children.value c.in_ok-new.field-0.value
    (ap (λ (d : Children). d.row.items) c.in_ok-new.ensures.ok
    ∙ c.loop-sub.invariant.row
    ∙ whole_copied c.loop-place.copy.row.items (deque_iter_rest c.loop-place.place-iterator) c.in-Some.children.value.row.items c.loop-place.invariant.row (no_items _ c.in-None.ensures.steps.0))
    (ap (λ (d : Children). d.others.entries) c.in_ok-new.ensures.ok
    ∙ whole_copied c.loop-sub.copy.others.entries c.loop-sub.sub-iterator c.into_iter-sub-iterator.result c.loop-sub.invariant.others c.in-None-2.ensures.steps.0
    ∙ (c.into_iter-sub-iterator.ensures.into_iter_gives.0 ∙ ap (λ (d : Children). d.others.entries) c.deref-2.ensures))
    (sound_in c.self.inside.children c.in-Some.children c.self.invariant c.in-Some.is)

pub returns : goal.returns
returns t c =
    let copied =
    copied_node c.self.inside.text c.in_ok-text.text c.in-Some.children.value c.in_ok-new.field-0.value c.args.self.now c.in_ok-text.ensures.cases
    (ap (λ (d : Children). d.row.items) c.in_ok-new.ensures.ok
    ∙ c.loop-sub.invariant.row
    ∙ whole_copied c.loop-place.copy.row.items (deque_iter_rest c.loop-place.place-iterator) c.in-Some.children.value.row.items c.loop-place.invariant.row (no_items _ c.in-None.ensures.steps.0))
    (ap (λ (d : Children). d.others.entries) c.in_ok-new.ensures.ok
    ∙ whole_copied c.loop-sub.copy.others.entries c.loop-sub.sub-iterator c.into_iter-sub-iterator.result c.loop-sub.invariant.others c.in-None-2.ensures.steps.0
    ∙ (c.into_iter-sub-iterator.ensures.into_iter_gives.0 ∙ ap (λ (d : Children). d.others.entries) c.deref-2.ensures))
    (seen c.self.inside.text c.self.inside.children c.in-Some.children c.args.self.now (all_of c.in-Some.children.value) c.self.view_is c.in-Some.is refl) in
    cc
