use Rattle.std.proofs.Common.{◌≡◌, true, false, Some, refl, sym, ap, ◌∙◌, arith}
use Rattle.std.specs.VecDeque.{deque_len}
use Rattle.mj_tree.proofs.Shrunk.{front_taken, trimmed_told, trimmed_none, shorter}
use Rattle.mj_tree.proofs.children.Children.trim_front.Goals as goal

-- the first place holds something
pub returns-then-not-is_empty-clause-sound : goal.returns-then-not-is_empty-clause-sound
returns-then-not-is_empty-clause-sound c = (
  c.loop-first.invariant.ordered,
  trimmed_told c.loop-first.self.row.items c.in-Some.first.now c.in-Some.ensures.lookup
      (λ e. let f : true ≡ false = sym (c.is_empty.ensures.1 e) ∙ c.if-not-is_empty.true in absurd cc),
)

pub loop-first-smaller-else-not-is_empty : goal.loop-first-smaller-else-not-is_empty
loop-first-smaller-else-not-is_empty c =
    shorter c.pop_front-gone.result c.in-Some.first.now (deque_len c.pop_front-gone.new.self) (deque_len c.loop-first.self.row)
    (c.pop_front-gone.ensures.value c.in-Some.first.now (c.in-Some.ensures.variant.0 refl) ∙ ap (λ x. Some x) (sym c.in-Some.ensures.lookup)) c.pop_front-gone.ensures.cases

pub loop-first-preserved-else-not-is_empty : goal.loop-first-preserved-else-not-is_empty
loop-first-preserved-else-not-is_empty c =
    let front =
    front_taken c.loop-first.self.row.items c.pop_front-gone.new.self.items c.loop-first.self.others.entries c.in-Some.first.now c.loop-first.invariant.ordered c.in-Some.ensures.item.3.0
    c.pop_front-gone.ensures.rest c.in-Some.ensures.lookup (c.is_empty.ensures.0 c.if-not-is_empty.false) in
    record { ordered = front.0; same = front.1 ∙ c.loop-first.invariant.same }

pub loop-first-smaller-else-not-is_empty-2 : goal.loop-first-smaller-else-not-is_empty-2
loop-first-smaller-else-not-is_empty-2 c =
    shorter c.pop_front-gone.result c.in-Some.first.now (deque_len c.pop_front-gone.new.self) (deque_len c.loop-first.self.row)
    (c.pop_front-gone.ensures.value c.in-Some.first.now (c.in-Some.ensures.variant.0 refl) ∙ ap (λ x. Some x) (sym c.in-Some.ensures.lookup)) c.pop_front-gone.ensures.cases

pub loop-first-preserved-else-not-is_empty-2 : goal.loop-first-preserved-else-not-is_empty-2
loop-first-preserved-else-not-is_empty-2 c =
    let front =
    front_taken c.loop-first.self.row.items c.pop_front-gone.new.self.items c.loop-first.self.others.entries c.in-Some.first.now c.loop-first.invariant.ordered c.in-Some.ensures.item.3.0
    c.pop_front-gone.ensures.rest c.in-Some.ensures.lookup (c.is_empty.ensures.0 c.if-not-is_empty.false) in
    record { ordered = front.0; same = front.1 ∙ c.loop-first.invariant.same }

pub loop-first-smaller : goal.loop-first-smaller
loop-first-smaller c =
    shorter c.pop_front-gone.result c.in-Some.first.now (deque_len c.pop_front-gone.new.self) (deque_len c.loop-first.self.row)
    (c.pop_front-gone.ensures.value c.in-Some.first.now (c.in-Some.ensures.variant.0 refl) ∙ ap (λ x. Some x) (sym c.in-Some.ensures.lookup)) c.pop_front-gone.ensures.cases

pub loop-first-preserved : goal.loop-first-preserved
loop-first-preserved c =
    let front =
    front_taken c.loop-first.self.row.items c.pop_front-gone.new.self.items c.loop-first.self.others.entries c.in-Some.first.now c.loop-first.invariant.ordered c.in-Some.ensures.item.3.0
    c.pop_front-gone.ensures.rest c.in-Some.ensures.lookup (c.is_empty.ensures.0 c.if-not-is_empty.false) in
    record { ordered = front.0; same = front.1 ∙ c.loop-first.invariant.same }

-- no place is left
pub returns-clause-sound : goal.returns-clause-sound
returns-clause-sound c = (c.loop-first.invariant.ordered, trimmed_none c.loop-first.self.row.items (omega (arith, c.in_default.ensures.item.3)))
