use Rattle.std.proofs.Common.{Some, refl, sym, ap, ◌∙◌, arith}
use Rattle.std.specs.VecDeque.{deque_len}
use Rattle.mj_tree.proofs.Shrunk.{back_taken, shorter}
use Rattle.mj_tree.proofs.children.Children.trim_back.Goals as goal

pub loop-last-smaller-else-not-is_empty : goal.loop-last-smaller-else-not-is_empty
loop-last-smaller-else-not-is_empty c =
    shorter c.pop_back-gone.result c.in-Some.last.now (deque_len c.pop_back-gone.new.self) (deque_len c.loop-last.self.row)
    (c.pop_back-gone.ensures.value c.in-Some.last.now (c.in-Some.ensures.variant.0 refl) ∙ ap (λ x. Some x) (sym c.in-Some.ensures.lookup)) c.pop_back-gone.ensures.cases

pub loop-last-preserved-else-not-is_empty : goal.loop-last-preserved-else-not-is_empty
loop-last-preserved-else-not-is_empty c =
    let back =
    back_taken c.loop-last.self.row.items c.pop_back-gone.new.self.items c.loop-last.self.others.entries c.pop_back-gone.result c.in-Some.last.now c.loop-last.invariant.sound.0
    c.loop-last.invariant.sound.1 c.pop_back-gone.ensures.items
    (c.pop_back-gone.ensures.value c.in-Some.last.now (c.in-Some.ensures.variant.0 refl) ∙ ap (λ x. Some x) (sym c.in-Some.ensures.lookup)) (c.is_empty.ensures.0 c.if-not-is_empty.false) in
    record { sound = back.0; same = back.1 ∙ c.loop-last.invariant.same }

pub loop-last-smaller-else-not-is_empty-2 : goal.loop-last-smaller-else-not-is_empty-2
loop-last-smaller-else-not-is_empty-2 c =
    shorter c.pop_back-gone.result c.in-Some.last.now (deque_len c.pop_back-gone.new.self) (deque_len c.loop-last.self.row)
    (c.pop_back-gone.ensures.value c.in-Some.last.now (c.in-Some.ensures.variant.0 refl) ∙ ap (λ x. Some x) (sym c.in-Some.ensures.lookup)) c.pop_back-gone.ensures.cases

pub loop-last-preserved-else-not-is_empty-2 : goal.loop-last-preserved-else-not-is_empty-2
loop-last-preserved-else-not-is_empty-2 c =
    let back =
    back_taken c.loop-last.self.row.items c.pop_back-gone.new.self.items c.loop-last.self.others.entries c.pop_back-gone.result c.in-Some.last.now c.loop-last.invariant.sound.0
    c.loop-last.invariant.sound.1 c.pop_back-gone.ensures.items
    (c.pop_back-gone.ensures.value c.in-Some.last.now (c.in-Some.ensures.variant.0 refl) ∙ ap (λ x. Some x) (sym c.in-Some.ensures.lookup)) (c.is_empty.ensures.0 c.if-not-is_empty.false) in
    record { sound = back.0; same = back.1 ∙ c.loop-last.invariant.same }

pub loop-last-smaller : goal.loop-last-smaller
loop-last-smaller c =
    shorter c.pop_back-gone.result c.in-Some.last.now (deque_len c.pop_back-gone.new.self) (deque_len c.loop-last.self.row)
    (c.pop_back-gone.ensures.value c.in-Some.last.now (c.in-Some.ensures.variant.0 refl) ∙ ap (λ x. Some x) (sym c.in-Some.ensures.lookup)) c.pop_back-gone.ensures.cases

pub loop-last-preserved : goal.loop-last-preserved
loop-last-preserved c =
    let back =
    back_taken c.loop-last.self.row.items c.pop_back-gone.new.self.items c.loop-last.self.others.entries c.pop_back-gone.result c.in-Some.last.now c.loop-last.invariant.sound.0
    c.loop-last.invariant.sound.1 c.pop_back-gone.ensures.items
    (c.pop_back-gone.ensures.value c.in-Some.last.now (c.in-Some.ensures.variant.0 refl) ∙ ap (λ x. Some x) (sym c.in-Some.ensures.lookup)) (c.is_empty.ensures.0 c.if-not-is_empty.false) in
    record { sound = back.0; same = back.1 ∙ c.loop-last.invariant.same }
