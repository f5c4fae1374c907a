use Rattle.std.proofs.Common.{List, Option, sym, ap, ◌∙◌, ℕ}
use Rattle.std.specs.Cmp.Lexicographic.{slice_cmp}
use Rattle.mj_subs.specs.Collation.{subscript_cmp}
use Rattle.mj_tree.specs.Undo.{undone}
use Rattle.mj_tree.proofs.Undo.{undone-append}
use Rattle.mj_tree.proofs.tree.Tree.undo.Goals as goal

pub loop-place-preserved-in-Some : goal.loop-place-preserved-in-Some
loop-place-preserved-in-Some c =
    ap (undone (slice_cmp subscript_cmp) c.pop.new.self.items) c.restore.ensures
    ∙ sym (undone-append (slice_cmp subscript_cmp) c.pop.new.self.items c.in-Some.place c.in-Some.before c.loop-place.self)
    ∙ ap (λ (ws : List (List (List ℕ) × Option (List ℕ))). undone (slice_cmp subscript_cmp) ws c.loop-place.self) (sym c.in-Some.ensures.items)
    ∙ c.loop-place.invariant

pub loop-place-preserved : goal.loop-place-preserved
loop-place-preserved c =
    ap (undone (slice_cmp subscript_cmp) c.pop.new.self.items) c.restore.ensures
    ∙ sym (undone-append (slice_cmp subscript_cmp) c.pop.new.self.items c.in-Some.place c.in-Some.before c.loop-place.self)
    ∙ ap (λ (ws : List (List (List ℕ) × Option (List ℕ))). undone (slice_cmp subscript_cmp) ws c.loop-place.self) (sym c.in-Some.ensures.items)
    ∙ c.loop-place.invariant
