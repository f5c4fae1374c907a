use Rattle.std.proofs.Common.{◌≡◌, ℕ, true, [], ◌∷◌, ◌++◌, reverse, ap, ◌∙◌}
use Rattle.mj_store.specs.Questions.{Subtree}
use Rattle.mj_locals.specs.Groups.{Pairs, saved}
use Rattle.mj_locals.proofs.Marks.{pushed_keeps, pushed_is}
use Rattle.mj_locals.proofs.trail.Trail.hide.Goals as goal

pub invariant_of-self-2 : goal.invariant_of-self-2
invariant_of-self-2 c =
    let ps : Pairs = c.self.inside.pairs.items in
    let x : ℕ × Subtree = (c.args.place, c.exchange-tree.result) in
    let items : c.push_reserved.new.self.items ≡ ps ++ x ∷ [] = c.push_reserved.ensures.items ∙ ap (λ (l : Pairs). l ++ x ∷ []) c.reserve.ensures.items in
    pushed_keeps (reverse c.self.inside.marks.items) ps c.push_reserved.new.self.items x true items c.self.invariant c.rises.ensures

pub returns-clause-ok : goal.returns-clause-ok
returns-clause-ok c =
    let ps : Pairs = c.self.inside.pairs.items in
    let x : ℕ × Subtree = (c.args.place, c.exchange-tree.result) in
    let items : c.push_reserved.new.self.items ≡ ps ++ x ∷ [] = c.push_reserved.ensures.items ∙ ap (λ (l : Pairs). l ++ x ∷ []) c.reserve.ensures.items in
    pushed_is (reverse c.self.inside.marks.items) ps c.push_reserved.new.self.items x items c.self.invariant
    ∙ (λ i. saved (c.args.place, c.exchange-tree.ensures.tree i) (c.self.view_is i))
