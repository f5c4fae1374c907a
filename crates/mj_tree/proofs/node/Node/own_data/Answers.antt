use Rattle.std.proofs.Common.{cond, sym, ap, ◌∙◌}
use Rattle.mj_store.specs.Nodes.{data_of}
use Rattle.mj_store.specs.Questions.{Subtree}
use Rattle.mj_tree.proofs.Whole.{data_by}
use Rattle.mj_tree.proofs.node.Node.own_data.Goals as goal

pub returns-in-false-true : goal.returns-in-false-true
returns-in-false-true c =
    sym (ap (λ (n : Subtree). data_of n) (sym c.self.view_is) ∙ data_by c.self.inside.text c.self.inside.children c.self.invariant
    ∙ (λ i. cond (c.in-false-true.ensures' i) (cond (sym c.in-false-true.ensures i) 11 10) (cond (sym c.in-false-true.ensures i) 1 0)))

pub returns-in-true-true : goal.returns-in-true-true
returns-in-true-true c =
    sym (ap (λ (n : Subtree). data_of n) (sym c.self.view_is) ∙ data_by c.self.inside.text c.self.inside.children c.self.invariant
    ∙ (λ i. cond (c.in-true-true.ensures' i) (cond (sym c.in-true-true.ensures i) 11 10) (cond (sym c.in-true-true.ensures i) 1 0)))

pub returns-in-false-false : goal.returns-in-false-false
returns-in-false-false c =
    sym (ap (λ (n : Subtree). data_of n) (sym c.self.view_is) ∙ data_by c.self.inside.text c.self.inside.children c.self.invariant
    ∙ (λ i. cond (c.in-false-false.ensures' i) (cond (sym c.in-false-false.ensures i) 11 10) (cond (sym c.in-false-false.ensures i) 1 0)))

pub returns-in-true-false : goal.returns-in-true-false
returns-in-true-false c =
    sym (ap (λ (n : Subtree). data_of n) (sym c.self.view_is) ∙ data_by c.self.inside.text c.self.inside.children c.self.invariant
    ∙ (λ i. cond (c.in-true-false.ensures' i) (cond (sym c.in-true-false.ensures i) 11 10) (cond (sym c.in-true-false.ensures i) 1 0)))
