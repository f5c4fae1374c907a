use Rattle.std.proofs.Common.{ℕ, List, subst}
use Rattle.mj_store.specs.Questions.{Subtree}
use Rattle.mj_tree.specs.Rows.{IsFirst}
use Rattle.mj_tree.proofs.Found.{first_of_row, first_of_others}
use Rattle.mj_tree.proofs.children.Children.first.Goals as goal

pub returns-in-Some : goal.returns-in-Some
returns-in-Some c = first_of_row c.args.self.now.row.items c.args.self.now.others.entries c.in-Some.child c.requires.filled c.in-Some.ensures

pub returns-in-None : goal.returns-in-None
returns-in-None c =
    first_of_others c.args.self.now.row.items c.args.self.now.others.entries c.next.result c.requires.filled c.in-None.ensures
    (subst (λ (es : List (List ℕ × Subtree)). IsFirst es c.next.result) c.iter.ensures.rest (c.next.new.self, c.next.ensures.steps))
