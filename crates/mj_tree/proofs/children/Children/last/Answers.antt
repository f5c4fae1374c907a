use Rattle.std.proofs.Common.{ℕ, List, Some, subst}
use Rattle.mj_store.specs.Questions.{Subtree}
use Rattle.mj_tree.specs.Rows.{IsLast}
use Rattle.mj_tree.proofs.Found.{last_of_others}
use Rattle.mj_tree.proofs.children.Children.last.Goals as goal

pub returns-in-Some : goal.returns-in-Some
returns-in-Some c =
    last_of_others c.args.self.now.row.items c.args.self.now.others.entries c.in-Some.child c.requires.filled
    (subst (λ (es : List (List ℕ × Subtree)). IsLast es (Some c.in-Some.child)) c.iter.ensures.rest (c.next_back.new.self, c.in-Some.ensures.steps))
