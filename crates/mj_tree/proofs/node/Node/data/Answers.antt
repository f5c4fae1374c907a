use Rattle.std.proofs.Common.{ap, ◌∙◌}
use Rattle.mj_store.specs.Nodes.{data_of}
use Rattle.mj_store.specs.Questions.{Subtree}
use Rattle.mj_tree.proofs.node.Node.data.Goals as goal

pub returns-in-Some : goal.returns-in-Some
returns-in-Some c = c.own_data.ensures ∙ ap (λ (n : Subtree). data_of n) c.in-Some.ensures
