use Rattle.std.proofs.Common.{◌++◌, ◌∙◌}
use Rattle.mj_tree.specs.Nest.{behind}
use Rattle.mj_tree.proofs.Copies.{behind_none}
use Rattle.mj_tree.proofs.node.Node.nodes.Goals as goal

-- all stand behind no subscript
pub returns : goal.returns
returns c =
    c.in_ok-collect.ensures.nodes
    ∙ (λ i. c.new-nodes.ensures i ++ behind (c.new-front.ensures i) c.args.self.now)
    ∙ behind_none c.args.self.now
