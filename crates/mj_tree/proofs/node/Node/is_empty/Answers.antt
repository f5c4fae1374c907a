use Rattle.std.proofs.Common.{sym, ◌∙◌}
use Rattle.mj_tree.proofs.Whole.{empty_by}
use Rattle.mj_tree.proofs.node.Node.is_empty.Goals as goal

-- it has no text, and then it is empty where it has no children
pub returns-then-is_none : goal.returns-then-is_none
returns-then-is_none c =
    let by = empty_by c.self.inside.text c.self.inside.children c.is_none-then-is_none.result c.self.invariant c.if-is_none.ensures c.is_none-then-is_none.ensures in (
      λ t. sym c.self.view_is ∙ by.0 t,
      λ e. by.1 (c.self.view_is ∙ e),
    )
