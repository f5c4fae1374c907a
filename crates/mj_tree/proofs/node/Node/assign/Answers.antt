use Rattle.std.proofs.Common.{[], ◌++◌, sym, ap, ◌∙◌}
use Rattle.std.specs.FinMap.{put}
use Rattle.std.specs.Cmp.Lexicographic.{slice_cmp}
use Rattle.mj_subs.specs.Collation.{subscript_cmp}
use Rattle.mj_tree.specs.Nest.{own, below}
use Rattle.mj_tree.specs.Rows.{places}
use Rattle.mj_tree.proofs.Puts.{put_own}
use Rattle.mj_tree.proofs.node.Node.assign.Goals as goal

pub returns : goal.returns
returns c =
    ap (λ t. own t ++ below (places c.self.inside.children)) c.become_some.ensures
    ∙ sym (put_own subscript_cmp c.args.text c.self.inside.text (places c.self.inside.children))
    ∙ (λ i. put (slice_cmp subscript_cmp) [] c.args.text (c.self.view_is i))
