use Rattle.mj_subs.specs.Collation.{subscript_cmp}
use Rattle.std.specs.Cmp.Lexicographic.{lists_total}
use Rattle.mj_subs.specs.Laws.Total.{subscript_cmp_total}
use Rattle.mj_tree.proofs.Trees.{rises_set}
use Rattle.mj_tree.proofs.tree.Tree.set.Goals as goal

pub invariant_of-self : goal.invariant_of-self
invariant_of-self c =
    rises_set subscript_cmp (lists_total subscript_cmp_total) c.set.result c.as_slice.result.now c.in_ok-text.text c.self.inside.root c.set.new.self c.set.ensures.ok c.set.ensures.err c.self.invariant
