use Rattle.std.proofs.Common.{[], ◌∷◌}
use Rattle.mj_subs.specs.Collation.{subscript_cmp}
use Rattle.std.specs.Cmp.Lexicographic.{lists_total}
use Rattle.mj_subs.specs.Laws.Total.{subscript_cmp_total}
use Rattle.mj_tree.proofs.Trees.{rises_kill}
use Rattle.mj_tree.proofs.tree.Tree.kill_one.Goals as goal

pub invariant_of-self : goal.invariant_of-self
invariant_of-self c = rises_kill subscript_cmp (lists_total subscript_cmp_total) (c.from_text.result ∷ []) c.self.inside.root c.kill.new.self c.kill.ensures c.self.invariant
