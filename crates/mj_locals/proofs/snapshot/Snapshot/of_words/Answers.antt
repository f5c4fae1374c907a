use Rattle.std.proofs.Common.{sym, subst}
use Rattle.mj_locals.specs.Trees.{AreTrees}
use Rattle.mj_locals.proofs.Snapshots.{copied_trees}
use Rattle.mj_locals.proofs.snapshot.Snapshot.of_words.Goals as goal

pub invariant_of-result : goal.invariant_of-result
invariant_of-result c = subst AreTrees (sym c.in_ok-rows.ensures) (copied_trees c.args.words.now c.args.table.now c.rises.ensures)
