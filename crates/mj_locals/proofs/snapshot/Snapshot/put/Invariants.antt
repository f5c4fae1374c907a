use Rattle.std.proofs.Common.{◌≡◌, length}
use Rattle.mj_locals.specs.Hiding.{all_put}
use Rattle.mj_locals.specs.Snapshots.{all_put_back}
use Rattle.mj_locals.proofs.snapshot.Snapshot.put.Given as goal

-- what is left to be put leads to the same
abbrev pub invariant-loop-word : goal.invariant-loop-word
invariant-loop-word l = all_put l.rows.items l.table ≡ all_put_back l.fn.self l.fn.table

abbrev pub decreases-loop-word : goal.decreases-loop-word
decreases-loop-word l = length l.rows.items
