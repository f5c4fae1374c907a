use Rattle.std.proofs.Common.{◌≡◌, ◌++◌, ◌≤◌, map, length, vec_capacity}
use Rattle.std.specs.Vec.Iter.{into_iter_items}
use Rattle.mj_jobs.specs.Rows.{opened}
use Rattle.mj_jobs.specs.Kept.{rows_of}
use Rattle.mj_jobs.proofs.jobs.Jobs.of.Given as goal

abbrev pub invariant-loop-start : goal.invariant-loop-start
invariant-loop-start l =
    (l.yielded ++ into_iter_items l.start-iterator ≡ into_iter_items l.initial.start-iterator)
    × (rows_of l.rows.items ≡ map opened l.yielded)
    × (length (into_iter_items l.initial.start-iterator) ≤ vec_capacity l.rows)
