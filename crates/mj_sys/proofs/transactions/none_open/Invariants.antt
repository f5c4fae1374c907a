use Rattle.std.proofs.Common.{◌≡◌, ◌≤◌, replicate, None}
use Rattle.mj_globs.specs.Stamps.{Stamped}
use Rattle.mj_sys.specs.Transactions.{all_logged}
use Rattle.mj_sys.specs.Passed.{AreOpen}
use Rattle.mj_sys.proofs.transactions.none_open.Given as goal

abbrev pub invariant-loop : goal.invariant-loop
invariant-loop l = (all_logged l.logs.items ≡ replicate l.counter None) × (l.counter ≤ l.rows) × ((globals : Stamped) → AreOpen globals l.logs.items)
