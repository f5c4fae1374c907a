-- What is seen of a table of locks.
use Rattle.std.specs.Prelude.{ℕ}
use Rattle.mj_locktab.specs.Locks.{Locks}

-- The holds, and how many nodes of the trees the test of the last try looked at.
pub record Visited : Type 0 where
  pub holds : Locks
  pub visits : ℕ
