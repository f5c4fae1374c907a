-- What is seen of the log of an open transaction.
use Rattle.std.specs.Prelude.{ℕ, List}
use Rattle.mj_txlog.specs.Accesses.{Transaction}

-- The transaction, and for each of its accesses the stamp that it kept: a read keeps that of its word.
pub record Logged : Type 0 where
  pub transaction : Transaction
  pub stamps : List ℕ
