-- What a job starts with.
use Rattle.std.specs.Prelude.{ℕ, List, Option}
use Rattle.mj_ask.specs.declared.entry.Entry.{Entry}

-- a start: where it starts, and the values that it is given, in order. One that is left out is none
pub record Started : Type 0 where
  pub entry : Entry
  pub values : List (Option (List ℕ))
