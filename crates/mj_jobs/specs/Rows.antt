-- The rows of jobs: how each starts, and whether it has ended.
use Rattle.std.specs.Prelude.{◌≡◌, ℕ, zero, suc, ◌≤◌, List, length, slice_get, slice_set, Bool, true, false, Option, Some, None}
use Rattle.std.specs.Option.{option_map}
use Rattle.mj_ask.specs.Started.{Started}

-- a job's row: where it starts and with what, and whether it has ended
pub record Row : Type 0 where
  pub start : Started
  pub ended : Bool

-- the rows by the jobs' numbers, of which the first is 1, and how many of them were claimed: always the lowest
pub record Rows : Type 0 where
  pub rows : List Row
  pub claimed : ℕ

-- how many rows there may be, ended ones among them (this profile)
abbrev pub rows_limit : ℕ
rows_limit = 255

-- the row of a job, if it has one
abbrev pub row_at : List Row → ℕ → Option Row
row_at rows zero = None
row_at rows (suc k) = slice_get rows k

-- the job has a row, and starts so
abbrev pub HasStart : List Row → ℕ → Started → Type 0
HasStart rows job start = (row : Row) × (row_at rows job ≡ Some row) × (row.start ≡ start)

-- how a job starts, if it has a row
abbrev pub start_at : List Row → ℕ → Option Started
start_at rows job = option_map (λ row. row.start) (row_at rows job)

-- the row of a job that begins
abbrev pub opened : Started → Row
opened start = record { start = start; ended = false }

-- the rows, where the job has ended
abbrev pub with_ended : List Row → ℕ → List Row
with_ended rows zero = rows
with_ended rows (suc k) = elim (slice_get rows k) [ None ↦ rows | Some row ↦ slice_set rows k (record row { ended = true }) ]

-- the job has a row, and it hasn't ended
abbrev pub IsLive : List Row → ℕ → Type 0
IsLive rows job = (row : Row) × (row_at rows job ≡ Some row) × (row.ended ≡ false)

-- there is room for all rows, and only such that are there were claimed
pub record AreKept (seen : Rows) : Type 0 where
  pub few : length seen.rows ≤ rows_limit
  pub claimed : seen.claimed ≤ length seen.rows
