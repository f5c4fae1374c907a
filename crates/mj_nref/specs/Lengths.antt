-- How long a name text is.
use Rattle.std.specs.Prelude.{◌≡◌, ℕ, ◌<◌, ◌≤◌, Option, Some, None}

-- a number of bytes, unless it is above a limit
abbrev pub IsLengthWithin : ℕ → ℕ → Option ℕ → Type 0
IsLengthWithin most n (Some found) = (found ≡ n) × (n ≤ most)
IsLengthWithin most n None = most < n
