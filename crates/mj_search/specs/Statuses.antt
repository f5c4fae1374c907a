-- The exit status of runs by chance.
use Rattle.std.specs.Prelude.{ℕ, Option, Some, None}

-- the status of runs by chance, where one showed what is looked for, and where none did
abbrev pub found_status : {A : Type 0} → Option A → ℕ
found_status None = 0
found_status (Some found) = 1
