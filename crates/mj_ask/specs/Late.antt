-- When a job that waits is told that it is late.
use Rattle.std.specs.Prelude.{ℤ, int_le, pos, Bool, false, ◌||◌, Option, Some, None}

-- a timeout is over: it is 0 or less, or the job was stepped late. Without one a job is never late
abbrev pub is_timed_out : Option ℤ → Bool → Bool
is_timed_out timeout late = elim timeout [ None ↦ false | Some t ↦ late || int_le t (pos 0) ]
