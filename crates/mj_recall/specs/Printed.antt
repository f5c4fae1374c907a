-- What is printed of a trace that is replayed, and of one that was migrated (this profile). Byte 10 ends a line.
use Rattle.std.specs.Prelude.{ℕ, ◌+◌, ◌-◌, ◌^◌, min, List, [], ◌∷◌, ◌++◌, length, decimal, codes}
use Rattle.mj_replica.specs.declared.replaying.Verdict.{Verdict}
use Rattle.mj_replica.specs.declared.replaying.Verdict.TheVariants as verdicts
use Rattle.mj_trace.specs.Refused.{head_count}
use Rattle.mj_trace.specs.Trace.{Traced}

-- the line of a trace on which an event stands, which counts from 0. Lines count from 1: before the events stand those that tell the form, and one for each
-- device and each start. No number is greater than the greatest of 64 bits
abbrev pub event_line : Traced → ℕ → ℕ
event_line trace at = min (length trace.pool + length trace.starts + at + head_count trace.form + 1) (2 ^ 64 - 1)

-- what is printed of what a replay says
abbrev pub verdict_text : Traced → Verdict → List ℕ
verdict_text trace verdicts.Same = codes "same" ++ 10 ∷ []
verdict_text trace (verdicts.Differs at) = codes "differs at line " ++ decimal (event_line trace at) ++ 10 ∷ []

-- what is told of a trace that differs
abbrev pub causes_line : List ℕ
causes_line = codes "    usual causes: other `--globals` than those of the run, a routine that was changed since, or other devices" ++ 10 ∷ []

-- the line on a trace that was migrated, which has so many events
abbrev pub migrated_line : ℕ → List ℕ
migrated_line count = codes "migrated " ++ decimal count ++ 10 ∷ []
