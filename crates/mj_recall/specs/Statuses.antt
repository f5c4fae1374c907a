-- The exit status of a replay.
use Rattle.std.specs.Prelude.{ℕ}
use Rattle.mj_replica.specs.declared.replaying.Verdict.{Verdict}
use Rattle.mj_replica.specs.declared.replaying.Verdict.TheVariants as verdicts

-- the status of what a replay says
abbrev pub verdict_status : Verdict → ℕ
verdict_status verdicts.Same = 0
verdict_status (verdicts.Differs at) = 1
