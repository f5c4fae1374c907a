use Rattle.std.proofs.Common.{◌≡◌, drop}
use Rattle.mj_gather.specs.Gathered.{times_run}
use Rattle.mj_gather.proofs.gathering.was_run.Given as goal

abbrev pub invariant-loop-ran : goal.invariant-loop-ran
invariant-loop-ran l = times_run l.rans l.job ≡ times_run (drop l.ran-index l.rans) l.job
