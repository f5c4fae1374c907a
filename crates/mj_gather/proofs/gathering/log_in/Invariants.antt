use Rattle.std.proofs.Common.{◌≡◌, drop}
use Rattle.mj_gather.specs.Rans.{log_in}
use Rattle.mj_gather.proofs.gathering.log_in.Given as goal

abbrev pub invariant-loop-ran : goal.invariant-loop-ran
invariant-loop-ran l = log_in l.rans l.job ≡ log_in (drop l.ran-index l.rans) l.job
