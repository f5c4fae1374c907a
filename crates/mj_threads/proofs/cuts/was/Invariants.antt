use Rattle.std.proofs.Common.{◌≡◌, drop}
use Rattle.mj_threads.specs.Cuts.{was}
use Rattle.mj_threads.proofs.cuts.was.Given as goal

-- what is left to look at tells it
abbrev pub invariant-loop-ran : goal.invariant-loop-ran
invariant-loop-ran l = was l.rans l.stop ≡ was (drop l.ran-index l.rans) l.stop
