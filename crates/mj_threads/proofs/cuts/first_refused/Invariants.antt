use Rattle.std.proofs.Common.{◌≡◌, drop}
use Rattle.mj_threads.specs.Cuts.{first_refused}
use Rattle.mj_threads.proofs.cuts.first_refused.Given as goal

-- what is left to look at tells it
abbrev pub invariant-loop-ran : goal.invariant-loop-ran
invariant-loop-ran l = first_refused l.rans ≡ first_refused (drop l.ran-index l.rans)
