use Rattle.std.proofs.Common.{◌≡◌}
use Rattle.mj_finish.proofs.jobs.put_all.Given as goal

-- no event happened
abbrev pub invariant-jobs : goal.invariant-jobs
invariant-jobs g l = l.core.history ≡ l.fn.core.history
