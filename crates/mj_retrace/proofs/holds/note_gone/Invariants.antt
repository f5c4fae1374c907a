use Rattle.std.proofs.Common.{◌≡◌, ◌++◌, drop}
use Rattle.mj_retrace.specs.Noted.{gone}
use Rattle.mj_retrace.proofs.holds.note_gone.Given as goal

-- with what is gone of those that are left it is all
abbrev pub invariant-loop-job : goal.invariant-loop-job
invariant-loop-job l = l.past.items ++ gone l.locks.holds l.place (drop l.job-index l.holds) ≡ l.fn.past.items ++ gone l.locks.holds l.place l.holds
