use Rattle.std.proofs.Common.{sym, ap}
use Rattle.mj_sys.specs.History.{History}
use Rattle.mj_live.specs.Events.{session_after}
use Rattle.mj_live.proofs.stepping.LiveJobs.new.Goals as goal

pub invariant_of-result : goal.invariant_of-result
invariant_of-result g c still = ap (λ (history : History). session_after 1 history) (sym c.requires)
