use Rattle.std.proofs.Common.{◌≡◌, take}
use Rattle.mj_jobvm.specs.Run.{replies_of}
use Rattle.mj_sys.specs.History.{log_of}
use Rattle.mj_faulted.specs.Walks.{lent}
use Rattle.mj_faults.proofs.history.replies_of.Given as goal

-- the replies of the events up to here
abbrev pub invariant-events : goal.invariant-events
invariant-events g l = lent l.list.items ≡ replies_of (log_of l.job (take l.at (g.H.Events.history l.told)))
