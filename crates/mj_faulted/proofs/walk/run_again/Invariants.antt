use Rattle.mj_turn.specs.Starts.{start_of}
use Rattle.mj_faulted.specs.Walks.{lent, IsWalk}
use Rattle.mj_faulted.proofs.walk.run_again.Given as goal

abbrev pub invariant-turns : goal.invariant-turns
invariant-turns l = IsWalk l.image (start_of l.start) (lent l.replies) l.walk
