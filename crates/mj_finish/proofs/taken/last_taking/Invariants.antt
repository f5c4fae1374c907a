use Rattle.std.proofs.Common.{◌≡◌, ◌≤◌, length}
use Rattle.mj_finish.specs.Taken.{is_taking, last_taking}
use Rattle.mj_finish.proofs.taken.last_taking.Given as goal

-- behind the end nothing takes it
abbrev pub invariant-events : goal.invariant-events
invariant-events g l =
    last_taking (is_taking l.job l.held) l.core.history l.end ≡ last_taking (is_taking l.job l.held) l.core.history (length l.core.history)

abbrev pub decreases-events : goal.decreases-events
decreases-events g l = l.end
