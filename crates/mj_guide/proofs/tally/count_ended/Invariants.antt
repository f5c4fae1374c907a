use Rattle.std.proofs.Common.{◌≡◌, take}
use Rattle.mj_guide.specs.Ends.{ended_in}
use Rattle.mj_guide.proofs.tally.count_ended.Given as goal

-- those that have ended before the place are counted
abbrev pub invariant-loop-at : goal.invariant-loop-at
invariant-loop-at g l = l.ended ≡ ended_in (take l.at l.core.history)
