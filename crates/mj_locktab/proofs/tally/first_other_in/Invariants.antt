use Rattle.mj_locktab.proofs.InWay.{IsLeft}
use Rattle.mj_locktab.proofs.tally.first_other_in.Given as goal

-- of the tallies that are left the same is told of each other job as of all
abbrev pub invariant-loop-other : goal.invariant-loop-other
invariant-loop-other l = IsLeft l.map.entries l.other-iterator l.job
