use Rattle.mj_retrace.proofs.Stepped.{IsGoing}
use Rattle.mj_retrace.proofs.doing.told_there.Given as goal

-- in so many steps nothing is asked or told
abbrev pub invariant-loop : goal.invariant-loop
invariant-loop g l = IsGoing g.O.Opening.opening l.fn.core l.job l.counter l.core
