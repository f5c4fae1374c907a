use Rattle.mj_inspect.specs.Own.{IsFrom}
use Rattle.mj_inspect.proofs.own.last_end.Given as goal

-- the last of those that were looked at
abbrev pub invariant-loop-at : goal.invariant-loop-at
invariant-loop-at g l = IsFrom l.job l.core.history l.at l.last
