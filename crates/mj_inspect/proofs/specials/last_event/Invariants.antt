use Rattle.mj_inspect.specs.Specials.{IsLast}
use Rattle.mj_inspect.proofs.specials.last_event.Given as goal

-- the last of those that were looked at
abbrev pub invariant-loop-at : goal.invariant-loop-at
invariant-loop-at g l = IsLast l.number l.core.history l.at l.last
