use Rattle.std.proofs.Common.{take}
use Rattle.mj_inspect.specs.Specials.{IsNowhere}
use Rattle.mj_inspect.specs.Waits.{started_in}
use Rattle.mj_inspect.proofs.specials.later_start.Given as goal

-- none of the events so far started it
abbrev pub invariant-loop-at : goal.invariant-loop-at
invariant-loop-at g l = IsNowhere l.number (started_in (take l.at l.core.history))
