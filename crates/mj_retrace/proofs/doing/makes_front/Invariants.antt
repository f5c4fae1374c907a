use Rattle.mj_retrace.specs.Instead.{IsFront}
use Rattle.mj_retrace.proofs.doing.makes_front.Given as goal

-- the events so far were made again
abbrev pub invariant-loop-place : goal.invariant-loop-place
invariant-loop-place g l = IsFront l.fn.core.image l.events l.place l.core
