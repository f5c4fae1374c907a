use Rattle.mj_retrace.proofs.Through.{IsThrough}
use Rattle.mj_retrace.proofs.retracing.through.Given as goal

-- the events so far were made again
abbrev pub invariant-loop-place : goal.invariant-loop-place
invariant-loop-place g l = IsThrough l.fn.core.image g.O.Opening.opening l.events l.place l.core l.spots.items l.holds.items l.past.items
