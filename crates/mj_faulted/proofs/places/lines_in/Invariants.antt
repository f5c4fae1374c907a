use Rattle.std.proofs.Common.{◌≡◌, drop}
use Rattle.mj_faulted.specs.Stories.{lines_in as the_lines_in}
use Rattle.mj_faulted.proofs.places.lines_in.Given as goal

-- the lines are still to be found
abbrev pub invariant-loop-routine : goal.invariant-loop-routine
invariant-loop-routine l = the_lines_in l.routines l.name ≡ the_lines_in (drop l.routine-index l.routines) l.name
