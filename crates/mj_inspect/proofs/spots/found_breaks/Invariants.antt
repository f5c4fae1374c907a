use Rattle.std.proofs.Common.{◌≡◌, ◌++◌, drop}
use Rattle.mj_inspect.specs.Spots.{break_lines_in}
use Rattle.mj_inspect.proofs.spots.found_breaks.Given as goal

-- the routines that are left are to come
abbrev pub invariant-loop-routine : goal.invariant-loop-routine
invariant-loop-routine g l =
    l.bytes.items ++ break_lines_in l.debugger.core.image l.debugger.marks (drop l.routine-index l.routine-items)
    ≡ break_lines_in l.debugger.core.image l.debugger.marks l.debugger.core.image.routines
