use Rattle.std.proofs.Common.{◌≡◌, ◌++◌, drop}
use Rattle.mj_remade.specs.Marks.{marks_in}
use Rattle.mj_remade.proofs.marks.marks_of.Given as goal

-- the routines that are left are to come
abbrev pub invariant-loop-routine : goal.invariant-loop-routine
invariant-loop-routine g l =
    l.marks.items ++ marks_in l.debugger.core.image l.debugger.marks (drop l.routine-index l.routine-items)
    ≡ marks_in l.debugger.core.image l.debugger.marks l.debugger.core.image.routines
