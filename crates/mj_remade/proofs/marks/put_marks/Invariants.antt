use Rattle.std.proofs.Common.{◌≡◌, ◌++◌, ◌+◌, length}
use Rattle.mj_remade.specs.Marks.{marks_from}
use Rattle.mj_remade.proofs.marks.put_marks.Given as goal

-- the lines that are left are to come, and as many were passed as the number says
abbrev pub invariant-lines : goal.invariant-lines
invariant-lines g l = record {
  count : l.number + length l.rest ≡ length l.lines;
  marks : l.marks.items ++ marks_from l.debugger.core.image l.debugger.marks l.routine (l.number + 1) l.rest
      ≡ l.fn.marks.items ++ marks_from l.debugger.core.image l.debugger.marks l.routine 1 l.lines;
}

abbrev pub decreases-lines : goal.decreases-lines
decreases-lines g l = length l.rest
