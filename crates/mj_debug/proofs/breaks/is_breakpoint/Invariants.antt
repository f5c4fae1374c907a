use Rattle.std.proofs.Common.{◌≡◌, drop}
use Rattle.mj_debug.specs.Breaks.{is_breakpoint}
use Rattle.mj_debug.proofs.breaks.is_breakpoint.Given as goal

-- what is left of the marks says it
abbrev pub invariant-loop-mark : goal.invariant-loop-mark
invariant-loop-mark l =
    is_breakpoint l.image (drop l.mark-index l.marks) (record { routine = l.routine; line = l.line }) ≡ is_breakpoint l.image l.marks (record { routine = l.routine; line = l.line })
