use Rattle.std.proofs.Common.{◌≡◌, drop}
use Rattle.mj_semantics.specs.State.{Place}
use Rattle.mj_debug.specs.Breaks.{is_breakpoint}
use Rattle.mj_remade.specs.Marks.{all_over}
use Rattle.mj_remade.proofs.marks.put_all.Given as goal

-- the marks that are left are to come over those that were put
abbrev pub invariant-loop-mark : goal.invariant-loop-mark
invariant-loop-mark g l = record {
  core : l.debugger.core ≡ l.fn.debugger.core;
  marks : (line : Place) → all_over (is_breakpoint l.fn.debugger.core.image l.debugger.marks) (drop l.mark-index l.marks) line
      ≡ all_over (is_breakpoint l.fn.debugger.core.image l.fn.debugger.marks) l.marks line;
}
