use Rattle.std.proofs.Common.{◌≡◌, ◌++◌, drop, map}
use Rattle.mj_semantics.specs.Commands.{mark_byte}
use Rattle.mj_machine.proofs.format.spelled.Given as goal

-- the bytes so far, and those of the marks that are left
abbrev pub invariant-loop-mark : goal.invariant-loop-mark
invariant-loop-mark l = l.bytes.items ++ map mark_byte (drop l.mark-index l.marks) ≡ map mark_byte l.marks
