use Rattle.std.proofs.Common.{◌≡◌, ◌++◌, length, drop, map}
use Rattle.mj_ast.specs.Trees.{assignment_of}
use Rattle.mj_asm.specs.Code.{assignments_code}
use Rattle.mj_asm.proofs.emit.emit_assignments.Given as goal

-- the code so far, and that of what is left
abbrev pub invariant-loop-assignment : goal.invariant-loop-assignment
invariant-loop-assignment l = l.code.items ++ assignments_code (length l.code.items) (map assignment_of (drop l.assignment-index l.assignments))
    ≡ l.fn.code.items ++ assignments_code (length l.fn.code.items) (map assignment_of l.assignments)
