use Rattle.std.proofs.Common.{◌≡◌, ◌++◌, length, drop, map}
use Rattle.mj_ast.specs.Trees.{locked_of}
use Rattle.mj_asm.specs.Code.{locks_code}
use Rattle.mj_asm.proofs.sharing.emit_locks.Given as goal

-- the code so far, and that of what is left
abbrev pub invariant-loop-locked : goal.invariant-loop-locked
invariant-loop-locked l =
    l.code.items ++ locks_code (length l.code.items) (map locked_of (drop l.locked-index l.list))
    ≡ l.fn.code.items ++ locks_code (length l.fn.code.items) (map locked_of l.list)
