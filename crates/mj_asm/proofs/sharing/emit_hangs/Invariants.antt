use Rattle.std.proofs.Common.{◌≡◌, ◌++◌, length, drop, map}
use Rattle.mj_ast.specs.Trees.{expr_of}
use Rattle.mj_asm.specs.Code.{hangs_code}
use Rattle.mj_asm.proofs.sharing.emit_hangs.Given as goal

-- the code so far, and that of what is left
abbrev pub invariant-loop-time : goal.invariant-loop-time
invariant-loop-time l =
    l.code.items ++ hangs_code (length l.code.items) (map expr_of (drop l.time-index l.times))
    ≡ l.fn.code.items ++ hangs_code (length l.fn.code.items) (map expr_of l.times)
