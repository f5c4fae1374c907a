use Rattle.std.proofs.Common.{◌≡◌, ◌++◌, length, drop, map}
use Rattle.mj_ast.specs.Trees.{expr_of}
use Rattle.mj_asm.specs.Code.{uses_code}
use Rattle.mj_asm.proofs.devices.emit_uses.Given as goal

-- the code so far, and that of what is left
abbrev pub invariant-loop-name : goal.invariant-loop-name
invariant-loop-name l =
    l.code.items ++ uses_code (length l.code.items) (map expr_of (drop l.name-index l.names))
    ≡ l.fn.code.items ++ uses_code (length l.fn.code.items) (map expr_of l.names)
