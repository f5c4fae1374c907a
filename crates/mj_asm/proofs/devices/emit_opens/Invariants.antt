use Rattle.std.proofs.Common.{◌≡◌, ◌++◌, length, drop, map}
use Rattle.mj_ast.specs.Trees.{opened_of}
use Rattle.mj_asm.specs.Code.{opens_code}
use Rattle.mj_asm.proofs.devices.emit_opens.Given as goal

-- the code so far, and that of what is left
abbrev pub invariant-loop-opened : goal.invariant-loop-opened
invariant-loop-opened l =
    l.code.items ++ opens_code (length l.code.items) (map opened_of (drop l.opened-index l.list))
    ≡ l.fn.code.items ++ opens_code (length l.fn.code.items) (map opened_of l.list)
