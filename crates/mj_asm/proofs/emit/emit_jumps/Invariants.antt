use Rattle.std.proofs.Common.{◌≡◌, ◌++◌, length, drop, map}
use Rattle.mj_ast.specs.Trees.{jumped_of}
use Rattle.mj_asm.specs.Code.{jumps_code}
use Rattle.mj_asm.specs.Sites.{here_of}
use Rattle.mj_asm.proofs.emit.emit_jumps.Given as goal

-- the code so far, and that of what is left
abbrev pub invariant-loop-jumped : goal.invariant-loop-jumped
invariant-loop-jumped l =
    l.code.items ++ jumps_code (here_of l.site) (length l.code.items) (map jumped_of (drop l.jumped-index l.list))
    ≡ l.fn.code.items ++ jumps_code (here_of l.site) (length l.fn.code.items) (map jumped_of l.list)
