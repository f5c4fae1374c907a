use Rattle.std.proofs.Common.{◌≡◌, ◌++◌, length, drop, map}
use Rattle.mj_ast.specs.Trees.{called_of}
use Rattle.mj_asm.specs.Code.{calls_code}
use Rattle.mj_asm.specs.Sites.{here_of}
use Rattle.mj_asm.proofs.emit.emit_do.Given as goal

-- the code so far, and that of what is left
abbrev pub invariant-loop-called : goal.invariant-loop-called
invariant-loop-called l =
    l.code.items ++ calls_code (here_of l.site) (length l.code.items) (map called_of (drop l.called-index l.list))
    ≡ l.fn.code.items ++ calls_code (here_of l.site) (length l.fn.code.items) (map called_of l.list)
