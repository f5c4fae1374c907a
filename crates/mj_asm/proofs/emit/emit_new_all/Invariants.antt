use Rattle.std.proofs.Common.{◌≡◌, ◌++◌, drop, map}
use Rattle.mj_ast.specs.Trees.{renewed_of}
use Rattle.mj_asm.specs.Code.{news_code}
use Rattle.mj_asm.proofs.emit.emit_new_all.Given as goal

-- the code so far, and that of what is left
abbrev pub invariant-loop-renewed : goal.invariant-loop-renewed
invariant-loop-renewed l = l.code.items ++ news_code (map renewed_of (drop l.renewed-index l.list)) ≡ l.fn.code.items ++ news_code (map renewed_of l.list)
