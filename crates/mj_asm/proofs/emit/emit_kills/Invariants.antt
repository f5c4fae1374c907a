use Rattle.std.proofs.Common.{◌≡◌, ◌++◌, length, drop, map}
use Rattle.mj_ast.specs.Trees.{killed_of}
use Rattle.mj_asm.specs.Code.{kills_code}
use Rattle.mj_asm.proofs.emit.emit_kills.Given as goal

-- the code so far, and that of what is left
abbrev pub invariant-loop-killed : goal.invariant-loop-killed
invariant-loop-killed l = l.code.items ++ kills_code (length l.code.items) (map killed_of (drop l.killed-index l.list)) ≡ l.fn.code.items ++ kills_code (length l.fn.code.items) (map killed_of l.list)
