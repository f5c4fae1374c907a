use Rattle.std.proofs.Common.{◌≡◌, ◌++◌, length, drop, map}
use Rattle.mj_ast.specs.Trees.{merged_of}
use Rattle.mj_asm.specs.Code.{merges_code}
use Rattle.mj_asm.proofs.emit.emit_merges.Given as goal

-- the code so far, and that of what is left
abbrev pub invariant-loop-merged : goal.invariant-loop-merged
invariant-loop-merged l =
    l.code.items ++ merges_code (length l.code.items) (map merged_of (drop l.merged-index l.list)) ≡ l.fn.code.items ++ merges_code (length l.fn.code.items) (map merged_of l.list)
