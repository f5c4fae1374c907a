use Rattle.std.proofs.Common.{◌≡◌, ◌++◌, length, drop, map}
use Rattle.mj_ast.specs.Trees.{range_of}
use Rattle.mj_asm.specs.Code.{ranges_code}
use Rattle.mj_asm.proofs.emit.emit_ranges.Given as goal

-- the code so far, and that of what is left
abbrev pub invariant-loop-range : goal.invariant-loop-range
invariant-loop-range l =
    l.code.items ++ ranges_code (length l.code.items) (map range_of (drop l.range-index l.ranges)) ≡ l.fn.code.items ++ ranges_code (length l.fn.code.items) (map range_of l.ranges)
