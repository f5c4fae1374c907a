use Rattle.std.proofs.Common.{◌≡◌, ◌++◌, length, drop, map}
use Rattle.mj_ast.specs.Trees.{destination_of}
use Rattle.mj_asm.specs.Code.{destinations_code}
use Rattle.mj_asm.proofs.targets.emit_destinations.Given as goal

-- the code so far, and that of what is left
abbrev pub invariant-loop-destination : goal.invariant-loop-destination
invariant-loop-destination l = l.code.items ++ destinations_code (length l.code.items) (map destination_of (drop l.destination-index l.list))
    ≡ l.fn.code.items ++ destinations_code (length l.fn.code.items) (map destination_of l.list)
