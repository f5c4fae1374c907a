use Rattle.std.proofs.Common.{◌≡◌, ◌+◌, drop, map}
use Rattle.mj_ast.specs.Trees.{destination_of}
use Rattle.mj_asm.specs.Code.{sizes}
use Rattle.mj_asm.proofs.targets.sizes.Given as goal

-- what was counted, and what is left
abbrev pub invariant-loop-destination : goal.invariant-loop-destination
invariant-loop-destination l = l.total + sizes (map destination_of (drop l.destination-index l.list)) ≡ sizes (map destination_of l.list)
