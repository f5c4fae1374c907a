use Rattle.std.proofs.Common.{◌≡◌, ◌≤◌, ◌++◌, drop, map}
use Rattle.mj_ast.specs.Trees.{destination_of}
use Rattle.mj_asm.specs.Code.{sizes, stores_code}
use Rattle.mj_asm.proofs.targets.emit_stores.Given as goal

-- the code so far, and that of what is left, and how many operands that is
abbrev pub invariant-loop-destination : goal.invariant-loop-destination
invariant-loop-destination l = record {
  code : l.code.items ++ stores_code (map destination_of (drop l.destination-index l.list)) ≡ l.fn.code.items ++ stores_code (map destination_of l.list);
  later : l.later ≡ sizes (map destination_of (drop l.destination-index l.list));
  few : l.later ≤ l.operands;
}
