use Rattle.std.proofs.Common.{◌≡◌, ◌++◌, length, drop, map}
use Rattle.mj_ast.specs.Trees.{variable_of}
use Rattle.mj_asm.specs.Code.{reference, variables_code}
use Rattle.mj_asm.proofs.sharing.emit_variables.Given as goal

-- the code and the variables so far, and those of what is left
abbrev pub invariant-loop-variable : goal.invariant-loop-variable
invariant-loop-variable l = record {
  code :
      l.code.items ++ variables_code (length l.code.items) (map variable_of (drop l.variable-index l.list))
      ≡ l.fn.code.items ++ variables_code (length l.fn.code.items) (map variable_of l.list);
  names : l.references ++ map reference (map variable_of (drop l.variable-index l.list)) ≡ map reference (map variable_of l.list);
}
