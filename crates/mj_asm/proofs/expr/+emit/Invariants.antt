use Rattle.std.proofs.Common.{◌≡◌, ◌++◌, length, drop, map}
use Rattle.mj_ast.specs.Syntax.{as_actuals}
use Rattle.mj_ast.specs.Trees.{tails_of, exprs_of, option_of}
use Rattle.mj_asm.specs.Code.{tails_code, exprs_code, actuals_code, shape_of}
use Rattle.mj_asm.proofs.expr.+emit.Given as goal

-- the code so far, and that of what is left
abbrev pub invariant-emit_tails-loop-tail : goal.invariant-emit_tails-loop-tail
invariant-emit_tails-loop-tail l = l.code.items ++ tails_code (length l.code.items) (tails_of (drop l.tail-index l.tails)) ≡ l.fn.code.items ++ tails_code (length l.fn.code.items) (tails_of l.tails)

abbrev pub invariant-emit_all-loop-expression : goal.invariant-emit_all-loop-expression
invariant-emit_all-loop-expression l =
    l.code.items ++ exprs_code (length l.code.items) (exprs_of (drop l.expression-index l.expressions)) ≡ l.fn.code.items ++ exprs_code (length l.fn.code.items) (exprs_of l.expressions)

-- the code and the shape so far, and those of what is left
abbrev pub invariant-emit_actuals-loop-actual : goal.invariant-emit_actuals-loop-actual
invariant-emit_actuals-loop-actual l = record {
  code :
      l.code.items ++ actuals_code (length l.code.items) (as_actuals (map option_of (drop l.actual-index l.actuals)))
      ≡ l.fn.code.items ++ actuals_code (length l.fn.code.items) (as_actuals (map option_of l.actuals));
  shape : l.shape ++ shape_of (as_actuals (map option_of (drop l.actual-index l.actuals))) ≡ shape_of (as_actuals (map option_of l.actuals));
}
