use Rattle.std.proofs.Common.{◌∙◌, ◌-◌, refl, arith}
use Rattle.mj_ast.specs.Expressions.{expressions}
use Rattle.mj_ast.specs.Trees.{expr_of}
use Rattle.mj_expr.specs.Machine.{Alone, Whole}
use Rattle.mj_expr.specs.Reads.{symbols_seen, limits}
use Rattle.mj_lex.specs.Seen.{tokens_seen}
use Rattle.mj_expr.proofs.Zipper.{AnExpression}
use Rattle.mj_expr.proofs.Steps.{whole_done}
use Rattle.mj_expr.proofs.Told.{wraps_expressions}
use Rattle.mj_expr.proofs.Said.{refused_as, read_end, runs_end}
use Rattle.mj_expr.proofs.phrase.expression.Goals as goal

pub returns-in_err-e-clause-refused : goal.returns-in_err-e-clause-refused
returns-in_err-e-clause-refused c =
    refused_as AnExpression expressions wraps_expressions (64 - c.args.depth) (tokens_seen c.args.tokens.now) c.from_residual.result c.in_err-e.field-0.0 c.from_residual.ensures.1
    (c.in_err-e.ensures.reads Alone (64 - c.args.depth) (omega arith) refl tt)

pub returns-clause-read : goal.returns-clause-read
returns-clause-read c =
    read_end AnExpression expressions wraps_expressions (64 - c.args.depth) c.args.tokens.now c.in_ok-e.rest.now (expr_of c.in_ok-e.e)
    (c.in_ok-e.ensures.reads Alone (64 - c.args.depth) (omega arith) refl tt ∙ whole_done (limits (64 - c.args.depth)) (expr_of c.in_ok-e.e) (symbols_seen c.in_ok-e.rest.now) c.in_ok-e.ensures.stops)

pub returns-clause-runs : goal.returns-clause-runs
returns-clause-runs c =
    runs_end AnExpression expressions wraps_expressions (64 - c.args.depth) c.args.tokens.now c.in_ok-e.rest.now (Whole (expr_of c.in_ok-e.e))
    (c.in_ok-e.ensures.reads Alone (64 - c.args.depth) (omega arith) refl tt ∙ whole_done (limits (64 - c.args.depth)) (expr_of c.in_ok-e.e) (symbols_seen c.in_ok-e.rest.now) c.in_ok-e.ensures.stops)
