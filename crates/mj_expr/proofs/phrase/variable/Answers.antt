use Rattle.std.proofs.Common.{◌∙◌, ◌-◌, refl, arith}
use Rattle.mj_ast.specs.Expressions.{variables}
use Rattle.mj_ast.specs.Trees.{variable_of}
use Rattle.mj_expr.specs.Machine.{AsTarget, Target}
use Rattle.mj_expr.specs.Reads.{symbols_seen, limits}
use Rattle.mj_lex.specs.Seen.{tokens_seen}
use Rattle.mj_expr.proofs.Zipper.{AVariable}
use Rattle.mj_expr.proofs.Steps.{target_done}
use Rattle.mj_expr.proofs.Told.{wraps_variables}
use Rattle.mj_expr.proofs.Said.{refused_as, read_end, runs_end}
use Rattle.mj_expr.proofs.phrase.variable.Goals as goal

pub returns-in_err-v-clause-refused : goal.returns-in_err-v-clause-refused
returns-in_err-v-clause-refused c =
    refused_as AVariable variables wraps_variables (64 - c.args.depth) (tokens_seen c.args.tokens.now) c.from_residual.result c.in_err-v.field-0.0 c.from_residual.ensures.1
    (c.in_err-v.ensures.reads AsTarget (64 - c.args.depth) (omega arith) refl)

pub returns-clause-read : goal.returns-clause-read
returns-clause-read c =
    read_end AVariable variables wraps_variables (64 - c.args.depth) c.args.tokens.now c.in_ok-v.rest.now (variable_of c.in_ok-v.v)
    (c.in_ok-v.ensures.reads AsTarget (64 - c.args.depth) (omega arith) refl ∙ target_done (limits (64 - c.args.depth)) (variable_of c.in_ok-v.v) (symbols_seen c.in_ok-v.rest.now))

pub returns-clause-runs : goal.returns-clause-runs
returns-clause-runs c =
    runs_end AVariable variables wraps_variables (64 - c.args.depth) c.args.tokens.now c.in_ok-v.rest.now (Target (variable_of c.in_ok-v.v))
    (c.in_ok-v.ensures.reads AsTarget (64 - c.args.depth) (omega arith) refl ∙ target_done (limits (64 - c.args.depth)) (variable_of c.in_ok-v.v) (symbols_seen c.in_ok-v.rest.now))
