use Rattle.mj_expr.proofs.Runs.{ends_whole}
use Rattle.mj_expr.proofs.beyond.behind_expression.Goals as goal

pub returns-clause-ends : goal.returns-clause-ends
returns-clause-ends c = λ m e i. ends_whole _ c.beyond.result c.args.tokens.now m e i c.beyond.ensures.passes
