use Rattle.mj_expr.proofs.Runs.{ends_target}
use Rattle.mj_expr.proofs.beyond.behind_variable.Goals as goal

pub returns-clause-ends : goal.returns-clause-ends
returns-clause-ends c = λ m e i. ends_target _ c.beyond.result c.args.tokens.now m e i c.beyond.ensures.passes
