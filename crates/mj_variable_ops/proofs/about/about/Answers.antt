use Rattle.std.proofs.lemmas.Result.{IfOk-weaker}
use Rattle.mj_machine.specs.Kept.{replied}
use Rattle.mj_variable_ops.proofs.about.about.Goals as goal

pub returns-then-is_told_here-clause-ok : goal.returns-then-is_told_here-clause-ok
returns-then-is_told_here-clause-ok c = IfOk-weaker c.about_local.result _ _ (λ step d. d (replied c.args.given)) c.about_local.ensures.ok

pub returns-clause-ok : goal.returns-clause-ok
returns-clause-ok c = IfOk-weaker c.about_named.result _ _ (λ step d. d (replied c.args.given)) c.about_named.ensures.ok
