use Rattle.std.proofs.lemmas.Result.{IfOk-weaker}
use Rattle.mj_machine.specs.Kept.{replied}
use Rattle.mj_variable_ops.proofs.merges.take_named.Goals as goal

pub returns-clause-ok : goal.returns-clause-ok
returns-clause-ok c = IfOk-weaker c.take_local-step.result _ _ (λ step d. d (replied c.args.given)) c.take_local-step.ensures.ok
