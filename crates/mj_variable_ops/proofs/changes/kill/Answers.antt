use Rattle.std.proofs.lemmas.Result.{IfOk-weaker}
use Rattle.mj_machine.specs.Kept.{replied}
use Rattle.mj_variable_ops.proofs.changes.kill.Goals as goal

pub returns-in-Local-clause-ok : goal.returns-in-Local-clause-ok
returns-in-Local-clause-ok c = IfOk-weaker c.kill_local.result _ _ (λ step d. d (replied c.args.given)) c.kill_local.ensures.ok
