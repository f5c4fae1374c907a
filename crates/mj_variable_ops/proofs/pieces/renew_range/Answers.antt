use Rattle.std.proofs.lemmas.Result.{IfOk-weaker}
use Rattle.mj_machine.specs.Kept.{replied}
use Rattle.mj_variable_ops.proofs.pieces.renew_range.Goals as goal

pub returns-in-Local-clause-ok : goal.returns-in-Local-clause-ok
returns-in-Local-clause-ok c = IfOk-weaker c.renew_local.result _ _ (λ step d. d (replied c.args.given)) c.renew_local.ensures.ok
