use Rattle.std.proofs.lemmas.Result.{IfOk-weaker}
use Rattle.mj_replica.proofs.Seeking.{says}
use Rattle.mj_replica.proofs.replaying.replay.Goals as goal

pub returns : goal.returns
returns g c =
    IfOk-weaker c.walk.result _ _ (λ verdict walks. says c.args.image.now g.O.Opening.opening c.args.events.now c.walk.new.found.items verdict walks) c.walk.ensures
