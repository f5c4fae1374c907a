use Rattle.std.proofs.lemmas.Result.{IfOk-weaker}
use Rattle.mj_replica.proofs.Seeking.{says_placed}
use Rattle.mj_replica.proofs.placing.replay_placed.Goals as goal

pub returns : goal.returns
returns g c =
    IfOk-weaker c.walk.result _ _ (λ verdict walks. says_placed c.args.image.now g.O.Opening.opening c.args.events.now c.walk.new.found.items verdict walks) c.walk.ensures
