use Rattle.mj_gather.proofs.Starting.{logs_more}
use Rattle.mj_gather.proofs.gathering.logs_of.Goals as goal

pub loop-at-preserved : goal.loop-at-preserved
loop-at-preserved c =
    logs_more c.args.rans.now c.loop-at.at c.loop-at.logs.items c.log_in.result c.push.new.self.items c.in_ok-push.ensures.items c.loop-at.invariant c.log_in.ensures
