use Rattle.mj_inspect.proofs.Walked.{from_first}
use Rattle.mj_inspect.proofs.own.last_end.Goals as goal

pub loop-at-init : goal.loop-at-init
loop-at-init g c = from_first c.args.job c.args.core.now.history 0
