use Rattle.mj_inspect.proofs.Started.{last_first}
use Rattle.mj_inspect.proofs.specials.last_event.Goals as goal

pub loop-at-init : goal.loop-at-init
loop-at-init g c = last_first c.args.number c.args.core.now.history
