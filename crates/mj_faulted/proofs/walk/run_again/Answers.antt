use Rattle.mj_faulted.specs.Walks.{lent}
use Rattle.mj_faulted.proofs.walk.run_again.Goals as goal

pub turns-init : goal.turns-init
turns-init c = c.begin-walk.ensures (lent c.args.replies.now)
