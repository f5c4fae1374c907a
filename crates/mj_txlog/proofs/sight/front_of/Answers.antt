use Rattle.std.proofs.Common.{arith}
use Rattle.mj_txlog.proofs.Fronts.{front_of_take}
use Rattle.mj_txlog.proofs.sight.front_of.Goals as goal

pub returns-in-len1-up : goal.returns-in-len1-up
returns-in-len1-up c = front_of_take c.args.list.now (omega arith)
