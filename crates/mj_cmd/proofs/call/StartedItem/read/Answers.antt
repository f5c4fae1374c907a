use Rattle.std.proofs.Common.{false, true}
use Rattle.mj_cmd.proofs.call.StartedItem.read.Goals as goal

pub returns-clause-first : goal.returns-clause-first
returns-clause-first c = λ q m r b. c.started.ensures.reads m r true

pub returns-clause-more : goal.returns-clause-more
returns-clause-more c = λ q m r. c.started.ensures.reads m r false
