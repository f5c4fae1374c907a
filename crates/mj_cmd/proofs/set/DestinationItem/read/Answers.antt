use Rattle.std.proofs.Common.{true}
use Rattle.mj_cmd.proofs.set.DestinationItem.read.Goals as goal

pub returns-clause-first : goal.returns-clause-first
returns-clause-first c = λ q m r b. c.destination.ensures.reads m r true tt

pub returns-clause-more : goal.returns-clause-more
returns-clause-more c = λ q m r. c.destination.ensures.reads m r true tt
