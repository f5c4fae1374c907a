use Rattle.mj_guide.proofs.Counting.{counted_none}
use Rattle.mj_guide.proofs.tally.tally_of.Goals as goal

pub ended_from-requires : goal.ended_from-requires
ended_from-requires g c = counted_none c.args.debugger.now.core.history

pub returns-clause-counted : goal.returns-clause-counted
returns-clause-counted g c = (c.ended_from.ensures, c.events.ensures)
