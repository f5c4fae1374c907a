use Rattle.mj_guide.proofs.tally.tally_behind.Goals as goal

pub waited_behind-requires : goal.waited_behind-requires
waited_behind-requires g c = c.requires.few

pub ended_from-requires : goal.ended_from-requires
ended_from-requires g c = c.requires.ended

pub returns-clause-counted : goal.returns-clause-counted
returns-clause-counted g c = (c.ended_from.ensures, c.events.ensures)

pub returns-clause-waited : goal.returns-clause-waited
returns-clause-waited g c = c.waited_behind.ensures.value

pub returns-clause-few : goal.returns-clause-few
returns-clause-few g c = c.waited_behind.ensures.few
