use Rattle.mj_cmd.proofs.call.ActualItem.read.Goals as goal

pub returns-clause-first : goal.returns-clause-first
returns-clause-first c = λ q m r b. c.actual.ensures.reads m r q

pub returns-clause-more : goal.returns-clause-more
returns-clause-more c = λ q m r. c.actual.ensures.reads m r q
