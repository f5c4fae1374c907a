use Rattle.mj_cmd.proofs.lock.VariableItem.read.Goals as goal

pub returns-clause-first : goal.returns-clause-first
returns-clause-first c = λ q m r b. c.name.ensures.reads m r

pub returns-clause-more : goal.returns-clause-more
returns-clause-more c = λ q m r. c.name.ensures.reads m r
