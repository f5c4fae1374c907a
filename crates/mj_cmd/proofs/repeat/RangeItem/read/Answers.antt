use Rattle.mj_cmd.proofs.repeat.RangeItem.read.Goals as goal

pub returns-clause-first : goal.returns-clause-first
returns-clause-first c = λ q m r b. c.range.ensures.reads m r
