use Rattle.mj_cmd.proofs.read.InputItem.read.Goals as goal

pub returns-clause-first : goal.returns-clause-first
returns-clause-first c = λ q m r b. c.input.ensures.reads m r
