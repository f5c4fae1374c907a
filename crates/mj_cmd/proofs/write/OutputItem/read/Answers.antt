use Rattle.mj_cmd.proofs.write.OutputItem.read.Goals as goal

pub returns-clause-first : goal.returns-clause-first
returns-clause-first c = λ q m r b. c.output.ensures.reads m r
