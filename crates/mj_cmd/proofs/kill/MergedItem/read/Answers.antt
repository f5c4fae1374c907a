use Rattle.mj_cmd.proofs.kill.MergedItem.read.Goals as goal

pub returns-clause-first : goal.returns-clause-first
returns-clause-first c = λ q m r b. c.merged.ensures.reads m r
