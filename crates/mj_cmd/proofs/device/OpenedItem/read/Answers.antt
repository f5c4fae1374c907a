use Rattle.mj_cmd.proofs.device.OpenedItem.read.Goals as goal

pub returns-clause-first : goal.returns-clause-first
returns-clause-first c = λ q m r b. c.opened.ensures.reads m r
