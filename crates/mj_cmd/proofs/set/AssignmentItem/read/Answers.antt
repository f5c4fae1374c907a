use Rattle.mj_cmd.proofs.set.AssignmentItem.read.Goals as goal

pub returns-clause-first : goal.returns-clause-first
returns-clause-first c = λ q m r b. c.assignment.ensures.reads m r
