use Rattle.mj_work.proofs.workers.+fn-start-join+arg2+fn-start-join+arg3+start.Given as goal

abbrev pub decreases-join+arg2 : goal.decreases-join+arg2
decreases-join+arg2 g l = l.half

abbrev pub decreases-join+arg3 : goal.decreases-join+arg3
decreases-join+arg3 g l = l.rest

abbrev pub decreases-start : goal.decreases-start
decreases-start g l = l.n
