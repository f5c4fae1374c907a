use Rattle.mj_jobvm.proofs.Halts as halts
use Rattle.mj_jobvm.proofs.laws.ended_by_halt.Goals as goal

pub returns-clause-run : goal.returns-clause-run
returns-clause-run c = halts.ends_by_halt

pub returns-clause-log : goal.returns-clause-log
returns-clause-log c = halts.halt_last
