use Rattle.mj_recorded.proofs.Agreeing as agreeing
use Rattle.mj_recorded.proofs.laws.answers_agree.Goals as goal

pub returns : goal.returns
returns c = record { told = agreeing.answers_agree; shown = agreeing.asks_are_told; logs = agreeing.logs_follow }
