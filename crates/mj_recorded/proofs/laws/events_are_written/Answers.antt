use Rattle.mj_recorded.proofs.Histories as histories
use Rattle.mj_recorded.proofs.laws.events_are_written.Goals as goal

pub returns : goal.returns
returns c = histories.are_recorded
