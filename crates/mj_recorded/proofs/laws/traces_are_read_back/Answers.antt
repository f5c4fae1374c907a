use Rattle.mj_recorded.proofs.ReadBack as reading
use Rattle.mj_recorded.proofs.laws.traces_are_read_back.Goals as goal

pub returns : goal.returns
returns c = reading.read_back
