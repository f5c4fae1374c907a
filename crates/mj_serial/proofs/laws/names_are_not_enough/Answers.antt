use Rattle.mj_serial.proofs.Wrong as wrong
use Rattle.mj_serial.proofs.laws.names_are_not_enough.Goals as goal

pub returns : goal.returns
returns c = wrong.names_are_not_enough
