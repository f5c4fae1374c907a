use Rattle.mj_serial.proofs.Wrong as wrong
use Rattle.mj_serial.proofs.laws.after_all_writes_is_late.Goals as goal

pub returns : goal.returns
returns c = wrong.after_all_is_late
