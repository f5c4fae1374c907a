use Rattle.mj_serial.proofs.Cores as cores
use Rattle.mj_serial.proofs.laws.none_is_open.Goals as goal

pub returns : goal.returns
returns c = cores.opens
