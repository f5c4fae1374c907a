use Rattle.mj_serial.proofs.Cores as cores
use Rattle.mj_serial.proofs.laws.serial.Goals as goal

pub returns : goal.returns
returns c = cores.is_serial
