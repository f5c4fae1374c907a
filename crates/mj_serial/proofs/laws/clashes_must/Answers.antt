use Rattle.mj_serial.proofs.Cores as cores
use Rattle.mj_serial.proofs.laws.clashes_must.Goals as goal

pub returns : goal.returns
returns c = cores.clashes_must
