use Rattle.mj_jobvm.proofs.Fitted as fitted
use Rattle.mj_jobvm.proofs.laws.asks_what_fits.Goals as goal

pub returns : goal.returns
returns c = fitted.asks_what_fits
