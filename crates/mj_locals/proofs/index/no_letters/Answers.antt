use Rattle.mj_locals.proofs.Letters.{zeros}
use Rattle.mj_locals.proofs.index.no_letters.Goals as goal

pub returns : goal.returns
returns c letter = zeros 256 letter
