use Rattle.mj_locktab.proofs.Spelled.{copy_spelled}
use Rattle.mj_locktab.proofs.words.copy.Goals as goal

pub returns : goal.returns
returns c = copy_spelled c.args.words.now.entries c.in_ok-copy.copy.entries c.in_ok-copy.ensures.cases
