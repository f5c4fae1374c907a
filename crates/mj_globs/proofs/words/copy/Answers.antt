use Rattle.mj_globs.proofs.Spelled.{copy_spelled}
use Rattle.mj_globs.proofs.words.copy.Goals as goal

pub returns : goal.returns
returns c = copy_spelled c.args.words.now.entries c.in_ok-copy.copy.entries c.in_ok-copy.ensures.cases
