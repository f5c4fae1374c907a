use Rattle.std.proofs.Common.{arith}
use Rattle.mj_globs.proofs.stamps.after.Goals as goal

pub returns-clause-up : goal.returns-clause-up
returns-clause-up c = let fits = c.ranges.stamp in let is = c.saturating_add.ensures in omega (arith, fits, is)

pub returns-clause-further : goal.returns-clause-further
returns-clause-further c = λ below. let is = c.saturating_add.ensures in omega (arith, below, is)
