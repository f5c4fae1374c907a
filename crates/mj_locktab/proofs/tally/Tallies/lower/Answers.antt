use Rattle.std.proofs.Common.{subst}
use Rattle.mj_locktab.specs.Trees.{tallies_of, AreCounted}
use Rattle.mj_locktab.specs.declared.tally.Tallies.{Tallies as Kept}
use Rattle.mj_locktab.proofs.tally.Tallies.lower.Goals as goal

-- another job is left as it is
pub returns-then-own-job-clause-counted : goal.returns-then-own-job-clause-counted
returns-then-own-job-clause-counted c = λ counted. subst (λ (t : Kept). AreCounted (tallies_of t)) c.in-One.is counted

pub returns-in-More-clause-counted : goal.returns-in-More-clause-counted
returns-in-More-clause-counted c = λ counted. c.lower_in.ensures.counted (subst (λ (t : Kept). AreCounted (tallies_of t)) c.in-More.is counted)
