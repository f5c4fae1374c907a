use Rattle.std.proofs.Common.{subst}
use Rattle.mj_locktab.specs.Trees.{tallies_of, AreCounted}
use Rattle.mj_locktab.specs.declared.tally.Tallies.{Tallies as Kept}
use Rattle.mj_locktab.proofs.tally.Tallies.raise.Goals as goal

-- where memory is refused the job is left as it is
pub returns-in_err-map-in-One-clause-counted : goal.returns-in_err-map-in-One-clause-counted
returns-in_err-map-in-One-clause-counted c = λ counted. subst (λ (t : Kept). AreCounted (tallies_of t)) c.in-One.is counted

pub returns-in_err-raise_in-in-One-clause-counted : goal.returns-in_err-raise_in-in-One-clause-counted
returns-in_err-raise_in-in-One-clause-counted c = λ counted. subst (λ (t : Kept). AreCounted (tallies_of t)) c.in-One.is counted
