use Rattle.std.proofs.Common.{Option, subst}
use Rattle.mj_sys.specs.Passed.{IsOpen}
use Rattle.mj_sys.specs.Transactions.{Ongoing}
use Rattle.mj_sys.proofs.transactions.try_take.Goals as goal

pub returns-in-Some-clause-open : goal.returns-in-Some-clause-open
returns-in-Some-clause-open c g was = c.try_take-in-Some.ensures.open g (subst (λ (o : Option Ongoing). IsOpen g o) c.in-Some.is was)
