use Rattle.std.proofs.Common.{Option, subst}
use Rattle.mj_sys.specs.Passed.{IsOpen}
use Rattle.mj_sys.specs.Transactions.{Ongoing}
use Rattle.mj_sys.proofs.transactions.unlock.Goals as goal

pub returns-in_err-unlock-in-Some-clause-open : goal.returns-in_err-unlock-in-Some-clause-open
returns-in_err-unlock-in-Some-clause-open c g was = c.unlock.ensures.open g (subst (λ (o : Option Ongoing). IsOpen g o) c.in-Some.is was)

pub returns-in_ok-unlock-in-Some-clause-open : goal.returns-in_ok-unlock-in-Some-clause-open
returns-in_ok-unlock-in-Some-clause-open c g was = c.unlock.ensures.open g (subst (λ (o : Option Ongoing). IsOpen g o) c.in-Some.is was)
