use Rattle.std.proofs.Common.{Option, subst}
use Rattle.mj_sys.specs.Passed.{IsOpen}
use Rattle.mj_sys.specs.Transactions.{Ongoing}
use Rattle.mj_sys.proofs.transactions.unlock_all.Goals as goal

pub returns-in_err-unlock_all-in-Some-clause-open : goal.returns-in_err-unlock_all-in-Some-clause-open
returns-in_err-unlock_all-in-Some-clause-open c g was = c.unlock_all.ensures.open g (subst (λ (o : Option Ongoing). IsOpen g o) c.in-Some.is was)

pub returns-in_ok-unlock_all-in-Some-clause-open : goal.returns-in_ok-unlock_all-in-Some-clause-open
returns-in_ok-unlock_all-in-Some-clause-open c g was = c.unlock_all.ensures.open g (subst (λ (o : Option Ongoing). IsOpen g o) c.in-Some.is was)
