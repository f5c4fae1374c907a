use Rattle.std.proofs.Common.{Option, sym, subst}
use Rattle.mj_sys.specs.Passed.{IsOpen}
use Rattle.mj_sys.specs.Transactions.{Ongoing}
use Rattle.mj_sys.proofs.Passing.{row_set}
use Rattle.mj_sys.proofs.transactions.put_back.Goals as goal

pub returns-in-Some-clause-open : goal.returns-in-Some-clause-open
returns-in-Some-clause-open c g is were =
    row_set g c.args.logs.now.items c.in-Some.at c.replace.new.dest (subst (λ (o : Option Ongoing). IsOpen g o) (sym c.replace.ensures.after) is) were
