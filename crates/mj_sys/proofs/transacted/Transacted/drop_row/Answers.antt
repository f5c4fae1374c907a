use Rattle.std.proofs.Common.{List, Option, ◌-◌, sym, subst}
use Rattle.mj_sys.specs.Passed.{AreOpen}
use Rattle.mj_sys.specs.Transactions.{Ongoing}
use Rattle.mj_sys.proofs.Passing.{rows_fewer}
use Rattle.mj_sys.proofs.transacted.Transacted.drop_row.Goals as goal

pub invariant_of-self : goal.invariant_of-self
invariant_of-self c =
    let i = c.self.inside in
    subst (λ (os : List (Option Ongoing)). AreOpen i.globals os) (sym c.pop.ensures.rest) (rows_fewer i.globals i.logs.items (i.logs.len - 1) c.self.invariant)
