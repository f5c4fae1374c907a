use Rattle.std.proofs.Common.{◌<◌, Option, sym, ◌∙◌, subst}
use Rattle.mj_sys.specs.Passed.{IsOpen}
use Rattle.mj_sys.specs.Transactions.{Ongoing}
use Rattle.mj_sys.proofs.Passing.{row_there, row_set}
use Rattle.mj_sys.proofs.transactions.take_out.Goals as goal

pub returns-in-Some-clause-open : goal.returns-in-Some-clause-open
returns-in-Some-clause-open c g were =
    let at = c.in-Some.at in
    let os = c.args.logs.now.items in
    let below = subst (λ n. at < n) (c.len.ensures ∙ c.args.logs.now.ok.0) c.in-Some.ensures.some.1 in (
      subst (λ (o : Option Ongoing). IsOpen g o) (sym c.take.ensures.value) (row_there g os at c.index_mut.result.now below c.index_mut.ensures.value were),
      row_set g os at c.take.new.self (subst (λ (o : Option Ongoing). IsOpen g o) (sym c.take.ensures.after) tt) were,
    )
