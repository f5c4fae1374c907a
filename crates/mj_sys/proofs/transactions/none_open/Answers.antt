use Rattle.std.proofs.Common.{List, [], ◌∷◌, ◌++◌, Option, None, sym, ap, ◌∙◌, subst, arith}
use Rattle.mj_sys.specs.Passed.{AreOpen}
use Rattle.mj_sys.specs.Transactions.{Transactions, Ongoing, all_logged}
use Rattle.mj_sys.proofs.Passing.{row_more}
use Rattle.mj_sys.proofs.Places.{one_more, seen_more}
use Rattle.mj_sys.proofs.transactions.none_open.Goals as goal

pub loop-preserved : goal.loop-preserved
loop-preserved c =
    let old = c.loop.logs.items in (
      ap all_logged c.in_ok-push.ensures.items ∙ seen_more old ∙ ap (λ (ts : Transactions). ts ++ None ∷ []) c.loop.invariant.0 ∙ one_more c.loop.counter,
      omega arith,
      λ g. subst (λ (os : List (Option Ongoing)). AreOpen g os) (sym c.in_ok-push.ensures.items) (row_more g old (c.loop.invariant.2 g)),
    )
