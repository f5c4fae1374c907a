use Rattle.std.proofs.Common.{◌∙◌}
use Rattle.std.proofs.lemmas.Result.{IfOk-weaker}
use Rattle.mj_txlog.proofs.Nexts.{copied_order}
use Rattle.mj_txlog.proofs.next.next_copied.Goals as goal

pub returns : goal.returns
returns c = IfOk-weaker c.next_in-next.result _ _
    (λ next h es laid. h ∙ copied_order c.args.front.now c.args.from.now c.args.way c.in_ok-below.below c.args.globals.now es c.rises-2.ensures c.rises.ensures (c.in_ok-below.ensures es laid))
    c.next_in-next.ensures
