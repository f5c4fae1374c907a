use Rattle.std.proofs.Common.{ℕ, sym, subst}
use Rattle.mj_explain.specs.Losses.{AreLosses, AreBefore}
use Rattle.mj_explain.proofs.Losing.{losses_more}
use Rattle.mj_explain.proofs.finding.add_loss.Goals as goal

pub returns-clause-are : goal.returns-clause-are
returns-clause-are c = λ are before.
    let es = c.args.events.now in
    let ls = c.args.losses.now.items in
    subst (AreLosses es) (sym c.in_ok-push.ensures.items)
    (losses_more es ls c.in-Some.loss (c.in_ok-is_loss.ensures c.if-not-branch.false)
    (subst (λ (p : ℕ). AreBefore p ls) (sym c.if-loss-place.false) before) are)
