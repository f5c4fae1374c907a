use Rattle.mj_explain.proofs.Lost.{lost}
use Rattle.mj_explain.proofs.losses.is_loss.Goals as goal

pub returns : goal.returns
returns c =
    lost c.args.events.now c.args.loss _ _ _ c.if-first-second.false (c.is_update.ensures c.if-not-is_update.false)
    (c.is_update-2.ensures c.if-not-is_update-2.false) (c.is_in_order.ensures.early c.if-not-is_in_order.false)
    (c.is_in_order.ensures.over c.if-not-is_in_order.false) c.is_unchanged.result c.is_unchanged.ensures
