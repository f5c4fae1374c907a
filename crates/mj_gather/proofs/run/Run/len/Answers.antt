use Rattle.std.proofs.Common.{length, sym, ap, ◌∙◌}
use Rattle.mj_core.proofs.Views.{as_many}
use Rattle.mj_gather.specs.Lent.{lent, Ordered}
use Rattle.mj_gather.proofs.run.Run.len.Goals as goal

pub returns : goal.returns
returns c =
    let i = c.self.inside in
    c.len.ensures ∙ i.order.ok.0 ∙ sym (as_many (lent i.logs.items) i.order.items c.self.invariant.there) ∙ ap (λ (o : Ordered). length o.history) c.self.view_is
