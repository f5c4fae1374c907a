use Rattle.std.proofs.Common.{length, sym, ap, ◌∙◌}
use Rattle.mj_sys.specs.Shared.{Shared}
use Rattle.mj_sys.specs.History.{state_of}
use Rattle.mj_core.specs.Shown.{Shown}
use Rattle.mj_core.specs.Kept.{claim_of}
use Rattle.mj_core.proofs.Histories.{same_state}
use Rattle.mj_core.proofs.together.Core.jobs.Goals as goal

pub returns-clause-value : goal.returns-clause-value
returns-clause-value g c =
    let i = c.self.inside in
    let opening = g.O.Opening.opening in
    c.rows.ensures.value
    ∙ ap (λ (s : Shared). length s.rows) (sym (same_state g.A.Answerer.answering i.image opening i.system i.slots.items (claim_of i.waiting) i.order.items c.self.invariant.0))
    ∙ ap (λ (s : Shown). length (state_of opening s.history).rows) c.self.view_is
