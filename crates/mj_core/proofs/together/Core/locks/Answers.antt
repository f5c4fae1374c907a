use Rattle.std.proofs.Common.{sym, ap, ◌∙◌}
use Rattle.mj_sys.specs.Shared.{Shared}
use Rattle.mj_sys.specs.History.{state_of}
use Rattle.mj_core.specs.Shown.{Shown}
use Rattle.mj_core.specs.Kept.{claim_of}
use Rattle.mj_core.proofs.Histories.{same_state}
use Rattle.mj_core.proofs.together.Core.locks.Goals as goal

pub returns-clause-replay : goal.returns-clause-replay
returns-clause-replay g c =
    let i = c.self.inside in
    let opening = g.O.Opening.opening in
    c.locks.ensures.replay
    ∙ ap (λ (s : Shared). s.locks) (sym (same_state g.A.Answerer.answering i.image opening i.system i.slots.items (claim_of i.waiting) i.order.items c.self.invariant.0))
    ∙ ap (λ (s : Shown). (state_of opening s.history).locks) c.self.view_is
