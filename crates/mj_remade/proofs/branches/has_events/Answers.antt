use Rattle.std.proofs.Common.{◌∙◌, sym, ap}
use Rattle.mj_load.specs.Image.{program_of}
use Rattle.mj_core.specs.Shown.{Shown}
use Rattle.mj_remade.proofs.Comparing.{by_events, not_by_events}
use Rattle.mj_remade.proofs.branches.has_events.Goals as goal

pub returns-in-None-clause-same : goal.returns-in-None-clause-same
returns-in-None-clause-same g c = λ on.
    let core = c.core.result.now in
    ap (λ (core : Shown). core.history) (sym c.core.ensures)
    ∙ by_events (program_of core.image) g.O.Opening.opening c.args.told.now core.history c.in-None.ensures

pub returns-in-Some-clause-other : goal.returns-in-Some-clause-other
returns-in-Some-clause-other g c = λ off same.
    let core = c.core.result.now in
    not_by_events (program_of core.image) g.O.Opening.opening c.args.told.now core.history c.in-Some.field-0 c.in-Some.ensures
    (ap (λ (core : Shown). core.history) c.core.ensures ∙ same)
