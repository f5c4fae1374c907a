use Rattle.std.proofs.Common.{ap}
use Rattle.mj_ask.specs.declared.bounds.Bounds.{Bounds}
use Rattle.mj_core.proofs.together.most_events.Goals as goal

pub returns-clause-value : goal.returns-clause-value
returns-clause-value c = ap (λ (b : Bounds). b.events) c.bounds.ensures.which
