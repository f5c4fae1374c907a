use Rattle.std.proofs.Common.{ap}
use Rattle.mj_ask.specs.declared.bounds.Bounds.{Bounds}
use Rattle.mj_test_core.proofs.begins.image.Goals as goal

pub returns-in-Ok : goal.returns-in-Ok
returns-in-Ok c = ap (λ (b : Bounds). b.limit) c.in-Ok.ensures.bounds
