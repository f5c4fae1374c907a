use Rattle.std.proofs.Common.{subst}
use Rattle.mj_replica.specs.Replicas.{IsUnshown}
use Rattle.mj_debug.specs.Walks.{Walk}
use Rattle.mj_debug.proofs.debugger.Debugger+D+Sessions+D+O.show.Goals as goal

pub returns-in-Err-clause-why : goal.returns-in-Err-clause-why
returns-in-Err-clause-why g c =
    let P : Walk → Type 0 = λ w. IsUnshown w.core.image g.O.Opening.opening w.core.history w.place c.in-Err.why in
    subst P c.self.view_is c.in-Err.ensures.err
