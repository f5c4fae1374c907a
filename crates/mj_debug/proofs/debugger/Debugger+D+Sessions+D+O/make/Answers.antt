use Rattle.std.proofs.Common.{arith}
use Rattle.mj_debug.proofs.Showing.{keeps_on}
use Rattle.mj_debug.proofs.debugger.Debugger+D+Sessions+D+O.make.Goals as goal

pub invariant_of-self : goal.invariant_of-self
invariant_of-self g c =
    let i = c.self.inside in
    let on = c.step_on-answer.ensures in
    let value = c.len-end.ensures.value in
    keeps_on g.O.Opening.opening i.kept i.place c.len-end.result i.core c.step_on-answer.new.core i.replica i.views (omega (arith, value)) on.short on.replica on.views c.self.invariant
