use Rattle.std.proofs.Common.{List, ℕ, Option, Some, None, sym, subst}
use Rattle.std.specs.Prelude.{IfOk}
use Rattle.mj_core.specs.Shown.{Shown}
use Rattle.mj_dialogue.specs.Says.{TellsWalk}
use Rattle.mj_dialogue.proofs.doing.walked.Goals as goal

pub returns-in-Some : goal.returns-in-Some
returns-in-Some g c =
    let opening = g.O.Opening.opening in
    let result = c.event.result in
    let C : Shown → Type 0 = λ core. IfOk result (λ bytes. TellsWalk opening core (Some c.in-Some.at) bytes.items) in
    let A : Option ℕ → Type 0 = λ at. IfOk result (λ bytes. TellsWalk opening c.args.debugger.now.core at bytes.items) in
    subst A (sym c.in-Some.is) (subst C c.core.ensures c.event.ensures)
