use Rattle.std.proofs.Common.{List, ℕ, refl, subst}
use Rattle.std.proofs.lemmas.Result.{IfOk-weaker}
use Rattle.mj_core.specs.Shown.{Shown}
use Rattle.mj_dialogue.specs.Says.{TellsWalk}
use Rattle.mj_dialogue.proofs.Giving.{core_forth}
use Rattle.mj_dialogue.proofs.doing.forward.Goals as goal

pub returns-clause-ok : goal.returns-clause-ok
returns-clause-ok g c =
    let Q : List ℕ → Shown → Type 0 = λ bytes core. TellsWalk g.O.Opening.opening core c.forward-at.result bytes in
    IfOk-weaker c.walked.result _ _
    (λ bytes tells. (c.forward-at.result, c.forward-at.ensures, subst (Q bytes.items) (core_forth c.args.debugger.now c.forward-at.new.self c.forward-at.result c.forward-at.ensures) tells, refl))
    c.walked.ensures
