use Rattle.std.proofs.Common.{List, ℕ, refl, subst}
use Rattle.std.proofs.lemmas.Result.{IfOk-weaker}
use Rattle.mj_core.specs.Shown.{Shown}
use Rattle.mj_dialogue.specs.Says.{TellsWalk}
use Rattle.mj_dialogue.proofs.Giving.{core_back}
use Rattle.mj_dialogue.proofs.doing.back.Goals as goal

pub returns-clause-ok : goal.returns-clause-ok
returns-clause-ok g c =
    let Q : List ℕ → Shown → Type 0 = λ bytes core. TellsWalk g.O.Opening.opening core c.back-at.result bytes in
    IfOk-weaker c.walked.result _ _
    (λ bytes tells. (c.back-at.result, c.back-at.ensures, subst (Q bytes.items) (core_back c.args.debugger.now c.back-at.new.self c.back-at.result c.back-at.ensures) tells, refl))
    c.walked.ensures
