use Rattle.std.proofs.Common.{List, ℕ, subst}
use Rattle.std.proofs.lemmas.Result.{IfOk-weaker}
use Rattle.mj_core.specs.Shown.{Shown}
use Rattle.mj_dialogue.specs.Says.{TellsStep}
use Rattle.mj_dialogue.proofs.Failing.{at_any_err}
use Rattle.mj_dialogue.proofs.steps.step.Goals as goal

pub returns-clause-ok : goal.returns-clause-ok
returns-clause-ok g c =
    let Q : List ℕ → Shown → Type 0 = λ bytes core. TellsStep g.O.Opening.opening core c.step-answer.result bytes in
    IfOk-weaker c.tell.result _ _ (λ told says. (c.step-answer.result, c.step-answer.ensures, subst (Q told.bytes.items) c.core.ensures says.0, says.1))
    c.tell.ensures

pub returns-clause-err : goal.returns-clause-err
returns-clause-err g c = at_any_err c.tell.result (c.step-answer.result, c.step-answer.ensures)
