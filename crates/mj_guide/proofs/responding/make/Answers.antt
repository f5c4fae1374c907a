use Rattle.std.proofs.Common.{◌∙◌, ◌++◌, ℕ, List, ap, subst}
use Rattle.std.specs.Io.KnownBytes.{Appends}
use Rattle.mj_steps.specs.declared.step.Step.{Step}
use Rattle.mj_core.specs.Shown.{Shown}
use Rattle.mj_dialogue.specs.Says.{TellsStep}
use Rattle.mj_guide.specs.Notes.{kept_of}
use Rattle.mj_guide.proofs.responding.make.Goals as goal

pub returns : goal.returns
returns g c =
    let answer = c.step-answer.result in
    let told = c.in_ok-told.told in
    let says = c.in_ok-told.ensures in
    let Q : Shown → Type 0 = λ core. TellsStep g.O.Opening.opening core answer told.bytes.items in
    let P : List ℕ → Type 0 = λ bytes. Appends (g.W.Write.contents c.args.out.now) (g.W.Write.contents c.put.new.out) bytes in
    let steps = c.note_step.ensures.steps ∙ ap (λ (steps : List Step). steps ++ kept_of c.args.step answer) c.reserve.ensures.items in (
      answer,
      told.bytes.items,
      c.step-answer.ensures,
      subst Q c.core.ensures says.0,
      says.1,
      subst P c.deref.ensures.value c.in_ok-put.ensures.ok,
      steps,
      c.note_step.ensures.watched,
      c.note_step.ensures.starts,
    )
