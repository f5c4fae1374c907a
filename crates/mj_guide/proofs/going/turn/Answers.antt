use Rattle.std.proofs.Common.{◌∙◌, ◌++◌, ℕ, List, ap, subst}
use Rattle.std.specs.Io.KnownBytes.{Appends}
use Rattle.mj_steps.specs.declared.step.Step.{Step}
use Rattle.mj_core.specs.Shown.{Shown}
use Rattle.mj_dialogue.specs.Says.{TellsGone}
use Rattle.mj_guide.specs.Notes.{kept_in_turn}
use Rattle.mj_guide.proofs.going.turn.Goals as goal

pub returns : goal.returns
returns g c =
    let gone = c.in_ok-gone.gone in
    let passed = c.in_ok-passed.passed in
    let told = c.in_ok-passed.ensures in
    let P : Shown → Type 0 = λ core. TellsGone g.O.Opening.opening core gone passed.told.bytes.items in
    let Q : List ℕ → Type 0 = λ bytes. Appends (g.W.Write.contents c.args.out.now) (g.W.Write.contents c.put.new.out) bytes in
    let steps = ◌∙◌ {A = List Step} c.note_turn.ensures.steps (ap (λ (steps : List Step). steps ++ kept_in_turn gone) c.reserve.ensures.items) in (
      (
        passed.told.bytes.items,
        (c.in_ok-gone.ensures.ok, subst P c.core.ensures told.0),
        subst Q c.deref.ensures.value c.in_ok-put.ensures.ok,
        steps,
        c.note_turn.ensures.watched,
        c.note_turn.ensures.starts,
      ),
      told.1,
    )
