use Rattle.std.proofs.Common.{◌++◌, ◌∙◌, ap, codes}
use Rattle.mj_debug.specs.Walks.{Walk}
use Rattle.mj_dialogue.specs.Lines.{lined}
use Rattle.mj_inspect.specs.Asks.{is_asking}
use Rattle.mj_guide.specs.Marks.{silence_text}
use Rattle.mj_guide.proofs.responding.set.Goals as goal

pub returns : goal.returns
returns g c =
    let marks = c.in_ok-mark.ensures in (
      marks,
      c.in_ok-bytes.ensures
          ∙ ap (λ (walk : Walk). lined (codes "ok") ++ silence_text (is_asking walk.core.image.units c.args.routine.now c.args.line)) marks.1,
    )
