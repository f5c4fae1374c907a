use Rattle.std.proofs.Common.{◌++◌, ◌∙◌, ap, codes}
use Rattle.mj_debug.specs.Walks.{Walk}
use Rattle.mj_dialogue.specs.Lines.{spot_line}
use Rattle.mj_inspect.specs.Asks.{is_asking}
use Rattle.mj_guide.specs.Marks.{marked_text}
use Rattle.mj_guide.proofs.responding.mark_line.Goals as goal

pub returns : goal.returns
returns g c =
    let marks = c.in_ok-mark.ensures in
    let routine = c.args.routine.now in (
      marks,
      c.in_ok-bytes.ensures
          ∙ ap (λ (walk : Walk). codes "ok " ++ spot_line routine c.args.line ++ marked_text c.args.on (is_asking walk.core.image.units routine c.args.line)) marks.1,
    )
