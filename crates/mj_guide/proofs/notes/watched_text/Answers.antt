use Rattle.std.proofs.Common.{◌∙◌, ap}
use Rattle.std.proofs.lemmas.Result.{IfOk-weaker}
use Rattle.mj_inspect.specs.Listed.{or_nothing}
use Rattle.mj_guide.proofs.notes.watched_text.Goals as goal

pub returns : goal.returns
returns c = IfOk-weaker c.or_nothing.result _ _ (λ bytes is. is ∙ ap or_nothing c.in_ok-lines.ensures) c.or_nothing.ensures
