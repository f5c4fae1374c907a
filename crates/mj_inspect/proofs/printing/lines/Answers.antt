use Rattle.std.proofs.Common.{◌∙◌, ap}
use Rattle.std.proofs.lemmas.Result.{IfOk-weaker}
use Rattle.mj_inspect.specs.Listed.{or_mark}
use Rattle.mj_inspect.proofs.printing.lines.Goals as goal

pub returns : goal.returns
returns c = IfOk-weaker c.or_mark.result _ _ (λ bytes is. is ∙ ap or_mark c.in_ok-found.ensures) c.or_mark.ensures
