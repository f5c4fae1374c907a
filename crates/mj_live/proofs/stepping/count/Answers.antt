use Rattle.std.proofs.Common.{◌∙◌, ap, length}
use Rattle.mj_core.specs.Shown.{Shown}
use Rattle.mj_live.proofs.stepping.count.Goals as goal

pub returns : goal.returns
returns g c = c.len.ensures.value ∙ ap (λ (s : Shown). length s.history) c.jobs.view_is
