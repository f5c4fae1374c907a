use Rattle.std.proofs.Common.{ap, ◌∙◌}
use Rattle.mj_dev.specs.Heard.{Heard}
use Rattle.mj_dev.proofs.Talks.{Talks-output}
use Rattle.mj_dev.proofs.session.Session.taken.Goals as goal

pub returns-clause-output : goal.returns-clause-output
returns-clause-output g c = λ old talk fresh e.
    c.taken.ensures ∙ ap (λ (h : Heard). h.taken) c.self.view_is ∙ Talks-output old c.args.self.now talk fresh e
