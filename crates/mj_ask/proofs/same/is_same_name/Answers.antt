use Rattle.std.proofs.Common.{sym, ◌∙◌}
use Rattle.mj_subs.specs.Laws.Tests.{names_eq-Decides}
use Rattle.mj_ask.proofs.same.is_same_name.Goals as goal

pub returns : goal.returns
returns c =
    let d = names_eq-Decides c.args.one.now c.args.other.now in
    (λ h. d.0 (sym c.eq.ensures ∙ h), λ e. c.eq.ensures ∙ d.1 e)
