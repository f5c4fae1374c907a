use Rattle.std.proofs.Common.{sym, ap, ◌∙◌}
use Rattle.mj_rou.specs.Read.{label_seen}
use Rattle.mj_rou.proofs.Labels.{twice_some}
use Rattle.mj_rou.proofs.routine.is_kept.Goals as goal

pub returns-in-Some : goal.returns-in-Some
returns-in-Some c = λ before ks h e. twice_some before ks c.args.labels.now c.in-Some.label.now c.contains.result (sym (ap label_seen c.in-Some.is) ∙ e) h c.contains.ensures
