use Rattle.std.proofs.Common.{sym, subst, Option, List, ℕ, Bor}
use Rattle.mj_rou.specs.Read.{HoldsLabels, and_label, label_seen}
use Rattle.mj_rou.proofs.Labels.{kept_more}
use Rattle.mj_rou.proofs.routine.keep.Goals as goal

pub returns-in-Ok : goal.returns-in-Ok
returns-in-Ok c = λ before h.
    let P : Option (Bor (List ℕ)) → Type 0 = λ q. HoldsLabels (and_label before (label_seen q)) c.insert.new.self in
    subst P (sym c.in-Some.is) (kept_more before c.args.labels.now c.insert.new.self c.in-Some.label c.in-Ok.ensures.updates h)
