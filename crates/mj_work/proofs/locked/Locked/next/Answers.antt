use Rattle.std.proofs.Common.{ap, sym, ◌∙◌, ◌≤◌, subst}
use Rattle.mj_jobs.specs.Rows.{rows_limit}
use Rattle.mj_sys.specs.System.{Recorded}
use Rattle.mj_work.proofs.locked.Locked.next.Goals as goal

pub invariant_of-self-in-Ok-None-clause-counted : goal.invariant_of-self-in-Ok-None-clause-counted
invariant_of-self-in-Ok-None-clause-counted g c =
    c.args.self.now.counted ∙ ap (λ (r : Recorded). r.claimed) (sym (rw c.in-Ok-None.field-0-is at c.in-Ok-None.ensures.none).0)

pub invariant_of-self-in-Ok-None-clause-few : goal.invariant_of-self-in-Ok-None-clause-few
invariant_of-self-in-Ok-None-clause-few g c =
    let P : Recorded → Type 0 = λ r. r.claimed ≤ rows_limit in
    subst P (sym (rw c.in-Ok-None.field-0-is at c.in-Ok-None.ensures.none).0) c.args.self.now.few
