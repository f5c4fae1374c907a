use Rattle.std.proofs.Common.{◌≡◌, ◌++◌, ◌∷◌, [], ◌+◌, Option, Some, ap, ◌∙◌, subst}
use Rattle.std.specs.Prelude.{IfSome}
use Rattle.mj_ask.specs.Started.{Started}
use Rattle.mj_dev.specs.Heard.{Heard}
use Rattle.mj_jobs.specs.Rows.{Row, row_at}
use Rattle.mj_sys.specs.History.{state_of, log_of}
use Rattle.mj_sys.specs.System.{Claimed}
use Rattle.mj_replica.proofs.Admitting.{started}
use Rattle.mj_replica.proofs.replaying.start_next.Goals as goal

pub returns-clause-staged : goal.returns-clause-staged
returns-clause-staged g c = λ history staged.
    let opening = g.O.Opening.opening in
    let old = c.args.system.now in
    let new = c.claim.new.self in
    let C : Type 0 = Claimed × Heard in
    let S : Option C → Type 0 = λ o. IfSome o (λ x. (x.0.job ≡ old.claimed + 1) × (new.claimed ≡ old.claimed + 1)) in
    let R : Option C → Type 0 = λ o. IfSome o (λ x. (row : Row) × (row_at (state_of opening old.history).rows x.0.job ≡ Some row) × (row.start ≡ x.0.start)) in
    let F : Option C → Type 0 = λ o. IfSome o (λ x. (x.0.events ≡ 0) × (log_of x.0.job old.history ≡ [])) in
    let some = subst S c.in-Some.is c.in_ok-claim.ensures.some in
    let row = subst R c.in-Some.is c.in_ok-claim.ensures.start in
    let fresh = subst F c.in-Some.is c.in_ok-claim.ensures.fresh in
    let start = c.in_ok-try_clone.ensures ∙ c.start.ensures in
    started c.args.image.now opening old new c.args.jobs.now.items c.push_reserved.new.self.items c.in-Some.claim c.claim.ensures.history some.1 some.0 fresh.0 row
    c.job.result c.into_parts-entry.result.0 c.into_parts-entry.result.1.items c.job.ensures.value
    (c.into_parts-entry.ensures.entry ∙ ap (λ (s : Started). s.entry) start) (c.into_parts-entry.ensures.values ∙ ap (λ (s : Started). s.values) start)
    c.start-job.result c.start-job.ensures.opening c.start-job.ensures.run c.new.result c.new.ensures
    (c.push_reserved.ensures.items ∙ ap (λ l. l ++ record { claim = c.in-Some.claim; job = c.start-job.result; heeds = c.new.result } ∷ []) c.in_ok-reserve.ensures.items)
    history staged
