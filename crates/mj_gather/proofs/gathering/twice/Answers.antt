use Rattle.std.proofs.Common.{◌≡◌, ◌≤◌, ◌+◌, ℕ, List, false, true, drop, refl, sym, ap, ◌∙◌, subst, arith}
use Rattle.std.proofs.lemmas.List.{drop_all, take_rest}
use Rattle.mj_sys.specs.System.{Claimed}
use Rattle.mj_gather.specs.Rans.{Kept}
use Rattle.mj_gather.specs.Gathered.{times_run}
use Rattle.mj_gather.proofs.Starting.{twice_here, twice_later, once_here}
use Rattle.mj_gather.proofs.gathering.twice.Goals as goal

pub returns-then-was_run-clause-some : goal.returns-then-was_run-clause-some
returns-then-was_run-clause-some c =
    let r = c.index-rans-at.result in
    let job : c.job-job.result ≡ r.claim.job = c.job-job.ensures.value ∙ ap (λ (x : Claimed). x.job) c.claim.ensures in
    let P : ℕ → Type 0 = λ j. 1 ≤ times_run (drop (c.loop-at.at + 1) c.args.rans.now) j in
    let Q : List Kept → Type 0 = λ l. 1 ≤ times_run l c.job-job.result in
    let more = subst Q (take_rest c.args.rans.now (c.loop-at.at + 1)) (c.if-was_run.ensures.0 refl) in
    subst (λ (j : ℕ). 2 ≤ times_run c.args.rans.now j) (sym job)
    (c.loop-at.invariant.0 r.claim.job
    (twice_here c.args.rans.now c.loop-at.at r c.loop-at-test.true c.index-rans-at.is (subst P job more)))

pub loop-at-preserved : goal.loop-at-preserved
loop-at-preserved c =
    let r = c.index-rans-at.result in
    let job : c.job-job.result ≡ r.claim.job = c.job-job.ensures.value ∙ ap (λ (x : Claimed). x.job) c.claim.ensures in
    let P : ℕ → Type 0 = λ j. 1 ≤ times_run (drop (c.loop-at.at + 1) c.args.rans.now) j in
    let Q : List Kept → Type 0 = λ l. 1 ≤ times_run l c.job-job.result in
    let e = take_rest c.args.rans.now (c.loop-at.at + 1) in (
      (λ j more. c.loop-at.invariant.0 j (twice_later c.args.rans.now c.loop-at.at r c.loop-at-test.true c.index-rans-at.is j more)),
      (λ once. c.loop-at.invariant.1
          (once_here c.args.rans.now c.loop-at.at r c.loop-at-test.true c.index-rans-at.is
          (λ more. absurd (let no : false ≡ true = c.if-was_run.ensures.1 (subst Q (sym e) (subst P (sym job) more)) in cc)) once)),
    )

pub returns-clause-none : goal.returns-clause-none
returns-clause-none c =
    c.loop-at.invariant.1 (λ job. subst (λ (l : List Kept). times_run l job ≤ 1) (sym (drop_all c.loop-at.at c.args.rans.now c.loop-at-test.false)) (omega arith))
