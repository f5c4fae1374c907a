use Rattle.std.proofs.Common.{refl, sym, ◌∙◌, ap, ◌≡◌, ℕ, subst, true, false}
use Rattle.mj_sys.specs.System.{Claimed}
use Rattle.mj_sys.specs.History.{state_of}
use Rattle.mj_gather.specs.Gathered.{StartDiffers}
use Rattle.mj_gather.specs.Found.{IsSound}
use Rattle.mj_gather.proofs.Starting.{differs_here, differs_later, sound_here, sound_end}
use Rattle.mj_gather.proofs.gathering.start_differs.Goals as goal

pub returns-then-not-starts_so-clause-some : goal.returns-then-not-starts_so-clause-some
returns-then-not-starts_so-clause-some g c =
    let rows = (state_of g.O.Opening.opening c.args.system.now.history).rows in
    let r = c.ran-item.result in
    let none = c.if-not-starts_so.ensures.starts in
    let P : ℕ → Type 0 = λ job. StartDiffers rows c.args.rans.now job in
    let is : r.claim.job ≡ c.job.result = sym (c.job.ensures.value ∙ ap (λ (x : Claimed). x.job) c.claim.ensures) in
    subst P is
    (c.loop-ran.invariant.0 r.claim.job
    (differs_here c.args.rans.now c.loop-ran.ran-index r c.loop-ran-test.true c.ran-item.is rows (λ s. absurd (let never : false ≡ true = none.1 s in cc))))

pub loop-ran-preserved : goal.loop-ran-preserved
loop-ran-preserved g c =
    let rows = (state_of g.O.Opening.opening c.args.system.now.history).rows in
    let r = c.ran-item.result in
    let sound : IsSound rows r = record { starts = c.if-not-starts_so.ensures.starts.0 refl; ran = c.if-not-starts_so.ensures.ran; placed = c.if-not-starts_so.ensures.places } in (
      (λ job later. c.loop-ran.invariant.0 job (differs_later c.args.rans.now c.loop-ran.ran-index r c.loop-ran-test.true c.ran-item.is rows job later)),
      (λ all. c.loop-ran.invariant.1 (sound_here c.args.rans.now c.loop-ran.ran-index r c.loop-ran-test.true c.ran-item.is rows sound all)),
    )

pub returns-clause-none : goal.returns-clause-none
returns-clause-none g c =
    c.loop-ran.invariant.1
    (sound_end (state_of g.O.Opening.opening c.args.system.now.history).rows c.args.rans.now c.loop-ran.ran-index c.loop-ran-test.false)
