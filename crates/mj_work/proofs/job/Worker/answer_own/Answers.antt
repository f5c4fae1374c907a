use Rattle.std.proofs.Common.{◌≡◌, inr, false, Some, refl, sym, ◌∙◌, subst}
use Rattle.std.proofs.lemmas.Option.{same_Some}
use Rattle.mj_ask.specs.declared.ask.Ask.{Ask}
use Rattle.mj_ask.specs.Fits.{is_shared}
use Rattle.mj_jobvm.specs.Jobs.{Running}
use Rattle.mj_core.specs.declared.parts.Made.TheVariants as made
use Rattle.mj_core.proofs.Owning.{own_same}
use Rattle.mj_work.proofs.Telling.{told_made, untold_made, unfit_made, stays_same, stays_on}
use Rattle.mj_work.proofs.job.Worker.answer_own.Goals as goal

pub loop-init : goal.loop-init
loop-init g c = (tt, tt, refl, stays_same g.A.Answerer.answering c.args.answerer.now)

pub talk-requires : goal.talk-requires
talk-requires g c =
    let P : Running → Type 0 = λ j. (a : Ask) × (j.run.pending ≡ Some a) × (is_shared a ≡ false) in
    record { asks = subst P (sym c.loop.invariant.2) c.requires.asks }

pub returns-in_default : goal.returns-in_default
returns-in_default g c = λ a claim is.
    let err = c.in_default.ensures.err in
    (tt, refl, err.1 ∙ c.loop.invariant.2, stays_on g.A.Answerer.answering c.args.answerer.now c.loop.answerer c.talk.new.answerer c.loop.invariant.3 err.2)

pub returns-in-Event : goal.returns-in-Event
returns-in-Event g c = λ a claim is.
    let ans = g.A.Answerer.answering in
    told_made ans g.O.Opening.opening a claim c.args.job.now c.args.answerer.now (Unit {0}) c.is_job_late-late.result _ c.loop.job c.loop.answerer c.talk.new.answerer
    c.talk.new.job tt c.in-Ok.made c.in-Event.is c.in-Ok.ensures.ok c.loop.invariant.2 is
    (λ image own. c.talk.ensures.own image claim (own_same ans image claim c.args.job.now c.args.answerer.now own c.loop.job c.loop.answerer c.loop.invariant.2 c.loop.invariant.3))

pub returns-in_default-made : goal.returns-in_default-made
returns-in_default-made g c = λ a claim is.
    let ans = g.A.Answerer.answering in
    let still = untold_made ans c.is_job_late-late.result _ c.loop.job c.loop.answerer c.talk.new.answerer c.talk.new.job
    c.in-Ok.made c.in_default-made.not-Event c.in-Ok.ensures.ok in
    let S : Ask → Type 0 = λ b. is_shared b ≡ false in
    let own = subst S (same_Some c.requires.asks.0 a (sym c.requires.asks.1 ∙ is)) c.requires.asks.2 in
    let unfit = unfit_made ans g.O.Opening.opening a claim c.args.job.now c.args.answerer.now c.is_job_late-late.result c.loop.job c.loop.answerer c.talk.new.answerer
    c.talk.new.job c.in-Ok.made c.in_default-made.not-Event c.in_default-made.not-NotYet c.in-Ok.ensures.ok c.loop.invariant.2 is c.loop.invariant.3 in (
      inr (own, unfit),
      refl,
      still.0 ∙ c.loop.invariant.2,
      stays_on ans c.args.answerer.now c.loop.answerer c.talk.new.answerer c.loop.invariant.3 still.1,
    )

pub loop-preserved : goal.loop-preserved
loop-preserved g c =
    let ans = g.A.Answerer.answering in
    let still = untold_made ans c.is_job_late-late.result _ c.loop.job c.loop.answerer
    c.talk.new.answerer c.talk.new.job c.in-Ok.made (λ e. let no : made.NotYet ≡ made.Event = sym c.in-NotYet.is ∙ e in cc) c.in-Ok.ensures.ok in
    (tt, tt, still.0 ∙ c.loop.invariant.2, stays_on ans c.args.answerer.now c.loop.answerer c.talk.new.answerer c.loop.invariant.3 still.1)
