use Rattle.std.proofs.Common.{◌≡◌, Option, Some, refl, sym, ◌∙◌, subst, inl, inr}
use Rattle.std.specs.Prelude.{IfSome}
use Rattle.mj_ask.specs.declared.ask.Reply.{Reply}
use Rattle.mj_sessions.specs.declared.answer.Answer.TheVariants as answers
use Rattle.mj_sessions.specs.Events.{Log}
use Rattle.mj_expect.specs.Heeds.{Heeds}
use Rattle.mj_core.specs.Answering.{Answers}
use Rattle.mj_core.specs.ByRecord.{by_record}
use Rattle.mj_core.specs.Recorded.{IsHeard}
use Rattle.mj_core.proofs.Hearing.{in_time}
use Rattle.mj_core.proofs.by_record.hear.Goals as goal

pub returns-then-not-fits : goal.returns-then-not-fits
returns-then-not-fits c =
    ((λ s log has all held. (c.requires, inl (sym c.fits.ensures ∙ c.if-not-fits.true), tt)), ((λ log all. all), (λ name has held. held)))

pub returns-then-is_early : goal.returns-then-is_early
returns-then-is_early c =
    ((λ s log has all held. (c.requires, inr (inl (sym c.is_early.ensures ∙ c.if-is_early.true)), tt)), ((λ log all. all), (λ name has held. held)))

pub returns-in-Err : goal.returns-in-Err
returns-in-Err c = ((λ log all. all), (λ name has held. held))

pub returns-in-Ok-None : goal.returns-in-Ok-None
returns-in-Ok-None c =
    let H : Log → Option (Heeds × Reply) → Type 0 = λ l f. IsHeard l c.args.ask.now c.args.reply.now f in (
      (λ s log has all held. (c.requires, inr (inr (subst (H log) c.in-Ok-None.field-0-is (c.in-Ok-None.ensures.heard log all))), tt)),
      ((λ log all. all), (λ name has held. held)),
    )

pub returns-in-Ok-Some : goal.returns-in-Ok-Some
returns-in-Ok-Some c =
    let S : Option (Heeds × Reply) → Type 0 = λ f. IfSome f (λ h. h.1 ≡ c.args.reply.now) in
    let copied : c.in-Ok-Some.told ≡ c.args.reply.now = subst S c.in-Ok-Some.field-0-is c.in-Ok-Some.ensures.told in
    let H : Log → Option (Heeds × Reply) → Type 0 = λ l f. IsHeard l c.args.ask.now c.args.reply.now f in
    let G : Reply → Type 0 = λ r. Answers by_record c.args.heeds.now c.args.ask.now c.args.late (Some c.args.reply.now) (answers.Told r) c.in-Ok-Some.heard in
    subst G (sym copied) (
      sym c.fits.ensures ∙ c.if-not-fits.false,
      in_time c.args.ask.now c.args.late c.args.reply.now (sym c.is_early.ensures ∙ c.if-is_early.false),
      (λ log all. subst (H log) c.in-Ok-Some.field-0-is (c.in-Ok-Some.ensures.heard log all)),
      (λ s name has held. held),
      (λ log all. ((λ of. refl), tt)),
    )
