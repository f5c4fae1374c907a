use Rattle.std.proofs.Common.{◌≡◌, Some, refl, sym, ap, ◌∙◌}
use Rattle.std.specs.Prelude.{option_copied}
use Rattle.mj_ask.specs.declared.ask.Ask.TheVariants as asks
use Rattle.mj_ask.specs.declared.ask.Reply.TheVariants as replies
use Rattle.mj_core.proofs.Owning.{own_talk}
use Rattle.mj_core.proofs.Owned.{talk_own}
use Rattle.mj_core.proofs.parts.talk.Goals as goal

pub returns-in-Device-clause-own : goal.returns-in-Device-clause-own
returns-in-Device-clause-own g c =
    talk_own g.A.Answerer.answering c.args.job.now c.call_device.new.job c.args.answerer.now c.call_device.new.answerer c.requires.asks.0 c.requires.asks.1 c.args.late (option_copied c.args.given)
    c.call_device.result c.requires.asks.2 c.call_device.ensures.ok c.call_device.ensures.err

pub returns-in-Rest-clause-ok : goal.returns-in-Rest-clause-ok
returns-in-Rest-clause-ok g c =
    let ans = g.A.Answerer.answering in
    let log = c.args.job.now.run.log in
    let rest = asks.Rest c.in-Rest.field-0 in
    let pending : c.args.job.now.run.pending ≡ Some rest = sym c.in-Some.ensures ∙ ap Some c.in-Rest.is in (
      rest,
      pending,
      (
        replies.Done,
        refl,
        (λ is. (let no : replies.Done ≡ replies.Late = is in cc)),
        (c.answer.ensures.log rest pending, c.answer.ensures.run, c.answer.ensures.spent, c.answer.ensures.pending, c.answer.ensures.state),
        (λ of. ans.silent c.args.answerer.now log rest replies.Done refl of),
        (λ s name has held. held),
        (λ of. ans.means.of_no_device log (option_copied c.args.given) rest c.args.late replies.Done refl),
      ),
    )

pub returns-in-Rest-clause-own : goal.returns-in-Rest-clause-own
returns-in-Rest-clause-own g c = λ image claim own.
    let ans = g.A.Answerer.answering in
    let rest = asks.Rest c.in-Rest.field-0 in
    let pending : c.args.job.now.run.pending ≡ Some rest = sym c.in-Some.ensures ∙ ap Some c.in-Rest.is in
    own_talk ans image claim c.args.job.now c.args.answerer.now own c.answer.new.self c.args.answerer.now rest replies.Done
    (c.answer.ensures.log rest pending, c.answer.ensures.run, c.answer.ensures.spent, c.answer.ensures.pending, c.answer.ensures.state)
    (λ of. ans.silent c.args.answerer.now c.args.job.now.run.log rest replies.Done refl of) refl
