use Rattle.std.proofs.Common.{sym, subst}
use Rattle.mj_ask.specs.declared.ask.Reply.TheVariants as replies
use Rattle.mj_dev.specs.Heard.{Heard}
use Rattle.mj_sys.specs.declared.served.Served.{Served}
use Rattle.mj_core.specs.Ties.{IsJobOf, CanBeTold, TakesUp, claim_behind}
use Rattle.mj_core.proofs.Owning.{own_share}
use Rattle.mj_core.proofs.Stepping.{no_device}
use Rattle.mj_core.proofs.parts.take_up.Goals as goal

pub take_reply-requires : goal.take_reply-requires
take_reply-requires g c =
    let r = c.requires.told in
    let C : Served Heard → Type 0 = λ s. CanBeTold g.A.Answerer.answering c.args.answerer.now r.0 c.args.place s in
    record { told = (r.0, r.1, r.2, subst C c.in-Reply.is r.3) }

pub returns-in-Reply-clause-told : goal.returns-in-Reply-clause-told
returns-in-Reply-clause-told g c = λ a pending.
    let x = c.args.answerer.now in
    let T : Served Heard → Type 0 = λ s. TakesUp g.A.Answerer.answering c.args.job.now x a s c.take_reply.new.job x in
    subst T (sym c.in-Reply.is) (c.take_reply.ensures.told a pending)

pub returns-in-Reply-clause-own : goal.returns-in-Reply-clause-own
returns-in-Reply-clause-own g c = λ image claim own.
    let x = c.args.answerer.now in
    let G : Served Heard → Type 0 = λ s. IsJobOf g.A.Answerer.answering image (claim_behind claim s) c.take_reply.new.job x in
    subst G (sym c.in-Reply.is) (c.take_reply.ensures.own image claim own)

pub returns-in-Ready-clause-own : goal.returns-in-Ready-clause-own
returns-in-Ready-clause-own g c = λ image claim own.
    let ans = g.A.Answerer.answering in
    let r = c.requires.told in
    let log = c.args.job.now.run.log in
    let G : Served Heard → Type 0 = λ s. IsJobOf ans image (claim_behind claim s) c.answer.new.self c.open.new.self in
    subst G (sym c.in-Opened.is)
    (own_share ans image claim c.args.job.now c.args.answerer.now own c.answer.new.self c.open.new.self r.0 replies.Got
    (c.answer.ensures.log r.0 r.1, c.answer.ensures.run, c.answer.ensures.spent, c.answer.ensures.pending, c.answer.ensures.state)
    (λ of. ans.silent c.open.new.self log r.0 replies.Got (no_device r.0 r.2) (c.open.ensures.of log of)) r.2)
