use Rattle.std.proofs.Common.{◌≡◌, ap, ◌∙◌}
use Rattle.std.proofs.lemmas.Option.{same_Some}
use Rattle.mj_gather.specs.Rans.{is_halt}
use Rattle.mj_work.proofs.Telling.{err_is, answered_ok, answered_err}
use Rattle.mj_work.proofs.job.Worker.answer.Goals as goal

pub returns-in_err-answer_ask-clause-answered : goal.returns-in_err-answer_ask-clause-answered
returns-in_err-answer_ask-clause-answered g c = λ a is.
    answered_err g.A.Answerer.answering g.O.Opening.opening a c.args.claim.now c.answer_ask.new.claim c.args.job.now c.answer_ask.new.job c.args.answerer.now c.answer_ask.new.answerer
    c.answer_ask.result (c.answer_ask.ensures a is) c.in_err-answer_ask.field-0.0 c.from_residual.result c.in_err-answer_ask.was
    (err_is c.from_residual.result c.in_err-answer_ask.field-0.0 c.from_residual.ensures.1)

pub returns-clause-answered : goal.returns-clause-answered
returns-clause-answered g c = λ a is.
    answered_ok g.A.Answerer.answering g.O.Opening.opening a c.args.claim.now c.answer_ask.new.claim c.args.job.now c.answer_ask.new.job c.args.answerer.now c.answer_ask.new.answerer
    c.answer_ask.result (c.answer_ask.ensures a is) _ c.is_halt-halts.result c.in_ok-answer_ask.was

pub returns-clause-halts : goal.returns-clause-halts
returns-clause-halts g c = λ a is.
    let same : c.in-Some.ask.now ≡ a = same_Some c.in-Some.ask.now a (c.in-Some.ensures ∙ is) in
    c.is_halt-halts.ensures ∙ ap is_halt same
