use Rattle.std.proofs.Common.{inl, inr}
use Rattle.std.proofs.lemmas.Result.{IfOk-weaker}
use Rattle.mj_inspect.proofs.specials.line_at.Goals as goal

pub returns-in-Some : goal.returns-in-Some
returns-in-Some g c =
    IfOk-weaker c.line_of.result _ _ (λ bytes is. inr (c.in-Some.start.now, c.last_event-last.result, c.in-Some.ensures.some, c.last_event-last.ensures, is)) c.line_of.ensures

pub returns-in-None : goal.returns-in-None
returns-in-None g c = IfOk-weaker c.said.result _ _ (λ bytes is. inl (c.in-None.ensures.none, is)) c.said.ensures
