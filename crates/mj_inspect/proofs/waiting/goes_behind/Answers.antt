use Rattle.std.proofs.Common.{◌≡◌, ◌∙◌, true, false, inl, inr, sym}
use Rattle.std.proofs.lemmas.Result.{IfOk-weaker}
use Rattle.mj_inspect.proofs.waiting.goes_behind.Goals as goal

pub returns-then-is_over-clause-on : goal.returns-then-is_over-clause-on
returns-then-is_over-clause-on c = λ start told is on. absurd (let no : false ≡ true = on in cc)

pub returns-then-is_over-clause-cut : goal.returns-then-is_over-clause-cut
returns-then-is_over-clause-cut c = λ start told is off. inl (sym c.is_over.ensures ∙ c.if-is_over.true)

pub returns-clause-cut : goal.returns-clause-cut
returns-clause-cut c = λ start told is. IfOk-weaker c.tell.result _ _ (λ on lost off. inr (lost off)) (c.tell.ensures.lost start told is)
