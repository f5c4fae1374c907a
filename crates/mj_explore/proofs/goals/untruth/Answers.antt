use Rattle.std.proofs.Common.{◌∙◌, Bool, sym, subst, ap}
use Rattle.mj_store.specs.Questions.{Content}
use Rattle.mj_sys.specs.History.{state_of}
use Rattle.mj_core.specs.Shown.{Shown}
use Rattle.mj_judge.specs.declared.conditions.Verdict.{Verdict}
use Rattle.mj_judge.specs.Marks.{is_over}
use Rattle.mj_script.specs.Scripts.{opening_in}
use Rattle.mj_judge.specs.Judged.{IsJudged}
use Rattle.mj_explore.specs.Found.{EndsJudged}
use Rattle.mj_explore.proofs.Making.{found_so, where_some}
use Rattle.mj_explore.proofs.goals.untruth.Goals as goal

pub returns-in-Some : goal.returns-in-Some
returns-in-Some g c =
    let script = c.args.condition.now in
    let verdict = c.in-Some.verdict in
    let over : Shown → Bool = λ (s : Shown). is_over g.O.Opening.opening s.history in
    let left : Shown → Content = λ (s : Shown). (state_of g.O.Opening.opening s.history).globals in
    let P : Verdict → Type 0 = λ v. IsJudged script (opening_in script c.globals.result.now.content) v in
    let Q : Content → Type 0 = λ content. IsJudged script (opening_in script content) verdict in
    let judged : P verdict = where_some P _ _ c.in-Some.is c.in_ok-verdict.ensures in
    found_so (λ v. EndsJudged script v g.O.Opening.opening c.args.jobs.now.history) verdict c.finding_of.result
    (sym (ap over c.jobs.view_is) ∙ sym c.is_over.ensures ∙ c.if-not-is_over.false, subst Q (c.globals.ensures ∙ ap left c.jobs.view_is) judged)
    c.finding_of.ensures.some
