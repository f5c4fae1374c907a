use Rattle.std.proofs.Common.{◌≡◌, ◌∙◌, sym, ap, subst, lit<}
use Rattle.std.proofs.lemmas.Fmt.{decimal_digit}
use Rattle.mj_dev.specs.Shelves.{principal}
use Rattle.mj_core.specs.Runs.{out_of}
use Rattle.mj_core.specs.Shown.{Shown}
use Rattle.mj_judge.specs.Judged.{ShowsVerdict}
use Rattle.mj_judge.proofs.Judging.{shows_verdict}
use Rattle.mj_judge.proofs.conditions.judged_by.Goals as goal

-- the name of the principal device is the spelling of 0
pub returns-clause-shown : goal.returns-clause-shown
returns-clause-shown g c =
    let opening = g.O.Opening.opening in
    let core = c.jobs.inside.core in
    let verdict = c.verdict_by-verdict.result in
    let P : Shown → Type 0 = λ s. ShowsVerdict opening s verdict in
    let name : c.from_number.result ≡ principal = c.from_number.ensures ∙ decimal_digit 0 (lit< tt) in
    let wrote = c.deref.ensures.value ∙ c.in_ok-output.ensures ∙ ap (λ n. out_of core.history 1 n 1) name in
    subst P c.jobs.view_is
    (shows_verdict opening core verdict c.fault_in-fault.result c.is_one.result c.deref.result.now c.len-run.ensures.run
    (sym c.is_over.ensures ∙ c.if-not-is_over.false) wrote c.is_one.ensures c.fault_in-fault.ensures c.verdict_by-verdict.ensures
    (sym c.is_of_device.ensures ∙ c.if-is_of_device.false))
