use Rattle.std.proofs.Common.{◌≡◌, ◌∙◌, ℕ, List, subst, lit<}
use Rattle.std.proofs.lemmas.Fmt.{decimal_digit}
use Rattle.std.specs.Prelude.{IfOk}
use Rattle.mj_core.specs.Runs.{out_of}
use Rattle.mj_report.proofs.outputs.taken.Goals as goal

-- the name of the principal device is the spelling of 0
pub returns : goal.returns
returns g c =
    let P : List ℕ → Type 0 = λ name. IfOk c.taken_by-2.result (λ bytes. bytes.items ≡ out_of (g.H.Events.history c.args.told.now) c.args.job name 1) in
    subst P (c.from_number.ensures ∙ decimal_digit 0 (lit< tt)) c.taken_by-2.ensures
