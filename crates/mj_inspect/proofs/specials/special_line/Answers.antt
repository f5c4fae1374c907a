use Rattle.std.proofs.Common.{ℕ, subst}
use Rattle.std.proofs.lemmas.Result.{IfOk-weaker}
use Rattle.mj_core.specs.Shown.{Shown}
use Rattle.mj_inspect.specs.Specials.{ShowsSpecial}
use Rattle.mj_inspect.proofs.specials.special_line.Goals as goal

pub returns : goal.returns
returns g c =
    let starts = c.args.starts.now in
    IfOk-weaker c.line_at.result _ _
    (λ bytes is.
    (let P : Shown → Type 0 = λ core. ShowsSpecial core.image starts core.history c.args.debugger.now.place c.args.number c.args.special bytes.items in
    let Q : ℕ → Type 0 = λ place. ShowsSpecial c.core.result.now.image starts c.core.result.now.history place c.args.number c.args.special bytes.items in
    subst P c.core.ensures (subst Q c.place.ensures.value is))) c.line_at.ensures
