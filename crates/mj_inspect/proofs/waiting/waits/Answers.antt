use Rattle.std.proofs.Common.{ℕ, subst}
use Rattle.std.proofs.lemmas.Result.{IfOk-weaker}
use Rattle.mj_core.specs.Shown.{Shown}
use Rattle.mj_inspect.specs.Waits.{TellsWaits}
use Rattle.mj_inspect.proofs.waiting.waits.Goals as goal

pub returns : goal.returns
returns g c =
    IfOk-weaker c.waits_at.result _ _
    (λ bytes is.
    (let P : Shown → Type 0 = λ core. TellsWaits core.image c.args.starts.now core.history c.args.debugger.now.place bytes.items in
    let Q : ℕ → Type 0 = λ place. TellsWaits c.core.result.now.image c.args.starts.now c.core.result.now.history place bytes.items in
    subst P c.core.ensures (subst Q c.place.ensures.value is))) c.waits_at.ensures
