use Rattle.std.proofs.Common.{List, subst}
use Rattle.std.proofs.lemmas.Result.{IfOk-weaker}
use Rattle.mj_ask.specs.Started.{Started}
use Rattle.mj_inspect.specs.Waits.{TellsWaits}
use Rattle.mj_guide.proofs.responding.waiting.Goals as goal

pub returns : goal.returns
returns g c =
    let walk = c.args.debugger.now in
    IfOk-weaker c.waits.result _ _
    (λ bytes is.
    (let P : List Started → Type 0 = λ starts. TellsWaits walk.core.image starts walk.core.history walk.place bytes.items in
    subst P c.deref.ensures.value is)) c.waits.ensures
