use Rattle.std.proofs.Common.{List, subst}
use Rattle.std.proofs.lemmas.Result.{IfOk-weaker}
use Rattle.mj_ask.specs.Started.{Started}
use Rattle.mj_inspect.specs.Specials.{ShowsSpecial}
use Rattle.mj_guide.proofs.responding.special.Goals as goal

pub returns : goal.returns
returns g c =
    let walk = c.args.debugger.now in
    IfOk-weaker c.special_line.result _ _
    (λ bytes is.
    (let P : List Started → Type 0 = λ starts. ShowsSpecial walk.core.image starts walk.core.history walk.place c.args.job c.args.of bytes.items in
    subst P c.deref.ensures.value is)) c.special_line.ensures
