use Rattle.std.proofs.Common.{ℕ, List, subst}
use Rattle.std.proofs.lemmas.Result.{IfOk-weaker}
use Rattle.mj_inspect.specs.Waits.{numbered}
use Rattle.mj_inspect.specs.Stands.{Puts}
use Rattle.mj_inspect.proofs.Putting.{puts_waits}
use Rattle.mj_inspect.proofs.waiting.waits_at.Goals as goal

pub returns : goal.returns
returns g c =
    let core = c.args.core.now in
    let mid = c.put_first.new.bytes.items in
    let P : List ℕ → Type 0 = λ old. Puts core.image core.history c.args.place (numbered 1 c.args.starts.now) old mid in
    IfOk-weaker c.or_nothing.result _ _
    (λ bytes is.
    puts_waits core.image core.history c.args.place c.args.starts.now c.put_started.new.bytes.items mid bytes.items
    (subst P c.new-bytes.ensures.items c.in_ok-put_first.ensures) c.in_ok-put_started.ensures is) c.or_nothing.ensures
