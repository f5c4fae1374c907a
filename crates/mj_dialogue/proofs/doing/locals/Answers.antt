use Rattle.std.proofs.Common.{true, refl, subst}
use Rattle.mj_debug.specs.Walks.{Walk}
use Rattle.mj_dialogue.specs.Says.{ShowsLocals}
use Rattle.mj_dialogue.proofs.Giving.{kept}
use Rattle.mj_dialogue.proofs.doing.locals.Goals as goal

pub returns-in-Ok-clause-ok : goal.returns-in-Ok-clause-ok
returns-in-Ok-clause-ok g c =
    let P : Walk → Type 0 = λ walk. ShowsLocals g.O.Opening.opening walk c.args.job c.in-Ok.bytes.items in
    (kept c.args.debugger.now c.show.new.self true c.in_ok-show.ensures.ok, subst P c.in_ok-show.ensures.ok c.in-Ok.ensures, refl)
