use Rattle.std.proofs.Common.{true, subst}
use Rattle.mj_debug.specs.Walks.{Walk}
use Rattle.mj_dialogue.proofs.Giving.{kept}
use Rattle.mj_inspect.specs.Shows.{ShowsVariable}
use Rattle.mj_inspect.proofs.Showing.{shown_before}
use Rattle.mj_inspect.proofs.printing.show.Goals as goal

pub returns-in-Ok-clause-ok : goal.returns-in-Ok-clause-ok
returns-in-Ok-clause-ok g c =
    let P : Walk → Type 0 = λ walk. ShowsVariable g.O.Opening.opening walk c.args.job c.args.name.now c.in-Ok.bytes.items in (
      kept c.args.debugger.now c.show.new.self true c.in_ok-show.ensures.ok,
      shown_before c.args.name.now.global g.O.Opening.opening c.args.debugger.now true c.args.job c.args.name.now c.in-Ok.bytes.items
          (subst P c.in_ok-show.ensures.ok c.in-Ok.ensures),
    )
