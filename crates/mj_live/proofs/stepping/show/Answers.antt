use Rattle.std.proofs.Common.{IfSome, subst}
use Rattle.mj_core.specs.Shown.{Shown}
use Rattle.mj_live.specs.Events.{IsShownAt}
use Rattle.mj_live.proofs.stepping.show.Goals as goal

pub returns : goal.returns
returns g c =
    let old = g.W.Write.contents c.args.out.now in
    let new = g.W.Write.contents c.show_event.new.out in
    let P : Shown → Type 0 = λ s. IfSome c.show_event.result (λ behind. IsShownAt s.history c.args.place c.args.session old behind new) in
    subst P c.jobs.view_is c.show_event.ensures
