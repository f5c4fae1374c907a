use Rattle.std.proofs.Common.{sym}
use Rattle.mj_views.proofs.Finding.{found}
use Rattle.mj_views.proofs.view.View.standing.Goals as goal

pub returns : goal.returns
returns c =
    let s = c.in_ok-standing.standing.now in
    sym (found c.self.inside c.args.self.now c.self.view_is c.deref.result.now c.deref.ensures.value c.args.job c.in_ok-at.at c.in_ok-at.ensures.0 c.in_ok-at.ensures.1 s
    c.in_ok-standing.ensures.lookup.3.0 c.in_ok-standing.ensures.lookup.1)
