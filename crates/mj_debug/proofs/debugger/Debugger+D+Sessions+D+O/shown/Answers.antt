use Rattle.std.specs.Prelude.{option_copied}
use Rattle.std.proofs.Common.{◌≡◌, true, Some, None, sym, ap, ◌∙◌, subst}
use Rattle.mj_views.specs.Views.{view_at}
use Rattle.mj_replica.specs.Views.{view_of, IsView}
use Rattle.mj_debug.specs.Walks.{Walk, front, is_ready}
use Rattle.mj_debug.proofs.Showing.{run_shows, no_run}
use Rattle.mj_debug.proofs.debugger.Debugger+D+Sessions+D+O.shown.Goals as goal

pub returns-in-Some-clause-view : goal.returns-in-Some-clause-view
returns-in-Some-clause-view g c =
    let seen : view_at c.self.inside.views c.self.inside.place ≡ Some c.in-Some.view.now = sym c.at.ensures ∙ ap option_copied c.in-Some.is in
    let P : Walk → Type 0 = λ w. IsView w.core.image g.O.Opening.opening (front w) c.in-Some.view.now in
    subst P c.self.view_is (c.self.invariant.4 c.self.inside.place c.in-Some.view.now seen).1

pub at_hand-requires : goal.at_hand-requires
at_hand-requires g c =
    let none : view_at c.self.inside.views c.self.inside.place ≡ None = sym c.at.ensures ∙ ap option_copied c.in_default.is in
    let ready : is_ready c.self.inside.place c.self.inside.views c.self.inside.replica ≡ true = ap (λ (w : Walk). w.ready) c.self.view_is ∙ c.requires in
    no_run c.self.inside.place c.self.inside.views c.self.inside.replica none ready

pub returns-clause-replica : goal.returns-clause-replica
returns-clause-replica g c =
    let opening = g.O.Opening.opening in
    let none : view_at c.self.inside.views c.self.inside.place ≡ None = sym c.at.ensures ∙ ap option_copied c.in_default.is in
    let ready : is_ready c.self.inside.place c.self.inside.views c.self.inside.replica ≡ true = ap (λ (w : Walk). w.ready) c.self.view_is ∙ c.requires in
    let P : Walk → Type 0 = λ w. IsView w.core.image opening (front w) (view_of opening c.at_hand.result.now) in
    subst P c.self.view_is
    (run_shows c.self.inside.core.image opening c.self.inside.core.history c.self.inside.place c.self.inside.views c.self.inside.replica c.at_hand.result.now c.self.invariant.3
    c.at_hand.ensures none ready)
