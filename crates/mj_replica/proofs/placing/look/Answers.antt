use Rattle.std.proofs.Common.{◌≡◌, ◌∙◌, Bool, true, Option, Some, sym, ap, subst}
use Rattle.std.specs.Prelude.{◌↔◌, IsTrue}
use Rattle.mj_ask.specs.declared.noted.Noted.{Noted}
use Rattle.mj_ask.specs.declared.noted.Spot.{Spot}
use Rattle.mj_replica.specs.declared.walking.Sought.{Sought}
use Rattle.mj_replica.specs.Placed.{spot_place, place_in}
use Rattle.mj_replica.specs.Walks.{Looks}
use Rattle.mj_replica.proofs.Seeking.{looked, looked_all}
use Rattle.mj_replica.proofs.placing.look.Goals as goal

pub returns-in-Recorded : goal.returns-in-Recorded
returns-in-Recorded c =
    let jobs = c.args.jobs.now in
    let e : Noted = c.args.event.now in
    let P : Option Spot → Type 0 = λ s. IsTrue c.came_from.result ↔ (place_in jobs e.job ≡ Some (spot_place s)) in
    let W : Sought → Type 0 = λ w. Looks w jobs e c.args.found.now.items c.came_from.result c.args.found.now.items in
    subst W (sym c.in-Recorded.is)
    (looked jobs e c.args.found.now.items c.args.found.now.items c.came_from.result (subst P c.as_ref.ensures.value c.came_from.ensures))

pub returns-in_ok-push-in-All : goal.returns-in_ok-push-in-All
returns-in_ok-push-in-All c =
    let W : Sought → Type 0 = λ w. Looks w c.args.jobs.now c.args.event.now c.args.found.now.items true c.push.new.self.items in
    subst W (sym c.in-All.is)
    (looked_all c.args.jobs.now c.args.event.now c.in_ok-noted-in-All.noted c.args.found.now.items c.push.new.self.items c.in_ok-spot-in-All.spot c.in_ok-noted-in-All.ensures
    c.in_ok-push-in-All.ensures.items c.in_ok-spot-in-All.ensures)
