use Rattle.std.proofs.Common.{◌≡◌, ◌-◌, ◌<◌, ◌∙◌, ℕ, refl, sym, subst, arith}
use Rattle.mj_frames.specs.Frames.{place_at}
use Rattle.mj_load.specs.Image.{program_of}
use Rattle.mj_core.specs.Shown.{Shown}
use Rattle.mj_core.specs.Runs.{IsAskedFrom}
use Rattle.mj_inspect.specs.Spots.{CameFrom}
use Rattle.mj_inspect.proofs.Asking.{came_none, came_from}
use Rattle.mj_inspect.proofs.spots.spot_at.Goals as goal

pub returns-then-place-eq0 : goal.returns-then-place-eq0
returns-then-place-eq0 g c =
    let walk = c.args.debugger.now in
    came_none (program_of walk.core.image) g.O.Opening.opening walk.core.history walk.place (sym c.place-place.ensures.value ∙ c.if-place-eq0.true)

pub returns : goal.returns
returns g c =
    let walk = c.args.debugger.now in
    let before = c.place-place.result in
    let at = place_at c.place_of.result in
    let more : 0 < before = omega (arith, c.if-place-eq0.false) in
    let P : Shown → Type 0 = λ core. IsAskedFrom (program_of core.image) g.O.Opening.opening core.history (before - 1) at in
    let Q : ℕ → Type 0 = λ place. CameFrom (program_of walk.core.image) g.O.Opening.opening walk.core.history place at in
    subst Q c.place-place.ensures.value
    (came_from (program_of walk.core.image) g.O.Opening.opening walk.core.history before (before - 1) at more refl (subst P c.core.ensures c.place_of.ensures))
