use Rattle.std.proofs.Common.{◌≡◌, ℕ, List, Option, None, subst}
use Rattle.std.specs.Borrow.{Bor}
use Rattle.std.proofs.lemmas.Result.{IfOk-weaker}
use Rattle.mj_frames.specs.Frames.{place_at}
use Rattle.mj_load.specs.Image.{program_of}
use Rattle.mj_inspect.specs.Spots.{CameFrom}
use Rattle.mj_guide.proofs.responding.source_here.Goals as goal

pub returns-in-Some : goal.returns-in-Some
returns-in-Some g c =
    let walk = c.args.debugger.now in
    let P : Option (Bor (List ℕ) × ℕ) → Type 0 = λ spot. CameFrom (program_of walk.core.image) g.O.Opening.opening walk.core.history walk.place (place_at spot) in
    IfOk-weaker c.around.result _ _ (λ bytes is. (_, subst P c.in-Some.is c.spot_at.ensures, is)) c.around.ensures

pub returns-in-None : goal.returns-in-None
returns-in-None g c =
    let walk = c.args.debugger.now in
    let P : Option (Bor (List ℕ) × ℕ) → Type 0 = λ spot. CameFrom (program_of walk.core.image) g.O.Opening.opening walk.core.history walk.place (place_at spot) in
    IfOk-weaker c.said.result _ _ (λ bytes is. (None, subst P c.in-None.is c.spot_at.ensures, is)) c.said.ensures
