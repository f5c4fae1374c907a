use Rattle.std.proofs.Common.{map, ap, ◌∙◌}
use Rattle.mj_jobvm.specs.Places.{Asked, spot_in}
use Rattle.mj_jobvm.proofs.Spots.{spots_more}
use Rattle.mj_jobvm.proofs.places.Places.note.Goals as goal

pub returns-in_err-next-clause-places : goal.returns-in_err-next-clause-places
returns-in_err-next-clause-places c =
    let s = c.self.inside in
    ap (map (spot_in c.spot_of.new.routines.items)) c.reserve.ensures.items
    ∙ spots_more s.routines.items c.spot_of.new.routines.items s.spots.items c.spot_of.ensures.more c.self.invariant.0 ∙ ap (λ (a : Asked). a.places) c.self.view_is

pub returns-clause-places : goal.returns-clause-places
returns-clause-places c =
    let s = c.self.inside in
    ap (map (spot_in c.spot_of.new.routines.items)) c.reserve.ensures.items
    ∙ spots_more s.routines.items c.spot_of.new.routines.items s.spots.items c.spot_of.ensures.more c.self.invariant.0 ∙ ap (λ (a : Asked). a.places) c.self.view_is
