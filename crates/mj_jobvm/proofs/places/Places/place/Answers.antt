use Rattle.std.specs.Prelude.{slice_get, option_map}
use Rattle.std.specs.List.{slice_index_or}
use Rattle.std.proofs.Common.{◌≡◌, ℕ, List, map, Option, Some, None, sym, ap, ◌∙◌}
use Rattle.mj_frames.specs.Frames.{place_at}
use Rattle.mj_jobvm.specs.Places.{Asked, name_in}
use Rattle.mj_jobvm.proofs.Spots.{spot_got, spot_missed, as_place}
use Rattle.mj_jobvm.proofs.places.Places.place.Goals as goal

pub returns-in_err-number : goal.returns-in_err-number
returns-in_err-number c =
    let s = c.self.inside in
    ap (λ p. place_at p) c.from_residual.ensures
    ∙ spot_missed s.routines.items c.deref.result.now s.spots.items c.args.at c.deref.ensures.value c.in_err-number.ensures.lookup.0
    ∙ ap (λ (a : Asked). slice_index_or a.places c.args.at None) c.self.view_is

pub returns-in_err-routine : goal.returns-in_err-routine
returns-in_err-routine c =
    let s = c.self.inside in
    let spot = c.in_ok-number.field-0.now in
    let told = c.in_ok-number.ensures.lookup in
    ap (λ p. place_at p) c.from_residual-in_err-routine.ensures
    ∙ ap (as_place spot.1) c.in_err-routine.ensures
    ∙ ap (λ routines. as_place spot.1 (name_in routines spot.0)) c.deref-2.ensures.value
    ∙ spot_got s.routines.items c.deref.result.now s.spots.items c.args.at spot c.deref.ensures.value told.0 told.1
    ∙ ap (λ (a : Asked). slice_index_or a.places c.args.at None) c.self.view_is

pub returns : goal.returns
returns c =
    let s = c.self.inside in
    let spot = c.in_ok-number.field-0.now in
    let told = c.in_ok-number.ensures.lookup in
    ap (as_place spot.1) c.in_ok-routine.ensures
    ∙ ap (λ routines. as_place spot.1 (name_in routines spot.0)) c.deref-2.ensures.value
    ∙ spot_got s.routines.items c.deref.result.now s.spots.items c.args.at spot c.deref.ensures.value told.0 told.1
    ∙ ap (λ (a : Asked). slice_index_or a.places c.args.at None) c.self.view_is
