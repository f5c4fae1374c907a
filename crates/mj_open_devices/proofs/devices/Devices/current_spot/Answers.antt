use Rattle.std.proofs.Common.{◌≡◌, ◌*◌, Some, None, sym, ap, ◌∙◌, subst}
use Rattle.std.specs.List.{position}
use Rattle.mj_text.specs.declared.text.TheConstants.{TEXT_LIMIT}
use Rattle.mj_open_devices.specs.declared.devices.Other.{Other}
use Rattle.mj_open_devices.specs.Opened.{Opened, is_named, IsSpotWithin}
use Rattle.mj_open_devices.proofs.Places.{found_within, within_at}
use Rattle.mj_open_devices.proofs.Known.{spot_there, spot_nowhere}
use Rattle.mj_open_devices.proofs.devices.Devices.current_spot.Goals as goal

pub returns-in-None-place-clause-value : goal.returns-in-None-place-clause-value
returns-in-None-place-clause-value c =
    let s = c.self.inside in
    let name = c.in-Some.name in
    let none : position (is_named name) s.others.items ≡ None = ap (position (is_named name)) (sym c.deref.ensures.value) ∙ sym c.place.ensures ∙ c.in-None-place.is in
    c.new.ensures ∙ spot_nowhere s.principal s.others.items s.current s.writes name c.args.self.now c.self.view_is c.in-Some.is c.self.invariant.beside none

pub returns-in-Some-place-clause-value : goal.returns-in-Some-place-clause-value
returns-in-Some-place-clause-value c =
    let s = c.self.inside in
    let name = c.in-Some.name in
    let x = c.index.result.now in
    let found : position (is_named name) s.others.items ≡ Some c.in-Some-place.at = ap (position (is_named name)) (sym c.deref.ensures.value) ∙ sym c.place.ensures ∙ c.in-Some-place.is in
    ap (λ (y : Other). y.spot) c.index.ensures
    ∙ spot_there s.principal s.others.items s.current s.writes name c.in-Some-place.at x c.args.self.now c.self.view_is c.in-Some.is c.self.invariant.beside found

pub returns-in-Some-place-clause-bound : goal.returns-in-Some-place-clause-bound
returns-in-Some-place-clause-bound c =
    let s = c.self.inside in
    let name = c.in-Some.name in
    let x = c.index.result.now in
    let found : position (is_named name) s.others.items ≡ Some c.in-Some-place.at = ap (position (is_named name)) (sym c.deref.ensures.value) ∙ sym c.place.ensures ∙ c.in-Some-place.is in
    let here : IsSpotWithin (TEXT_LIMIT * s.writes) x.spot =
    subst (λ (y : Other). IsSpotWithin (TEXT_LIMIT * s.writes) y.spot) (sym c.index.ensures)
    (within_at (TEXT_LIMIT * s.writes) s.others.items c.in-Some-place.at x (found_within name s.others.items c.in-Some-place.at x found) c.self.invariant.rest) in
    subst (λ (q : Opened). IsSpotWithin (TEXT_LIMIT * q.writes) x.spot) c.self.view_is here
