use Rattle.std.proofs.Common.{◌≡◌, ◌*◌, true, Some, None, sym, ap, ◌∙◌, subst}
use Rattle.std.specs.List.{position}
use Rattle.mj_text.specs.declared.text.TheConstants.{TEXT_LIMIT}
use Rattle.mj_semantics.specs.State.{OpenDevice}
use Rattle.mj_open_devices.specs.declared.devices.Other.{Other}
use Rattle.mj_open_devices.specs.Opened.{other_of, is_named, IsSpotWithin}
use Rattle.mj_open_devices.proofs.Places.{found_changed, found_within, absent_same, within_set, within_at, beside, failed_at}
use Rattle.mj_open_devices.proofs.devices.Devices.fail_current.Goals as goal

pub invariant_of-self-in-Some-place : goal.invariant_of-self-in-Some-place
invariant_of-self-in-Some-place c =
    let s = c.self.inside in
    let os = s.others.items in
    let x = c.index_mut-other.result.now in
    let found : position (is_named c.in-Some.name) os ≡ Some c.in-Some-place.at =
    ap (position (is_named c.in-Some.name)) (sym c.deref.ensures.value) ∙ sym c.place.ensures ∙ c.in-Some-place.is in
    let here : IsSpotWithin (TEXT_LIMIT * s.writes) x.spot =
    subst (λ (y : Other). IsSpotWithin (TEXT_LIMIT * s.writes) y.spot) (sym c.index_mut-other.ensures.value)
    (within_at (TEXT_LIMIT * s.writes) os c.in-Some-place.at x (found_within c.in-Some.name os c.in-Some-place.at x found) c.self.invariant.rest) in
    record {
      first = c.self.invariant.first;
      rest = within_set (TEXT_LIMIT * s.writes) os c.in-Some-place.at _ here c.self.invariant.rest;
      beside = c.self.invariant.beside;
    }

pub returns-in-Some-place : goal.returns-in-Some-place
returns-in-Some-place c =
    let s = c.self.inside in
    let os = s.others.items in
    let x = c.index_mut-other.result.now in
    let f : OpenDevice → OpenDevice = λ d. record d { failed = true } in
    let found : position (is_named c.in-Some.name) os ≡ Some c.in-Some-place.at =
    ap (position (is_named c.in-Some.name)) (sym c.deref.ensures.value) ∙ sym c.place.ensures ∙ c.in-Some-place.is in
    failed_at s.principal os _ s.current s.writes c.args.self.now c.self.view_is
    (beside s.principal os _ s.current c.in-Some.name f c.in-Some.is c.self.invariant.beside
    (found_changed c.in-Some.name f os c.in-Some-place.at x _ found (ap (λ (y : Other). f (other_of y)) c.index_mut-other.ensures.value)))

pub returns-in_default : goal.returns-in_default
returns-in_default c =
    let s = c.self.inside in
    let os = s.others.items in
    let f : OpenDevice → OpenDevice = λ d. record d { failed = true } in
    let none : position (is_named c.in-Some.name) os ≡ None =
    ap (position (is_named c.in-Some.name)) (sym c.deref.ensures.value) ∙ sym c.place.ensures ∙ c.in_default.is in
    sym c.self.view_is
    ∙ failed_at s.principal os os s.current s.writes c.args.self.now c.self.view_is
    (beside s.principal os os s.current c.in-Some.name f c.in-Some.is c.self.invariant.beside (sym (absent_same c.in-Some.name f os none)))
