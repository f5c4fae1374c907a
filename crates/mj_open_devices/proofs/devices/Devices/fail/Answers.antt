use Rattle.std.proofs.Common.{◌≡◌, ◌*◌, true, false, Some, None, sym, ap, ◌∙◌, subst}
use Rattle.std.specs.List.{position}
use Rattle.std.specs.Str.{bytes_eq}
use Rattle.mj_text.specs.declared.text.TheConstants.{TEXT_LIMIT}
use Rattle.mj_semantics.specs.State.{OpenDevice, principal}
use Rattle.mj_open_devices.specs.declared.devices.Other.{Other}
use Rattle.mj_open_devices.specs.Opened.{other_of, is_named, IsSpotWithin}
use Rattle.mj_open_devices.proofs.Places.{found_changed, found_within, absent_same, within_set, within_at}
use Rattle.mj_open_devices.proofs.Known.{failed_there}
use Rattle.mj_open_devices.proofs.devices.Devices.fail.Goals as goal

pub invariant_of-self-in-Some : goal.invariant_of-self-in-Some
invariant_of-self-in-Some c =
    let s = c.self.inside in
    let os = s.others.items in
    let name = c.args.name.now in
    let x = c.index_mut-other.result.now in
    let found : position (is_named name) os ≡ Some c.in-Some.at = ap (position (is_named name)) (sym c.deref.ensures.value) ∙ sym c.place.ensures ∙ c.in-Some.is in
    let here : IsSpotWithin (TEXT_LIMIT * s.writes) x.spot =
    subst (λ (y : Other). IsSpotWithin (TEXT_LIMIT * s.writes) y.spot) (sym c.index_mut-other.ensures.value)
    (within_at (TEXT_LIMIT * s.writes) os c.in-Some.at x (found_within name os c.in-Some.at x found) c.self.invariant.rest) in
    record {
      first = c.self.invariant.first;
      rest = within_set (TEXT_LIMIT * s.writes) os c.in-Some.at _ here c.self.invariant.rest;
      beside = c.self.invariant.beside;
    }

pub returns-in-Some : goal.returns-in-Some
returns-in-Some c =
    let s = c.self.inside in
    let os = s.others.items in
    let name = c.args.name.now in
    let x = c.index_mut-other.result.now in
    let f : OpenDevice → OpenDevice = λ d. record d { failed = true } in
    let apart : bytes_eq principal name ≡ false = sym c.is_principal.ensures ∙ c.if-is_principal.false in
    let found : position (is_named name) os ≡ Some c.in-Some.at = ap (position (is_named name)) (sym c.deref.ensures.value) ∙ sym c.place.ensures ∙ c.in-Some.is in
    failed_there s.principal os _ s.current s.writes name c.args.self.now apart c.self.view_is
    (found_changed name f os c.in-Some.at x _ found (ap (λ (y : Other). f (other_of y)) c.index_mut-other.ensures.value))

pub returns-in_default : goal.returns-in_default
returns-in_default c =
    let s = c.self.inside in
    let os = s.others.items in
    let name = c.args.name.now in
    let f : OpenDevice → OpenDevice = λ d. record d { failed = true } in
    let apart : bytes_eq principal name ≡ false = sym c.is_principal.ensures ∙ c.if-is_principal.false in
    let none : position (is_named name) os ≡ None = ap (position (is_named name)) (sym c.deref.ensures.value) ∙ sym c.place.ensures ∙ c.in_default.is in
    sym c.self.view_is ∙ failed_there s.principal os os s.current s.writes name c.args.self.now apart c.self.view_is (sym (absent_same name f os none))
