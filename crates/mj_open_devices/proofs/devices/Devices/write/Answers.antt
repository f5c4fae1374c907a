use Rattle.std.proofs.Common.{◌≡◌, ◌+◌, ◌*◌, ◌≤◌, Some, None, sym, ap, ◌∙◌, subst, arith}
use Rattle.std.specs.List.{position}
use Rattle.mj_text.specs.declared.text.TheConstants.{TEXT_LIMIT}
use Rattle.mj_semantics.specs.State.{OpenDevice, moved}
use Rattle.mj_open_devices.specs.declared.devices.Other.{Other}
use Rattle.mj_open_devices.specs.Opened.{Opened, device_of, other_of, is_named, IsSpotWithin}
use Rattle.mj_open_devices.proofs.Places.{found_changed, found_within, absent_same, wider, within_set, within_at, beside, written}
use Rattle.mj_open_devices.proofs.devices.Devices.write.Goals as goal

pub invariant_of-self : goal.invariant_of-self
invariant_of-self c =
    let s = c.self.inside in
    let i = c.self.invariant in
    let b = c.go.ensures.bound in
    let le : TEXT_LIMIT * s.writes ≤ TEXT_LIMIT * (s.writes + 1) = omega arith in
    record {
      first = (omega (arith, i.first.0, b.0, c.requires.short), omega (arith, i.first.1, b.1, c.requires.short));
      rest = wider (TEXT_LIMIT * s.writes) (TEXT_LIMIT * (s.writes + 1)) s.others.items le i.rest;
      beside = i.beside;
    }

pub go-requires-in-Some-place-clause-column : goal.go-requires-in-Some-place-clause-column
go-requires-in-Some-place-clause-column c =
    let s = c.self.inside in
    let os = s.others.items in
    let x = c.index_mut-other.result.now in
    let found : position (is_named c.in-Some.name) os ≡ Some c.in-Some-place.at =
    ap (position (is_named c.in-Some.name)) (sym c.deref.ensures.value) ∙ sym c.place.ensures ∙ c.in-Some-place.is in
    let here : IsSpotWithin (TEXT_LIMIT * s.writes) x.spot =
    subst (λ (y : Other). IsSpotWithin (TEXT_LIMIT * s.writes) y.spot) (sym c.index_mut-other.ensures.value)
    (within_at (TEXT_LIMIT * s.writes) os c.in-Some-place.at x (found_within c.in-Some.name os c.in-Some-place.at x found) c.self.invariant.rest) in
    omega (arith, here.0, c.requires.short, c.requires.more, ap (λ (o : Opened). o.writes) c.self.view_is)

pub go-requires-in-Some-place-clause-row : goal.go-requires-in-Some-place-clause-row
go-requires-in-Some-place-clause-row c =
    let s = c.self.inside in
    let os = s.others.items in
    let x = c.index_mut-other.result.now in
    let found : position (is_named c.in-Some.name) os ≡ Some c.in-Some-place.at =
    ap (position (is_named c.in-Some.name)) (sym c.deref.ensures.value) ∙ sym c.place.ensures ∙ c.in-Some-place.is in
    let here : IsSpotWithin (TEXT_LIMIT * s.writes) x.spot =
    subst (λ (y : Other). IsSpotWithin (TEXT_LIMIT * s.writes) y.spot) (sym c.index_mut-other.ensures.value)
    (within_at (TEXT_LIMIT * s.writes) os c.in-Some-place.at x (found_within c.in-Some.name os c.in-Some-place.at x found) c.self.invariant.rest) in
    omega (arith, here.1, c.requires.short, c.requires.more, ap (λ (o : Opened). o.writes) c.self.view_is)

pub invariant_of-self-in-Some-place : goal.invariant_of-self-in-Some-place
invariant_of-self-in-Some-place c =
    let s = c.self.inside in
    let i = c.self.invariant in
    let os = s.others.items in
    let x = c.index_mut-other.result.now in
    let b = c.go-in-Some-place.ensures.bound in
    let le : TEXT_LIMIT * s.writes ≤ TEXT_LIMIT * (s.writes + 1) = omega arith in
    let found : position (is_named c.in-Some.name) os ≡ Some c.in-Some-place.at =
    ap (position (is_named c.in-Some.name)) (sym c.deref.ensures.value) ∙ sym c.place.ensures ∙ c.in-Some-place.is in
    let here : IsSpotWithin (TEXT_LIMIT * s.writes) x.spot =
    subst (λ (y : Other). IsSpotWithin (TEXT_LIMIT * s.writes) y.spot)
    (sym c.index_mut-other.ensures.value) (within_at (TEXT_LIMIT * s.writes) os c.in-Some-place.at x (found_within c.in-Some.name os c.in-Some-place.at x found) i.rest) in
    record {
      first = (omega (arith, i.first.0), omega (arith, i.first.1));
      rest = within_set (TEXT_LIMIT * (s.writes + 1)) os c.in-Some-place.at _ (omega (arith, here.0, b.0, c.requires.short), omega (arith, here.1, b.1, c.requires.short))
          (wider (TEXT_LIMIT * s.writes) (TEXT_LIMIT * (s.writes + 1)) os le i.rest);
      beside = i.beside;
    }

pub invariant_of-self-in_default : goal.invariant_of-self-in_default
invariant_of-self-in_default c =
    let s = c.self.inside in
    let i = c.self.invariant in
    let le : TEXT_LIMIT * s.writes ≤ TEXT_LIMIT * (s.writes + 1) = omega arith in
    record {
      first = (omega (arith, i.first.0), omega (arith, i.first.1));
      rest = wider (TEXT_LIMIT * s.writes) (TEXT_LIMIT * (s.writes + 1)) s.others.items le i.rest;
      beside = i.beside;
    }

pub returns-in-Some-place : goal.returns-in-Some-place
returns-in-Some-place c =
    let s = c.self.inside in
    let os = s.others.items in
    let x = c.index_mut-other.result.now in
    let f : OpenDevice → OpenDevice = moved c.args.bytes.now in
    let found : position (is_named c.in-Some.name) os ≡ Some c.in-Some-place.at =
    ap (position (is_named c.in-Some.name)) (sym c.deref.ensures.value) ∙ sym c.place.ensures ∙ c.in-Some-place.is in
    written s.principal os _ s.current s.writes c.args.bytes.now c.args.self.now c.self.view_is
    (beside s.principal os _ s.current c.in-Some.name f c.in-Some.is c.self.invariant.beside
    (found_changed c.in-Some.name f os c.in-Some-place.at x _ found
    (ap (device_of x.name) c.go-in-Some-place.ensures.value ∙ ap (λ (y : Other). f (other_of y)) c.index_mut-other.ensures.value)))

pub returns-in_default : goal.returns-in_default
returns-in_default c =
    let s = c.self.inside in
    let os = s.others.items in
    let f : OpenDevice → OpenDevice = moved c.args.bytes.now in
    let none : position (is_named c.in-Some.name) os ≡ None =
    ap (position (is_named c.in-Some.name)) (sym c.deref.ensures.value) ∙ sym c.place.ensures ∙ c.in_default.is in
    written s.principal os os s.current s.writes c.args.bytes.now c.args.self.now c.self.view_is
    (beside s.principal os os s.current c.in-Some.name f c.in-Some.is c.self.invariant.beside (sym (absent_same c.in-Some.name f os none)))
