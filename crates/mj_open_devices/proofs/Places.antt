-- The devices beside the principal one, by the place where a search for a name ends.
use Rattle.std.proofs.Common.{◌≡◌, ℕ, zero, suc, ◌+◌, ◌<◌, ◌≤◌, Bool, true, false, not, cond, List, [], ◌∷◌, ◌++◌, map, length, get_or, nat_lt, Option, Some, None, refl, sym, ap, ◌∙◌, subst, arith}
use Rattle.std.specs.Prelude.{slice_set, slice_get, if◌then◌else◌}
use Rattle.std.specs.List.{position, position_or_len}
use Rattle.std.specs.Str.{bytes_eq}
use Rattle.std.proofs.lemmas.List.Quantifiers.{position-Some}
use Rattle.std.proofs.lemmas.List.Sums.{prefix_len-le-length}
use Rattle.std.proofs.lemmas.Bool.{ltb-false}
use Rattle.mj_semantics.specs.State.{OpenDevice, principal, moved, on_device}
use Rattle.mj_open_devices.specs.declared.devices.Spot.{Spot}
use Rattle.mj_open_devices.specs.declared.devices.Other.{Other}
use Rattle.mj_open_devices.specs.Opened.{Opened, after_write, after_fail, device_of, other_of, is_named, current_of, opened_by, IsSpotWithin, AreWithin, IsBeside}

-- the device of a name changes
abbrev one_more : (List ℕ) → (OpenDevice → OpenDevice) → Other → List Other → Bool → List OpenDevice
one_more name f x os b = if b then f (other_of x) ∷ map other_of os else other_of x ∷ on_device name f (map other_of os)

at : (name : List ℕ) (f : OpenDevice → OpenDevice) (os : List Other) (i : ℕ) (d o : Other) → i < length os → is_named name (get_or os i d) ≡ true
    → ((k : ℕ) → k < i → is_named name (get_or os k d) ≡ false) → other_of o ≡ f (other_of (get_or os i d)) → map other_of (slice_set os i o) ≡ on_device name f (map other_of os)
at name f [] i d o within here before e = absurd (omega arith)
at name f (x ∷ os) zero d o within here before e = ap (λ y. y ∷ map other_of os) e ∙ sym (ap (one_more name f x os) here)
at name f (x ∷ os) (suc i) d o within here before e =
    ap (λ l. other_of x ∷ l) (at name f os i d o (omega arith) here (λ k below. before (suc k) (omega arith)) e) ∙ sym (ap (one_more name f x os) (before 0 (omega arith)))

pub found_changed : (name : List ℕ) (f : OpenDevice → OpenDevice) (os : List Other) (i : ℕ) (d o : Other) → position (is_named name) os ≡ Some i
    → other_of o ≡ f (other_of (get_or os i d)) → map other_of (slice_set os i o) ≡ on_device name f (map other_of os)
found_changed name f os i d o found e = let p = position-Some (is_named name) os i d found in at name f os i d o p.0 p.1 p.2 e

pub found_within : (name : List ℕ) (os : List Other) (i : ℕ) (d : Other) → position (is_named name) os ≡ Some i → i < length os
found_within name os i d found = (position-Some (is_named name) os i d found).0

-- no device has the name
none_at : (name : List ℕ) (f : OpenDevice → OpenDevice) (os : List Other) → position_or_len (is_named name) os ≡ length os → on_device name f (map other_of os) ≡ map other_of os
none_at name f [] e = refl
none_at name f (x ∷ os) e =
    elim (is_named name x) as (λ b. cond (not b) (1 + position_or_len (is_named name) os) 0 ≡ suc (length os) → one_more name f x os b ≡ other_of x ∷ map other_of os) [
      | true ↦ λ q. absurd (omega arith)
      | false ↦ λ q. ap (λ l. other_of x ∷ l) (none_at name f os (omega arith))
    ] e

pub absent_same : (name : List ℕ) (f : OpenDevice → OpenDevice) (os : List Other) → position (is_named name) os ≡ None → on_device name f (map other_of os) ≡ map other_of os
absent_same name f os none =
    let k = position_or_len (is_named name) os in
    let at_most : k ≤ length os = prefix_len-le-length _ os in
    let by_test : (b : Bool) → nat_lt k (length os) ≡ b → cond b (Some k) None ≡ None → k ≡ length os =
    λ b. elim b as (λ b. nat_lt k (length os) ≡ b → cond b (Some k) None ≡ None → k ≡ length os)
    [ true ↦ λ e q. cc | false ↦ λ e q. omega (arith, ltb-false k (length os) e) ] in
    none_at name f os (by_test _ refl none)

-- Columns and rows.

pub wider_one : (less most : ℕ) (o : Other) → less ≤ most → IsSpotWithin less o.spot → IsSpotWithin most o.spot
wider_one less most o le h = (omega (arith, le, h.0), omega (arith, le, h.1))

pub wider : (less most : ℕ) (os : List Other) → less ≤ most → AreWithin less os → AreWithin most os
wider less most [] le all = tt
wider less most (o ∷ os) le all = (wider_one less most o le all.0, wider less most os le all.1)

pub within_set : (most : ℕ) (os : List Other) (i : ℕ) (o : Other) → IsSpotWithin most o.spot → AreWithin most os → AreWithin most (slice_set os i o)
within_set most [] i o h all = tt
within_set most (x ∷ os) zero o h all = (h, all.1)
within_set most (x ∷ os) (suc i) o h all = (all.0, within_set most os i o h all.1)

pub within_at : (most : ℕ) (os : List Other) (i : ℕ) (d : Other) → i < length os → AreWithin most os → IsSpotWithin most (get_or os i d).spot
within_at most [] i d h all = absurd (omega arith)
within_at most (o ∷ os) zero d h all = all.0
within_at most (o ∷ os) (suc i) d h all = within_at most os i d (omega arith) all.1

-- The names of the devices in the order in which they end.

abbrev pub names : List Other → List (List ℕ)
names os = map (λ d. d.name) (map other_of os) ++ principal ∷ []

pub ends_at : (os : List Other) (i : ℕ) (o : Other) → i < length os → o ≡ get_or os i o → slice_get (names os) i ≡ Some o.name
ends_at [] i o within e = absurd (omega arith)
ends_at (x ∷ os) zero o within e = ap (λ (y : Other). Some y.name) (sym e)
ends_at (x ∷ os) (suc i) o within e = ends_at os i o (omega arith) e

pub ends_last : (os : List Other) → slice_get (names os) (length os) ≡ Some principal
ends_last [] = refl
ends_last (x ∷ os) = ends_last os

pub ends_past : (os : List Other) (i : ℕ) → length os < i → slice_get (names os) i ≡ None
ends_past [] zero past = absurd (omega arith)
ends_past [] (suc i) past = refl
ends_past (x ∷ os) zero past = absurd (omega arith)
ends_past (x ∷ os) (suc i) past = ends_past os i (omega arith)

-- The current device changes.

-- it isn't the principal one
pub beside : (p : Spot) (os new : List Other) (current : Option (List ℕ)) (name : List ℕ) (f : OpenDevice → OpenDevice) → current ≡ Some name → IsBeside current
    → map other_of new ≡ on_device name f (map other_of os)
    → on_device (current_of current) f (device_of principal p ∷ map other_of os) ≡ device_of principal p ∷ map other_of new
beside p os new current name f is apart e =
    let other : bytes_eq principal name ≡ false = subst IsBeside is apart in
    let at_first : Bool → List OpenDevice = λ b. if b then f (device_of principal p) ∷ map other_of os else device_of principal p ∷ on_device name f (map other_of os) in
    ap (λ (o : Option (List ℕ)). on_device (current_of o) f (device_of principal p ∷ map other_of os)) is
    ∙ ap at_first other
    ∙ ap (λ l. device_of principal p ∷ l) (sym e)

pub written : (p : Spot) (os new : List Other) (current : Option (List ℕ)) (writes : ℕ) (bytes : List ℕ) (o : Opened) → opened_by p os current writes ≡ o
    → on_device (current_of current) (moved bytes) (device_of principal p ∷ map other_of os) ≡ device_of principal p ∷ map other_of new
    → opened_by p new current (writes + 1) ≡ after_write bytes o
written p os new current writes bytes o view e =
    let with : List OpenDevice → Opened = λ l. record { devices = l; current = current_of current; writes = writes + 1 } in
    ap with (sym e) ∙ ap (after_write bytes) view

pub failed_at : (p : Spot) (os new : List Other) (current : Option (List ℕ)) (writes : ℕ) (o : Opened) → opened_by p os current writes ≡ o
    → on_device (current_of current) (λ d. record d { failed = true }) (device_of principal p ∷ map other_of os) ≡ device_of principal p ∷ map other_of new
    → opened_by p new current writes ≡ after_fail o.current o
failed_at p os new current writes o view e =
    let with : List OpenDevice → Opened = λ l. record { devices = l; current = current_of current; writes = writes } in
    ap with (sym e) ∙ ap (λ (q : Opened). after_fail q.current q) view
