-- What is open, by the place where a search for a name ends, and what more or less is open.
use Rattle.std.proofs.Common.{◌≡◌, ℕ, zero, suc, ◌+◌, ◌<◌, ◌≤◌, Bool, true, false, not, cond, List, [], ◌∷◌, ◌++◌, map, length, get_or, nat_lt, Option, Some, None, refl, sym, ap, ◌∙◌, subst, arith}
use Rattle.std.specs.Prelude.{if◌then◌else◌}
use Rattle.std.specs.Bool.{one_answer}
use Rattle.std.specs.List.{position, position_or_len, filter}
use Rattle.std.specs.Option.{is_some}
use Rattle.std.specs.Str.{bytes_eq}
use Rattle.std.proofs.lemmas.Slice.Eq.{bytes_eq-Decides}
use Rattle.std.proofs.lemmas.List.Quantifiers.{position-Some}
use Rattle.std.proofs.lemmas.List.Sums.{prefix_len-le-length}
use Rattle.std.proofs.lemmas.Bool.{ltb-false}
use Rattle.mj_semantics.specs.State.{OpenDevice, principal, device_at, column_at, row_at, on_device}
use Rattle.mj_open_devices.specs.declared.devices.Spot.{Spot}
use Rattle.mj_open_devices.specs.declared.devices.Other.{Other}
use Rattle.mj_open_devices.specs.Opened.{Opened, alone, after_drop, after_fail, after_leave, device_of, other_of, is_named, current_of, opened_by, spot_in, spot_at, IsSpotWithin, AreWithin, IsBeside}

pub same_turned : (a b : List ℕ) → bytes_eq a b ≡ bytes_eq b a
same_turned a b = one_answer (bytes_eq a b) (bytes_eq b a) (bytes_eq-Decides a b) (λ e. sym ((bytes_eq-Decides b a).0 e), λ p. (bytes_eq-Decides b a).1 (sym p))

-- Which device is found.

abbrev one_more : List ℕ → Other → List Other → Bool → Option OpenDevice
one_more name x os b = if b then Some (other_of x) else device_at name (map other_of os)

at : (name : List ℕ) (os : List Other) (i : ℕ) (d : Other) → i < length os → is_named name (get_or os i d) ≡ true
    → ((k : ℕ) → k < i → is_named name (get_or os k d) ≡ false) → device_at name (map other_of os) ≡ Some (other_of (get_or os i d))
at name [] i d within here before = absurd (omega arith)
at name (x ∷ os) zero d within here before = ap (one_more name x os) here
at name (x ∷ os) (suc i) d within here before = ap (one_more name x os) (before 0 (omega arith)) ∙ at name os i d (omega arith) here (λ k below. before (suc k) (omega arith))

pub found_there : (name : List ℕ) (os : List Other) (i : ℕ) (d : Other) → position (is_named name) os ≡ Some i → device_at name (map other_of os) ≡ Some (other_of (get_or os i d))
found_there name os i d found = let p = position-Some (is_named name) os i d found in at name os i d p.0 p.1 p.2

none_at : (name : List ℕ) (os : List Other) → position_or_len (is_named name) os ≡ length os → device_at name (map other_of os) ≡ None
none_at name [] e = refl
none_at name (x ∷ os) e =
    elim (is_named name x) as (λ b. cond (not b) (1 + position_or_len (is_named name) os) 0 ≡ suc (length os) → one_more name x os b ≡ None) [
      | true ↦ λ q. absurd (omega arith)
      | false ↦ λ q. none_at name os (omega arith)
    ] e

pub none_there : (name : List ℕ) (os : List Other) → position (is_named name) os ≡ None → device_at name (map other_of os) ≡ None
none_there name os none =
    let k = position_or_len (is_named name) os in
    let at_most : k ≤ length os = prefix_len-le-length _ os in
    let by_test : (b : Bool) → nat_lt k (length os) ≡ b → cond b (Some k) None ≡ None → k ≡ length os =
    λ b. elim b as (λ b. nat_lt k (length os) ≡ b → cond b (Some k) None ≡ None → k ≡ length os)
    [ true ↦ λ e q. cc | false ↦ λ e q. omega (arith, ltb-false k (length os) e) ] in
    none_at name os (by_test _ refl none)

-- one beside the principal one is found where it is found among the others
pub past_first : (p : Spot) (os : List Other) (name : List ℕ) → bytes_eq principal name ≡ false → device_at name (device_of principal p ∷ map other_of os) ≡ device_at name (map other_of os)
past_first p os name apart = ap (λ b. if b then Some (device_of principal p) else device_at name (map other_of os)) apart

pub first_found : (p : Spot) (os : List Other) (name : List ℕ) → bytes_eq principal name ≡ true → device_at name (device_of principal p ∷ map other_of os) ≡ Some (device_of principal p)
first_found p os name same = ap (λ b. if b then Some (device_of principal p) else device_at name (map other_of os)) same

-- whether one is open
pub is_there : (name : List ℕ) (os : List Other) (i : Option ℕ) → position (is_named name) os ≡ i → is_some i ≡ is_some (device_at name (map other_of os))
is_there name os None e = ap is_some (sym (none_there name os e))
is_there name [] (Some i) e = cc
is_there name (x ∷ os) (Some i) e = ap is_some (sym (found_there name (x ∷ os) i x e))

-- what the current device is like, where it isn't the principal one
pub spot_there : (p : Spot) (os : List Other) (current : Option (List ℕ)) (writes : ℕ) (name : List ℕ) (i : ℕ) (d : Other) (o : Opened) → opened_by p os current writes ≡ o
    → current ≡ Some name → IsBeside current → position (is_named name) os ≡ Some i → (get_or os i d).spot ≡ spot_at o.current o.devices
spot_there p os current writes name i d o view is beside found =
    let all : List OpenDevice = device_of principal p ∷ map other_of os in
    sym (ap (λ c. spot_at (current_of c) all) is ∙ ap spot_in (past_first p os name (subst IsBeside is beside) ∙ found_there name os i d found))
    ∙ ap (λ (q : Opened). spot_at q.current q.devices) view

pub spot_nowhere : (p : Spot) (os : List Other) (current : Option (List ℕ)) (writes : ℕ) (name : List ℕ) (o : Opened) → opened_by p os current writes ≡ o
    → current ≡ Some name → IsBeside current → position (is_named name) os ≡ None → ◌≡◌ {A = Spot} (record { column = 0; row = 0; failed = false }) (spot_at o.current o.devices)
spot_nowhere p os current writes name o view is beside none =
    let all : List OpenDevice = device_of principal p ∷ map other_of os in
    sym (ap (λ c. spot_at (current_of c) all) is ∙ ap spot_in (past_first p os name (subst IsBeside is beside) ∙ none_there name os none))
    ∙ ap (λ (q : Opened). spot_at q.current q.devices) view

column_in : (d : Option OpenDevice) → (spot_in d).column ≡ elim d [ None ↦ 0 | Some x ↦ x.column ]
column_in None = refl
column_in (Some d) = refl

row_in : (d : Option OpenDevice) → (spot_in d).row ≡ elim d [ None ↦ 0 | Some x ↦ x.row ]
row_in None = refl
row_in (Some d) = refl

pub spot_column : (name : List ℕ) (o : Opened) → (spot_at name o.devices).column ≡ column_at name (alone o)
spot_column name o = column_in (device_at name o.devices)

pub spot_row : (name : List ℕ) (o : Opened) → (spot_at name o.devices).row ≡ row_at name (alone o)
spot_row name o = row_in (device_at name o.devices)

-- More and less.

pub within_more : (most : ℕ) (os : List Other) (o : Other) → IsSpotWithin most o.spot → AreWithin most os → AreWithin most (os ++ o ∷ [])
within_more most [] o h all = (h, tt)
within_more most (x ∷ os) o h all = (all.0, within_more most os o h all.1)

pub within_less : (most : ℕ) (test : Other → Bool) (os : List Other) → AreWithin most os → AreWithin most (filter test os)
within_less most test [] all = tt
within_less most test (x ∷ os) all = by (test x) (within_less most test os all.1)
  where
    by : (b : Bool) → AreWithin most (filter test os) → AreWithin most (cond b (x ∷ filter test os) (filter test os))
    by true rest = (all.0, rest)
    by false rest = rest

pub more_devices : (os : List Other) (o : Other) → map other_of (os ++ o ∷ []) ≡ map other_of os ++ other_of o ∷ []
more_devices [] o = refl
more_devices (x ∷ os) o = ap (λ l. other_of x ∷ l) (more_devices os o)

pub less_devices : (name : List ℕ) (os : List Other) → map other_of (filter (λ o. not (bytes_eq o.name name)) os) ≡ filter (λ d. not (bytes_eq d.name name)) (map other_of os)
less_devices name [] = refl
less_devices name (x ∷ os) = by (not (bytes_eq x.name name)) (less_devices name os)
  where
    less : List Other
    less = filter (λ o. not (bytes_eq o.name name)) os

    left : List OpenDevice
    left = filter (λ d. not (bytes_eq d.name name)) (map other_of os)

    by : (b : Bool) → map other_of less ≡ left → map other_of (cond b (x ∷ less) less) ≡ cond b (other_of x ∷ left) left
    by true rest = ap (λ l. other_of x ∷ l) rest
    by false rest = rest

pub removed : (p : Spot) (os new : List Other) (current : Option (List ℕ)) (writes : ℕ) (name : List ℕ) (o : Opened) → bytes_eq name principal ≡ false
    → new ≡ filter (λ x. not (bytes_eq x.name name)) os → opened_by p os current writes ≡ after_leave name o → opened_by p new current writes ≡ after_drop name o
removed p os new current writes name o apart is view =
    let stays : OpenDevice → Bool = λ d. not (bytes_eq d.name name) in
    let others : List OpenDevice = filter stays (map other_of os) in
    let with : List OpenDevice → Opened = λ l. record { devices = l; current = current_of current; writes = writes } in
    let less : Opened → Opened = λ q. record q { devices = filter stays q.devices } in
    ap with (ap (λ l. device_of principal p ∷ l) (ap (map other_of) is ∙ less_devices name os)
    ∙ sym (ap (λ b. cond (not b) (device_of principal p ∷ others) others) (same_turned principal name ∙ apart)))
    ∙ ap less view

-- a session of a device beside the principal one failed
pub failed_there : (p : Spot) (os new : List Other) (current : Option (List ℕ)) (writes : ℕ) (name : List ℕ) (o : Opened) → bytes_eq principal name ≡ false
    → opened_by p os current writes ≡ o → map other_of new ≡ on_device name (λ d. record d { failed = true }) (map other_of os) → opened_by p new current writes ≡ after_fail name o
failed_there p os new current writes name o apart view e =
    let f : OpenDevice → OpenDevice = λ d. record d { failed = true } in
    let with : List OpenDevice → Opened = λ l. record { devices = l; current = current_of current; writes = writes } in
    ap with (ap (λ l. device_of principal p ∷ l) e ∙ sym (ap (λ b. if b then f (device_of principal p) ∷ map other_of os else device_of principal p ∷ on_device name f (map other_of os)) apart))
    ∙ ap (after_fail name) view
