-- The names of the devices that are open, in their order.
use Rattle.std.proofs.Common.{◌≡◌, ℕ, List, [], ◌∷◌, ◌++◌, map, Bool, true, false, not, cond, Option, Some, None, refl, ap, sym, ◌∙◌, subst}
use Rattle.std.specs.Prelude.{if◌then◌else◌}
use Rattle.std.specs.List.{filter}
use Rattle.std.specs.Option.{is_some}
use Rattle.std.specs.Str.{bytes_eq}
use Rattle.std.proofs.lemmas.Slice.Eq.{bytes_eq-Decides}
use Rattle.mj_semantics.specs.State.{OpenDevice, device_at, on_device}
use Rattle.mj_open_devices.proofs.Known.{same_turned}

pub same_name : (a b : List ℕ) → bytes_eq a b ≡ true → a ≡ b
same_name a b is = (bytes_eq-Decides a b).0 is

pub itself : (a : List ℕ) → bytes_eq a a ≡ true
itself a = (bytes_eq-Decides a a).1 refl

-- a test that holds and doesn't
pub never : {A : Type 0} (b : Bool) → b ≡ true → b ≡ false → A
never b holds fails = absurd (let both : true ≡ false = sym holds ∙ fails in cc)

abbrev pub is_in : List ℕ → List (List ℕ) → Bool
is_in name [] = false
is_in name (x ∷ names) = if bytes_eq x name then true else is_in name names

-- no name stands twice
abbrev pub AreApart : List (List ℕ) → Type 0
AreApart [] = Unit {0}
AreApart (x ∷ names) = (is_in x names ≡ false) × AreApart names

abbrev pub without : List ℕ → List (List ℕ) → List (List ℕ)
without name [] = []
without name (x ∷ names) = if bytes_eq x name then without name names else x ∷ without name names

abbrev pub names_of : List OpenDevice → List (List ℕ)
names_of devices = map (λ d. d.name) devices

-- One more name.

pub is_in_last : (x name : List ℕ) (names : List (List ℕ)) → bytes_eq name x ≡ true → is_in x (names ++ name ∷ []) ≡ true
is_in_last x name [] is = ap (λ b. if b then true else false) is
is_in_last x name (y ∷ names) is = by (bytes_eq y x) (is_in_last x name names is)
  where
    by : (b : Bool) → is_in x (names ++ name ∷ []) ≡ true → (if b then true else is_in x (names ++ name ∷ [])) ≡ true
    by true rest = refl
    by false rest = rest

pub is_in_others : (x name : List ℕ) (names : List (List ℕ)) → bytes_eq name x ≡ false → is_in x (names ++ name ∷ []) ≡ is_in x names
is_in_others x name [] not = ap (λ b. if b then true else false) not
is_in_others x name (y ∷ names) not = ap (λ b. if bytes_eq y x then true else b) (is_in_others x name names not)

pub is_in_more : (x name : List ℕ) (names : List (List ℕ)) → is_in x names ≡ true → is_in x (names ++ name ∷ []) ≡ true
is_in_more x name names is = by (bytes_eq name x) refl
  where
    by : (b : Bool) → bytes_eq name x ≡ b → is_in x (names ++ name ∷ []) ≡ true
    by true e = is_in_last x name names e
    by false e = is_in_others x name names e ∙ is

-- a name that isn't among some isn't one of them
pub isnt_first : (x y : List ℕ) (names : List (List ℕ)) → is_in x (y ∷ names) ≡ false → (bytes_eq y x ≡ false) × (is_in x names ≡ false)
isnt_first x y names none = by (bytes_eq y x) refl none
  where
    by : (b : Bool) → bytes_eq y x ≡ b → (if b then true else is_in x names) ≡ false → (bytes_eq y x ≡ false) × (is_in x names ≡ false)
    by true e q = never true refl q
    by false e q = (e, q)

pub apart_more : (name : List ℕ) (names : List (List ℕ)) → AreApart names → is_in name names ≡ false → AreApart (names ++ name ∷ [])
apart_more name [] apart none = (refl, tt)
apart_more name (x ∷ names) apart none =
    let p = isnt_first name x names none in
    (is_in_others x name names (same_turned name x ∙ p.0) ∙ apart.0, apart_more name names apart.1 p.1)

-- One less.

pub isnt_in_without : (x name : List ℕ) (names : List (List ℕ)) → bytes_eq name x ≡ true → is_in x (without name names) ≡ false
isnt_in_without x name [] is = refl
isnt_in_without x name (y ∷ names) is = by (bytes_eq y name) refl (isnt_in_without x name names is)
  where
    by : (b : Bool) → bytes_eq y name ≡ b → is_in x (without name names) ≡ false → is_in x (if b then without name names else y ∷ without name names) ≡ false
    by true e rest = rest
    by false e rest = ap (λ c. if c then true else is_in x (without name names)) (subst (λ n. bytes_eq y n ≡ false) (same_name name x is) e) ∙ rest

pub is_in_without : (x name : List ℕ) (names : List (List ℕ)) → bytes_eq name x ≡ false → is_in x (without name names) ≡ is_in x names
is_in_without x name [] not = refl
is_in_without x name (y ∷ names) not = by (bytes_eq y name) refl (is_in_without x name names not)
  where
    by : (b : Bool) → bytes_eq y name ≡ b → is_in x (without name names) ≡ is_in x names
        → is_in x (if b then without name names else y ∷ without name names) ≡ (if bytes_eq y x then true else is_in x names)
    by true e rest =
        let other : bytes_eq y x ≡ false = subst (λ n. bytes_eq n x ≡ false) (sym (same_name y name e)) not in
        rest ∙ sym (ap (λ c. if c then true else is_in x names) other)
    by false e rest = ap (λ c. if bytes_eq y x then true else c) rest

isnt_in_less : (x name : List ℕ) (names : List (List ℕ)) → is_in x names ≡ false → is_in x (without name names) ≡ false
isnt_in_less x name names none = by (bytes_eq name x) refl
  where
    by : (b : Bool) → bytes_eq name x ≡ b → is_in x (without name names) ≡ false
    by true e = isnt_in_without x name names e
    by false e = is_in_without x name names e ∙ none

pub apart_less : (name : List ℕ) (names : List (List ℕ)) → AreApart names → AreApart (without name names)
apart_less name [] apart = tt
apart_less name (y ∷ names) apart = by (bytes_eq y name) (apart_less name names apart.1)
  where
    by : (b : Bool) → AreApart (without name names) → AreApart (if b then without name names else y ∷ without name names)
    by true rest = rest
    by false rest = (isnt_in_less y name names apart.0, rest)

-- Devices.

-- a device is open where its name is among them
pub is_there : (name : List ℕ) (devices : List OpenDevice) → is_some (device_at name devices) ≡ is_in name (names_of devices)
is_there name [] = refl
is_there name (d ∷ devices) = by (bytes_eq d.name name) (is_there name devices)
  where
    by : (b : Bool) → is_some (device_at name devices) ≡ is_in name (names_of devices)
        → is_some (if b then Some d else device_at name devices) ≡ (if b then true else is_in name (names_of devices))
    by true rest = refl
    by false rest = rest

-- a change of one that keeps its name leaves the names
pub names_on : (name : List ℕ) (f : OpenDevice → OpenDevice) (devices : List OpenDevice) → ((d : OpenDevice) → (f d).name ≡ d.name)
    → names_of (on_device name f devices) ≡ names_of devices
names_on name f [] same = refl
names_on name f (d ∷ devices) same = by (bytes_eq d.name name) (names_on name f devices same)
  where
    by : (b : Bool) → names_of (on_device name f devices) ≡ names_of devices → names_of (if b then f d ∷ devices else d ∷ on_device name f devices) ≡ names_of (d ∷ devices)
    by true rest = ap (λ n. n ∷ names_of devices) (same d)
    by false rest = ap (λ l. d.name ∷ l) rest

pub names_with : (d : OpenDevice) (devices : List OpenDevice) → names_of (devices ++ d ∷ []) ≡ names_of devices ++ d.name ∷ []
names_with d [] = refl
names_with d (x ∷ devices) = ap (λ l. x.name ∷ l) (names_with d devices)

pub names_without : (name : List ℕ) (devices : List OpenDevice) → names_of (filter (λ d. not (bytes_eq d.name name)) devices) ≡ without name (names_of devices)
names_without name [] = refl
names_without name (d ∷ devices) = by (bytes_eq d.name name) (names_without name devices)
  where
    left : List OpenDevice
    left = filter (λ x. not (bytes_eq x.name name)) devices

    by : (b : Bool) → names_of left ≡ without name (names_of devices)
        → names_of (cond (not b) (d ∷ left) left) ≡ (if b then without name (names_of devices) else d.name ∷ without name (names_of devices))
    by true rest = rest
    by false rest = ap (λ l. d.name ∷ l) rest

-- whether a call of a device failed
abbrev pub failed_at : List ℕ → List OpenDevice → Bool
failed_at name devices = elim (device_at name devices) [ None ↦ false | Some d ↦ d.failed ]

-- one that is open, of which a call failed now
pub fails : (name : List ℕ) (devices : List OpenDevice) → is_in name (names_of devices) ≡ true → failed_at name (on_device name (λ d. record d { failed = true }) devices) ≡ true
fails name [] there = never false there refl
fails name (d ∷ devices) there = by (bytes_eq d.name name) refl there (λ q. fails name devices q)
  where
    broken : OpenDevice
    broken = record d { failed = true }

    by : (b : Bool) → bytes_eq d.name name ≡ b → (if b then true else is_in name (names_of devices)) ≡ true
        → (is_in name (names_of devices) ≡ true → failed_at name (on_device name (λ x. record x { failed = true }) devices) ≡ true)
        → failed_at name (if b then broken ∷ devices else d ∷ on_device name (λ x. record x { failed = true }) devices) ≡ true
    by true e q rest = ap (λ c. elim (if c then Some broken else device_at name devices) as (λ (o : Option OpenDevice). Bool) [ None ↦ false | Some x ↦ x.failed ]) e
    by false e q rest =
        ap (λ c. elim (if c then Some d else device_at name (on_device name (λ x. record x { failed = true }) devices)) as (λ (o : Option OpenDevice). Bool) [ None ↦ false | Some x ↦ x.failed ]) e
        ∙ rest q
