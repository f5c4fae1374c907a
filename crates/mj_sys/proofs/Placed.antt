-- The devices of a pool, by the place of a name.
use Rattle.std.proofs.Common.{◌≡◌, ℕ, zero, suc, ◌+◌, ◌-◌, ◌<◌, Bool, true, false, cond, List, [], ◌∷◌, length, get_or, map, replicate, Option, Some, None, refl, sym, ap, ◌∙◌, arith}
use Rattle.std.specs.Prelude.{◌==◌, nat_lt}
use Rattle.std.proofs.Math.ListN.{set}
use Rattle.std.specs.List.{find, position}
use Rattle.std.specs.Str.{bytes_eq}
use Rattle.std.proofs.lemmas.List.{set-get_or, get_or_default}
use Rattle.std.proofs.lemmas.Slice.Eq.{bytes_eq-Decides}
use Rattle.std.proofs.lemmas.List.Quantifiers.{position-Some}
use Rattle.mj_dev.specs.Shelves.{Shelf, is_named, one_taken, after_take, left_of, principal}
use Rattle.mj_dev.proofs.Shelves.{found-none, found-named, with_first-at}
use Rattle.mj_sys.specs.Devices.{Device, device_at, with_device, opened_by, released_by, freed}
use Rattle.mj_sys.specs.Opening.{device_of, free_devices}
use Rattle.mj_sys.specs.Kept.{devices_of, without}

-- the name stands at this place of the pool, and nowhere before
pub record IsThere (name : List ℕ) (shelves : List Shelf) (at : ℕ) (d : Shelf) : Type 0 where
  pub within : at < length shelves
  pub here : is_named name (get_or shelves at d) ≡ true
  pub before : (k : ℕ) → k < at → is_named name (get_or shelves k d) ≡ false

pub found : (name : List ℕ) (shelves : List Shelf) (at : ℕ) (d : Shelf) → position (is_named name) shelves ≡ Some at → IsThere name shelves at d
found name shelves at d is =
    let p = position-Some (is_named name) shelves at d is in
    record { within = p.0; here = p.1; before = p.2 }

past : (name : List ℕ) (s : Shelf) (shelves : List Shelf) (at : ℕ) (d : Shelf) → IsThere name (s ∷ shelves) (suc at) d → IsThere name shelves at d
past name s shelves at d there = record {
  within = omega (arith, there.within);
  here = there.here;
  before = λ k below. there.before (suc k) (omega (arith, below));
}

-- the device of the name
pub device_there : (p : ℕ) (name : List ℕ) (shelves : List Shelf) (holders : List (Option ℕ)) (at : ℕ) (d : Shelf) (h : Option ℕ) → length holders ≡ length shelves
    → IsThere name shelves at d → device_at (devices_of p shelves holders) name ≡ Some (device_of p (get_or shelves at d) (get_or holders at h))
device_there p name [] holders at d h same there = absurd (let no : ⊥ = omega (arith, there.within) in no)
device_there p name (s ∷ shelves) [] at d h same there = absurd (let no : ⊥ = omega (arith, same) in no)
device_there p name (s ∷ shelves) (k ∷ holders) zero d h same there =
    ap (λ b. cond b (Some (device_of p s k)) (device_at (devices_of p shelves holders) name)) there.here
device_there p name (s ∷ shelves) (k ∷ holders) (suc at) d h same there =
    ap (λ b. cond b (Some (device_of p s k)) (device_at (devices_of p shelves holders) name)) (there.before 0 (omega arith))
    ∙ device_there p name shelves holders at d h (omega (arith, same)) (past name s shelves at d there)

-- a change of it
pub changed_there : (p : ℕ) (name : List ℕ) (f : Device → Device) (shelves : List Shelf) (holders : List (Option ℕ)) (at : ℕ) (d : Shelf) (h : Option ℕ)
    (s' : Shelf) (h' : Option ℕ) → length holders ≡ length shelves → IsThere name shelves at d
    → f (device_of p (get_or shelves at d) (get_or holders at h)) ≡ device_of p s' h'
    → with_device (devices_of p shelves holders) name f ≡ devices_of p (set shelves at s') (set holders at h')
changed_there p name f [] holders at d h s' h' same there new = absurd (let no : ⊥ = omega (arith, there.within) in no)
changed_there p name f (s ∷ shelves) [] at d h s' h' same there new = absurd (let no : ⊥ = omega (arith, same) in no)
changed_there p name f (s ∷ shelves) (k ∷ holders) zero d h s' h' same there new =
    let rest = devices_of p shelves holders in
    ap (λ b. cond b (f (device_of p s k) ∷ rest) (device_of p s k ∷ with_device rest name f)) there.here ∙ ap (λ x. x ∷ rest) new
changed_there p name f (s ∷ shelves) (k ∷ holders) (suc at) d h s' h' same there new =
    let rest = devices_of p shelves holders in
    ap (λ b. cond b (f (device_of p s k) ∷ rest) (device_of p s k ∷ with_device rest name f)) (there.before 0 (omega arith))
    ∙ ap (λ l. device_of p s k ∷ l) (changed_there p name f shelves holders at d h s' h' (omega (arith, same)) (past name s shelves at d there) new)

-- a name that the pool hasn't
absent_by : (p : ℕ) (name : List ℕ) (s : Shelf) (shelves : List Shelf) → find (is_named name) (s ∷ shelves) ≡ None
    → (is_named name s ≡ false) × (find (is_named name) shelves ≡ None)
absent_by p name s shelves none = at (is_named name s) refl none where
  at : (b : Bool) → is_named name s ≡ b → cond b (Some s) (find (is_named name) shelves) ≡ None → (is_named name s ≡ false) × (find (is_named name) shelves ≡ None)
  at true is q = absurd (let no : ⊥ = cc in no)
  at false is q = (is, q)

no_device : (p : ℕ) (name : List ℕ) (shelves : List Shelf) (holders : List (Option ℕ)) → find (is_named name) shelves ≡ None
    → device_at (devices_of p shelves holders) name ≡ None
no_device p name [] holders none = refl
no_device p name (s ∷ shelves) [] none = refl
no_device p name (s ∷ shelves) (k ∷ holders) none =
    let n = absent_by p name s shelves none in
    ap (λ b. cond b (Some (device_of p s k)) (device_at (devices_of p shelves holders) name)) n.0 ∙ no_device p name shelves holders n.1

no_change : (p : ℕ) (name : List ℕ) (f : Device → Device) (shelves : List Shelf) (holders : List (Option ℕ)) → find (is_named name) shelves ≡ None
    → with_device (devices_of p shelves holders) name f ≡ devices_of p shelves holders
no_change p name f [] holders none = refl
no_change p name f (s ∷ shelves) [] none = refl
no_change p name f (s ∷ shelves) (k ∷ holders) none =
    let n = absent_by p name s shelves none in
    let rest = devices_of p shelves holders in
    ap (λ b. cond b (f (device_of p s k) ∷ rest) (device_of p s k ∷ with_device rest name f)) n.0
    ∙ ap (λ l. device_of p s k ∷ l) (no_change p name f shelves holders n.1)

pub device_absent : (p : ℕ) (name : List ℕ) (shelves : List Shelf) (holders : List (Option ℕ)) → position (is_named name) shelves ≡ None
    → device_at (devices_of p shelves holders) name ≡ None
device_absent p name shelves holders none = no_device p name shelves holders (found-none name shelves none)

pub unchanged : (p : ℕ) (name : List ℕ) (f : Device → Device) (shelves : List Shelf) (holders : List (Option ℕ)) → position (is_named name) shelves ≡ None
    → with_device (devices_of p shelves holders) name f ≡ devices_of p shelves holders
unchanged p name f shelves holders none = no_change p name f shelves holders (found-none name shelves none)

-- ---- a hold ends

close_if : (b : Bool) (p : ℕ) (s : Shelf) (k : ℕ)
    → cond b (record (device_of p s (Some k)) { holder = None }) (device_of p s (Some k)) ≡ device_of p s (cond b None (Some k))
close_if true p s k = refl
close_if false p s k = refl

pub closed_device : (p job : ℕ) (s : Shelf) (k : Option ℕ) → released_by job (device_of p s k) ≡ device_of p s (without job k)
closed_device p job s None = refl
closed_device p job s (Some k) = close_if (k == job) p s k

pub closed_there : (p job : ℕ) (name : List ℕ) (shelves : List Shelf) (holders : List (Option ℕ)) (at : ℕ) (h : Option ℕ) → length holders ≡ length shelves
    → position (is_named name) shelves ≡ Some at
    → with_device (devices_of p shelves holders) name (released_by job) ≡ devices_of p shelves (set holders at (without job (get_or holders at h)))
closed_there p job name shelves holders at h same is =
    let d : Shelf = record { name = name; left = 0; taken = 0 } in
    let there = found name shelves at d is in
    changed_there p name (released_by job) shelves holders at d h (get_or shelves at d) (without job (get_or holders at h)) same there
    (closed_device p job (get_or shelves at d) (get_or holders at h))
    ∙ ap (λ l. devices_of p l (set holders at (without job (get_or holders at h)))) (set-get_or shelves at d)

pub freed_all : (p job : ℕ) (shelves : List Shelf) (holders : List (Option ℕ)) → freed (devices_of p shelves holders) job ≡ devices_of p shelves (map (without job) holders)
freed_all p job [] holders = refl
freed_all p job (s ∷ shelves) [] = refl
freed_all p job (s ∷ shelves) (k ∷ holders) =
    ap (λ d. d ∷ freed (devices_of p shelves holders) job) (closed_device p job s k)
    ∙ ap (λ l. device_of p s (without job k) ∷ l) (freed_all p job shelves holders)

-- ---- a session is taken

taken_if : (b : Bool) (p job : ℕ) (s : Shelf) → b ≡ false → 0 < s.left
    → ◌≡◌ {A = Device} (record { name = s.name; sessions = cond b p (s.left + s.taken); taken = cond b 0 s.taken + 1; holder = Some job })
    (record { name = s.name; sessions = cond b p ((s.left - 1) + (s.taken + 1)); taken = cond b 0 (s.taken + 1); holder = Some job })
taken_if true p job s other some = absurd (let no : ⊥ = cc in no)
taken_if false p job s other some =
    let with : ℕ → Device = λ n. record { name = s.name; sessions = n; taken = s.taken + 1; holder = Some job } in
    let as_many : s.left + s.taken ≡ (s.left - 1) + (s.taken + 1) = omega (arith, some) in
    ap with as_many

pub opened_there : (p job : ℕ) (name : List ℕ) (shelves : List Shelf) (holders : List (Option ℕ)) (at : ℕ) (s : Shelf) → length holders ≡ length shelves
    → position (is_named name) shelves ≡ Some at → s ≡ get_or shelves at s → bytes_eq s.name principal ≡ false → 0 < s.left
    → with_device (devices_of p shelves holders) name (opened_by job) ≡ devices_of p (after_take name shelves) (set holders at (Some job))
opened_there p job name shelves holders at s same is here other some =
    let there = found name shelves at s is in
    changed_there p name (opened_by job) shelves holders at s None (one_taken s) (Some job) same there
    (ap (λ (x : Shelf). opened_by job (device_of p x (get_or holders at None))) (sym here) ∙ taken_if (bytes_eq s.name principal) p job s other some)
    ∙ ap (λ l. devices_of p l (set holders at (Some job)))
    (ap (λ (x : Shelf). set shelves at (one_taken x)) here ∙ sym (with_first-at (is_named name) one_taken shelves at s there.within there.here there.before))

-- What is known of a name other than the principal one at its place.
pub record IsPlaced (p : ℕ) (name : List ℕ) (shelves : List Shelf) (holders : List (Option ℕ)) (at : ℕ) (h : Option ℕ) : Type 0 where
  pub shelf : Shelf
  pub here : shelf ≡ get_or shelves at shelf
  pub device : device_at (devices_of p shelves holders) name ≡ Some (device_of p shelf (get_or holders at h))
  pub other : bytes_eq shelf.name principal ≡ false
  pub left : left_of name shelves ≡ shelf.left

pub placed : (p : ℕ) (name : List ℕ) (shelves : List Shelf) (holders : List (Option ℕ)) (at : ℕ) (h : Option ℕ) → length holders ≡ length shelves
    → position (is_named name) shelves ≡ Some at → bytes_eq name principal ≡ false → IsPlaced p name shelves holders at h
placed p name shelves holders at h same is other =
    let d : Shelf = record { name = name; left = 0; taken = 0 } in
    let there = found name shelves at d is in
    let s = get_or shelves at d in
    let here : s ≡ get_or shelves at s = get_or_default shelves at d s there.within in
    record {
      shelf = s;
      here = here;
      device = device_there p name shelves holders at d h same there;
      other = ap (λ n. bytes_eq n principal) ((bytes_eq-Decides s.name name).0 there.here) ∙ other;
      left = (found-named name shelves at s is here).left;
    }

-- whether another name has a session left
pub none_left : (p : ℕ) (s : Shelf) (k : Option ℕ) → bytes_eq s.name principal ≡ false → s.left ≡ 0 → nat_lt (device_of p s k).taken (device_of p s k).sessions ≡ false
none_left p s k other none = at (bytes_eq s.name principal) other where
  at : (b : Bool) → b ≡ false → nat_lt (cond b 0 s.taken) (cond b p (s.left + s.taken)) ≡ false
  at true is = absurd (let no : ⊥ = cc in no)
  at false is = grind (arith, none)

pub some_left : (p : ℕ) (s : Shelf) (k : Option ℕ) → bytes_eq s.name principal ≡ false → 0 < s.left → nat_lt (device_of p s k).taken (device_of p s k).sessions ≡ true
some_left p s k other some = at (bytes_eq s.name principal) other where
  at : (b : Bool) → b ≡ false → nat_lt (cond b 0 s.taken) (cond b p (s.left + s.taken)) ≡ true
  at true is = absurd (let no : ⊥ = cc in no)
  at false is = grind (arith, some)

pub by_left : (p : ℕ) (s : Shelf) (k : Option ℕ) → bytes_eq s.name principal ≡ false → nat_lt (device_of p s k).taken (device_of p s k).sessions ≡ nat_lt 0 s.left
by_left p s k other = by (nat_lt 0 s.left) refl where
  by : (b : Bool) → nat_lt 0 s.left ≡ b → nat_lt (device_of p s k).taken (device_of p s k).sessions ≡ nat_lt 0 s.left
  by true is = some_left p s k other (grind (arith, is)) ∙ sym is
  by false is = none_left p s k other (grind (arith, is)) ∙ sym is

-- ---- rows that are claimed, and the beginning

-- a principal session that goes to its job changes no device
pub same_devices : (p : ℕ) (shelves : List Shelf) (holders : List (Option ℕ)) → devices_of p (after_take principal shelves) holders ≡ devices_of p shelves holders
same_devices p [] holders = refl
same_devices p (s ∷ shelves) [] = none (is_named principal s) where
  none : (b : Bool) → devices_of p (cond b (one_taken s ∷ shelves) (s ∷ after_take principal shelves)) [] ≡ []
  none true = refl
  none false = refl
same_devices p (s ∷ shelves) (k ∷ holders) = by_name (is_named principal s) refl (same_devices p shelves holders) where
  with : ℕ → ℕ → Device
  with sessions taken = record { name = s.name; sessions = sessions; taken = taken; holder = k }

  by_name : (b : Bool) → is_named principal s ≡ b → devices_of p (after_take principal shelves) holders ≡ devices_of p shelves holders
      → devices_of p (cond b (one_taken s ∷ shelves) (s ∷ after_take principal shelves)) (k ∷ holders) ≡ device_of p s k ∷ devices_of p shelves holders
  by_name true is rest =
      ap (λ b. with (cond b p ((s.left - 1) + (s.taken + 1))) (cond b 0 (s.taken + 1)) ∷ devices_of p shelves holders) is
      ∙ sym (ap (λ b. with (cond b p (s.left + s.taken)) (cond b 0 s.taken) ∷ devices_of p shelves holders) is)
  by_name false is rest = ap (λ l. device_of p s k ∷ l) rest

-- where nobody holds a device
pub free_all : (p : ℕ) (shelves : List Shelf) → devices_of p shelves (replicate (length shelves) None) ≡ free_devices p shelves
free_all p [] = refl
free_all p (s ∷ shelves) = ap (λ l. device_of p s None ∷ l) (free_all p shelves)
