-- Which job holds a device: only by an OPEN that got it, and no more behind its CLOSE.
use Rattle.std.proofs.Common.{◌≡◌, ℕ, ◌+◌, List, [], ◌∷◌, ◌++◌, map, length, Bool, true, false, Option, Some, None, refl, ap, sym, ◌∙◌, subst, eq-eqb}
use Rattle.std.specs.Prelude.{ℤ, ◌==◌, nat_lt, if◌then◌else◌}
use Rattle.std.specs.Str.{bytes_eq}
use Rattle.mj_ask.specs.declared.ask.Ask.{Ask}
use Rattle.mj_ask.specs.declared.ask.Ask.TheVariants as asks
use Rattle.mj_ask.specs.declared.ask.SharedAsk.{SharedAsk}
use Rattle.mj_ask.specs.declared.ask.SharedAsk.TheVariants as shared_asks
use Rattle.mj_ask.specs.declared.ask.Reply.TheVariants as replies
use Rattle.mj_ask.specs.Late.{is_timed_out}
use Rattle.mj_locktab.specs.declared.taken.Taken.{Taken}
use Rattle.mj_locktab.specs.declared.taken.Taken.TheVariants as takes
use Rattle.mj_locktab.specs.Locks.{Locks}
use Rattle.mj_locktab.specs.Tries.{outcome_of, after_try}
use Rattle.mj_dev.specs.Shelves.{principal}
use Rattle.mj_jobs.specs.Rows.{opened}
use Rattle.mj_sys.specs.Devices.{Device, Devices, device_at, holder_of, is_held_by, with_device, opened_by, released_by, freed}
use Rattle.mj_sys.specs.Shared.{Shared, tried, busy, has_room, open_named, open_known, open_free, answered, served}
use Rattle.mj_sys.specs.History.{left_by}
use Rattle.mj_jobvm.proofs.Names.{same_name, never}

-- Changes of devices.

-- a change gives no device to this job
abbrev pub GivesNone : ℕ → (Device → Device) → Type 0
GivesNone job f = (d : Device) → (f d).holder ≡ Some job → d.holder ≡ Some job

abbrev holder_in : Option Device → Option ℕ
holder_in o = elim o [ None ↦ None | Some d ↦ d.holder ]

module _ (job : ℕ) (f : Device → Device) (named : (d : Device) → (f d).name ≡ d.name) where
  -- but where the name is that of the device, none is given by any change
  pub with_gives_none : (devices : Devices) (name x : List ℕ) → (bytes_eq name x ≡ true → GivesNone job f) → holder_of (with_device devices name f) x ≡ Some job
      → holder_of devices x ≡ Some job
  with_gives_none [] name x gives e = e
  with_gives_none (d ∷ devices) name x gives e = by (bytes_eq d.name name) refl e (λ q. with_gives_none devices name x gives q)
    where
      there : bytes_eq d.name name ≡ true → (n : List ℕ) → n ≡ d.name → (b : Bool) → bytes_eq d.name x ≡ b → holder_in (if bytes_eq n x then Some (f d) else device_at devices x) ≡ Some job
          → holder_in (if b then Some d else device_at devices x) ≡ Some job
      there own n is true q held =
          gives (ap (λ m. bytes_eq m x) (sym (same_name d.name name own)) ∙ q) d (sym (ap (λ c. holder_in (if c then Some (f d) else device_at devices x)) (ap (λ m. bytes_eq m x) is ∙ q)) ∙ held)
      there own n is false q held = sym (ap (λ c. holder_in (if c then Some (f d) else device_at devices x)) (ap (λ m. bytes_eq m x) is ∙ q)) ∙ held

      later : (b : Bool) → holder_in (if b then Some d else device_at (with_device devices name f) x) ≡ Some job
          → (holder_of (with_device devices name f) x ≡ Some job → holder_of devices x ≡ Some job) → holder_in (if b then Some d else device_at devices x) ≡ Some job
      later true held rest = held
      later false held rest = rest held

      by : (b : Bool) → bytes_eq d.name name ≡ b → holder_of (if b then f d ∷ devices else d ∷ with_device devices name f) x ≡ Some job
          → (holder_of (with_device devices name f) x ≡ Some job → holder_of devices x ≡ Some job) → holder_of (d ∷ devices) x ≡ Some job
      by true own held rest = there own (f d).name (named d) (bytes_eq d.name x) refl held
      by false own held rest = later (bytes_eq d.name x) held rest

  pub map_gives_none : GivesNone job f → (devices : Devices) (x : List ℕ) → holder_of (map f devices) x ≡ Some job → holder_of devices x ≡ Some job
  map_gives_none gives [] x e = e
  map_gives_none gives (d ∷ devices) x e = by (f d).name (named d) (bytes_eq d.name x) refl e (λ q. map_gives_none gives devices x q)
    where
      by : (n : List ℕ) → n ≡ d.name → (b : Bool) → bytes_eq d.name x ≡ b → holder_in (if bytes_eq n x then Some (f d) else device_at (map f devices) x) ≡ Some job
          → (holder_of (map f devices) x ≡ Some job → holder_of devices x ≡ Some job) → holder_in (if b then Some d else device_at devices x) ≡ Some job
      by n is true q held rest = gives d (sym (ap (λ c. holder_in (if c then Some (f d) else device_at (map f devices) x)) (ap (λ m. bytes_eq m x) is ∙ q)) ∙ held)
      by n is false q held rest = rest (sym (ap (λ c. holder_in (if c then Some (f d) else device_at (map f devices) x)) (ap (λ m. bytes_eq m x) is ∙ q)) ∙ held)

  -- a change of the device of a name that takes it from the job
  pub with_takes : ((d : Device) → (f d).holder ≡ Some job → ⊥) → (devices : Devices) (name x : List ℕ) → bytes_eq name x ≡ true
      → holder_of (with_device devices name f) x ≡ Some job → ⊥
  with_takes takes [] name x is held = let no : None ≡ Some job = held in cc
  with_takes takes (d ∷ devices) name x is held = by (bytes_eq d.name name) refl held (λ q. with_takes takes devices name x is q)
    where
      by : (b : Bool) → bytes_eq d.name name ≡ b → holder_of (if b then f d ∷ devices else d ∷ with_device devices name f) x ≡ Some job
          → (holder_of (with_device devices name f) x ≡ Some job → ⊥) → ⊥
      by true e q rest =
          let here : bytes_eq (f d).name x ≡ true = ap (λ n. bytes_eq n x) (named d) ∙ ap (λ n. bytes_eq n x) (same_name d.name name e) ∙ is in
          takes d (sym (ap (λ c. holder_in (if c then Some (f d) else device_at devices x)) here) ∙ q)
      by false e q rest =
          let past : bytes_eq d.name x ≡ false = subst (λ n. bytes_eq d.name n ≡ false) (same_name name x is) e in
          rest (sym (ap (λ c. holder_in (if c then Some d else device_at (with_device devices name f) x)) past) ∙ q)

-- Those that there are.

released_name : (job : ℕ) (d : Device) → (released_by job d).name ≡ d.name
released_name job d = by (is_held_by job d)
  where
    by : (b : Bool) → (if b then record d { holder = None } else d).name ≡ d.name
    by true = refl
    by false = refl

released_gives_none : (job other : ℕ) → GivesNone job (released_by other)
released_gives_none job other d held = by (is_held_by other d) held
  where
    by : (b : Bool) → (if b then record d { holder = None } else d).holder ≡ Some job → d.holder ≡ Some job
    by true q = let no : None ≡ Some job = q in absurd cc
    by false q = q

released_takes : (job : ℕ) (d : Device) → (released_by job d).holder ≡ Some job → ⊥
released_takes job d held = by (is_held_by job d) refl held
  where
    by : (b : Bool) → is_held_by job d ≡ b → (if b then record d { holder = None } else d).holder ≡ Some job → ⊥
    by true e q = let no : None ≡ Some job = q in cc
    by false e q = never (is_held_by job d) (ap (λ (o : Option ℕ). elim o as (λ x. Bool) [ None ↦ false | Some holder ↦ holder == job ]) q ∙ eq-eqb job job refl) e

opened_gives_none : (job other : ℕ) → (other == job) ≡ false → GivesNone job (opened_by other)
opened_gives_none job other apart d held =
    let is : Some other ≡ Some job = held in let same : other ≡ job = cc in absurd (never (other == job) (eq-eqb other job same) apart)

-- What an ask leaves.

-- an ask by which no device goes or comes
abbrev pub KeepsDevices : SharedAsk → Type 0
KeepsDevices (shared_asks.Open name timeout) = ⊥
KeepsDevices (shared_asks.Close name) = ⊥
KeepsDevices (shared_asks.Halt fault) = ⊥
KeepsDevices _ = Unit {0}

pub keeps_devices : (s : Shared) (job : ℕ) (a : SharedAsk) → KeepsDevices a → (left_by s (answered s job a true)).devices ≡ s.devices
keeps_devices s job (shared_asks.Try names timeout) keeps = by (outcome_of s.locks job names) (after_try s.locks job names)
  where
    by_time : (b : Bool) → (left_by s (if b then Some (replies.Late, s) else None)).devices ≡ s.devices
    by_time true = refl
    by_time false = refl

    by : (taken : Taken) (locks : Locks) → (left_by s (tried s job names timeout true taken locks)).devices ≡ s.devices
    by takes.Got locks = refl
    by (takes.Busy holder name) locks = by_time (is_timed_out timeout true)
    by takes.Limit locks = refl
keeps_devices s job (shared_asks.Open name timeout) keeps = absurd keeps
keeps_devices s job (shared_asks.Close name) keeps = absurd keeps
keeps_devices s job (shared_asks.Start start timeout) keeps = by (has_room s)
  where
    more : Shared
    more = record s { rows = s.rows ++ opened start ∷ []; transactions = s.transactions ++ None ∷ [] }

    by : (b : Bool) → (left_by s (Some (if b then (replies.Job (length s.rows + 1), more) else (replies.Limit, s)))).devices ≡ s.devices
    by true = refl
    by false = refl
keeps_devices s job (shared_asks.Halt fault) keeps = absurd keeps
keeps_devices s job _ keeps = refl

-- what another job asks gives this job no device
module _ (s : Shared) (job other : ℕ) (apart : (other == job) ≡ false) (x : List ℕ) where
  abbrev HeldIn : Shared → Type 0
  HeldIn t = holder_of t.devices x ≡ Some job

  opens_free : (name : List ℕ) (d : Device) → HeldIn (left_by s (Some (open_free s other name d))) → HeldIn s
  opens_free name d = by (nat_lt d.taken d.sessions)
    where
      by : (b : Bool) → HeldIn (left_by s (Some (if b then (replies.Got, record s { devices = with_device s.devices name (opened_by other) }) else (replies.NoSession, s)))) → HeldIn s
      by true held = with_gives_none job (opened_by other) (λ e. refl) s.devices name x (λ is. opened_gives_none job other apart) held
      by false held = held

  opens_known : (name : List ℕ) (timeout : Option ℤ) (d : Device) → HeldIn (left_by s (open_known s other name timeout true d)) → HeldIn s
  opens_known name timeout d = by d.holder
    where
      by_time : (b : Bool) → HeldIn (left_by s (if b then Some (replies.Late, s) else None)) → HeldIn s
      by_time true held = held
      by_time false held = held

      by_holder : (b : Bool) → HeldIn (left_by s (if b then Some (replies.Got, s) else busy s timeout true)) → HeldIn s
      by_holder true held = held
      by_holder false held = by_time (is_timed_out timeout true) held

      by : (o : Option ℕ) → HeldIn (left_by s (elim o [ None ↦ Some (open_free s other name d) | Some holder ↦ if holder == other then Some (replies.Got, s) else busy s timeout true ])) → HeldIn s
      by None held = opens_free name d held
      by (Some holder) held = by_holder (holder == other) held

  opens_named : (name : List ℕ) (timeout : Option ℤ) → HeldIn (left_by s (open_named s other name timeout true)) → HeldIn s
  opens_named name timeout = by (bytes_eq name principal)
    where
      by_device : (o : Option Device) → HeldIn (left_by s (elim o [ None ↦ Some (replies.NoSession, s) | Some d ↦ open_known s other name timeout true d ])) → HeldIn s
      by_device None held = held
      by_device (Some d) held = opens_known name timeout d held

      by : (b : Bool) → HeldIn (left_by s (if b then Some (replies.Got, s)
          else elim (device_at s.devices name) [ None ↦ Some (replies.NoSession, s) | Some d ↦ open_known s other name timeout true d ])) → HeldIn s
      by true held = held
      by false held = by_device (device_at s.devices name) held

  kept : (a : SharedAsk) → KeepsDevices a → HeldIn (left_by s (answered s other a true)) → HeldIn s
  kept a keeps held = subst (λ d. holder_of d x ≡ Some job) (keeps_devices s other a keeps) held

  pub others_give_none : (a : Ask) → HeldIn (left_by s (served s other a true)) → HeldIn s
  others_give_none (asks.Device name a) held = held
  others_give_none (asks.Rest time) held = held
  others_give_none (asks.Shared (shared_asks.Open name timeout)) held = opens_named name timeout held
  others_give_none (asks.Shared (shared_asks.Close name)) held =
      with_gives_none job (released_by other) (released_name other) s.devices name x (λ is. released_gives_none job other) held
  others_give_none (asks.Shared (shared_asks.Halt fault)) held =
      map_gives_none job (released_by other) (released_name other) (released_gives_none job other) s.devices x held
  others_give_none (asks.Shared a) held = kept a tt held

-- and what the job itself asks, but for an OPEN, gives it none either, and a CLOSE takes that from it
module _ (s : Shared) (job : ℕ) (x : List ℕ) where
  pub own_gives_none : (a : SharedAsk) → KeepsDevices a → holder_of (left_by s (answered s job a true)).devices x ≡ Some job → holder_of s.devices x ≡ Some job
  own_gives_none a keeps held = subst (λ d. holder_of d x ≡ Some job) (keeps_devices s job a keeps) held

  pub halt_gives_none : holder_of (freed s.devices job) x ≡ Some job → holder_of s.devices x ≡ Some job
  halt_gives_none held = map_gives_none job (released_by job) (released_name job) (released_gives_none job job) s.devices x held

  pub close_gives_none : (name : List ℕ) → holder_of (with_device s.devices name (released_by job)) x ≡ Some job → holder_of s.devices x ≡ Some job
  close_gives_none name held = with_gives_none job (released_by job) (released_name job) s.devices name x (λ is. released_gives_none job job) held

  -- that of another name an OPEN doesn't give either
  pub open_gives_none : (name : List ℕ) → bytes_eq name x ≡ false → holder_of (with_device s.devices name (opened_by job)) x ≡ Some job → holder_of s.devices x ≡ Some job
  open_gives_none name other held = with_gives_none job (opened_by job) (λ d. refl) s.devices name x (λ is. never (bytes_eq name x) is other) held

  pub close_takes : (name : List ℕ) → bytes_eq name x ≡ true → holder_of (with_device s.devices name (released_by job)) x ≡ Some job → ⊥
  close_takes name is held = with_takes job (released_by job) (released_name job) (released_takes job) s.devices name x is held
