-- By a history a job has just the sessions that its links say, as long as it asks what fits.
use Rattle.std.proofs.Common.{◌≡◌, ℕ, List, [], ◌∷◌, Bool, true, false, Option, Some, None, refl, ap, sym, ◌∙◌, subst, inl, inr, eqb→eq}
use Rattle.std.specs.Prelude.{ℤ, T, ◌==◌, ◌⊎◌, ◌&&◌, nat_lt, is_none, if◌then◌else◌}
use Rattle.std.specs.Str.{bytes_eq}
use Rattle.mj_ask.specs.declared.ask.Ask.{Ask}
use Rattle.mj_ask.specs.declared.ask.Ask.TheVariants as asks
use Rattle.mj_ask.specs.declared.ask.SharedAsk.{SharedAsk}
use Rattle.mj_ask.specs.declared.ask.SharedAsk.TheVariants as shared_asks
use Rattle.mj_ask.specs.declared.ask.DeviceAsk.{DeviceAsk}
use Rattle.mj_ask.specs.declared.ask.DeviceAsk.TheVariants as device_asks
use Rattle.mj_ask.specs.declared.ask.Reply.{Reply}
use Rattle.mj_ask.specs.declared.ask.Reply.TheVariants as replies
use Rattle.mj_ask.specs.Fits.{is_shared}
use Rattle.mj_ask.specs.Late.{is_timed_out}
use Rattle.mj_dev.specs.Shelves.{principal}
use Rattle.mj_semantics.specs.Outcome.{is_failed}
use Rattle.mj_semantics.specs.Devices.{is_got}
use Rattle.mj_sys.specs.declared.event.Event.{Event}
use Rattle.mj_sys.specs.Devices.{Device, device_at, holder_of, with_device, opened_by}
use Rattle.mj_sys.specs.Shared.{Shared, busy, open_free, open_known, answered, served, has_session, moves_session}
use Rattle.mj_sys.specs.History.{History, left_by, after, log_of}
use Rattle.mj_jobvm.specs.Fit.{Link, Links, is_end, link_called, link_behind, links_behind, links_after, IsFit, AreFit}
use Rattle.mj_jobvm.proofs.Names.{never}
use Rattle.mj_jobvm.proofs.Fits.{called_session}
use Rattle.mj_core.specs.Happen.{Happens, AllHappen}
use Rattle.mj_core.specs.Having.{has_behind, has_after}
use Rattle.mj_fit.proofs.Holding.{KeepsDevices, others_give_none, own_gives_none, halt_gives_none, close_gives_none, open_gives_none, close_takes}

-- What a job gets by an OPEN that fits.

module _ (s : Shared) (job : ℕ) (name : List ℕ) (timeout : Option ℤ) (late : Bool) (reply : Reply) (t : Shared) (other : bytes_eq name principal ≡ false)
    (unheld : holder_of s.devices name ≡ Some job → ⊥) where
  -- where no session comes with it, nothing does; and one comes with the name
  abbrev pub Comes : Bool → Type 0
  Comes moves =
      ((moves ≡ false) × (is_got reply ≡ false) × (t ≡ s)) ⊎ ((moves ≡ true) × (is_got reply ≡ true) × (t.devices ≡ with_device s.devices name (opened_by job)))

  -- so it is where it is told this
  abbrev Goes : Option (Reply × Shared) → Bool → Type 0
  Goes told moves = told ≡ Some (reply, t) → Comes moves

  is_told : (r : Reply) (u : Shared) → ◌≡◌ {A = Option (Reply × Shared)} (Some (r, u)) (Some (reply, t)) → (reply ≡ r) × (t ≡ u)
  is_told r u same =
      let both : ◌≡◌ {A = Reply × Shared} (r, u) (reply, t) = cc in
      (sym (ap (λ (p : Reply × Shared). p.0) both), sym (ap (λ (p : Reply × Shared). p.1) both))

  nothing : (r : Reply) → is_got r ≡ false → Goes (Some (r, s)) false
  nothing r no_device told = let same = is_told r s told in inl (refl, ap is_got same.0 ∙ no_device, same.1)

  by_left : (b : Bool) → Goes (Some (if b then (replies.Got, record s { devices = with_device s.devices name (opened_by job) }) else (replies.NoSession, s))) b
  by_left true told =
      let same = is_told replies.Got (record s { devices = with_device s.devices name (opened_by job) }) told in
      inr (refl, ap is_got same.0, ap (λ (u : Shared). u.devices) same.1)
  by_left false told = nothing replies.NoSession refl told

  by_time : (b : Bool) → Goes (if b then Some (replies.Late, s) else None) false
  by_time true told = nothing replies.Late refl told
  by_time false told = absurd cc

  by_job : (d : Device) (h : ℕ) → device_at s.devices name ≡ Some d → d.holder ≡ Some h → (b : Bool) → (h == job) ≡ b → Goes (if b then Some (replies.Got, s) else busy s timeout late) false
  by_job d h there held true is told =
      let same : h ≡ job = eqb→eq h job (subst T (sym is) tt) in
      absurd (unheld (ap (λ (o : Option Device). elim o as (λ x. Option ℕ) [ None ↦ None | Some x ↦ x.holder ]) there ∙ held ∙ ap Some same))
  by_job d h there held false is told = by_time (is_timed_out timeout late) told

  by_holder : (d : Device) → device_at s.devices name ≡ Some d → (o : Option ℕ) → d.holder ≡ o
      → Goes (elim o [ None ↦ Some (open_free s job name d) | Some h ↦ if h == job then Some (replies.Got, s) else busy s timeout late ]) (is_none o && nat_lt d.taken d.sessions)
  by_holder d there None free told = by_left (nat_lt d.taken d.sessions) told
  by_holder d there (Some h) held told = by_job d h there held (h == job) refl told

  by_device : (o : Option Device) → device_at s.devices name ≡ o
      → Goes (elim o [ None ↦ Some (replies.NoSession, s) | Some d ↦ open_known s job name timeout late d ]) (elim o [ None ↦ false | Some d ↦ has_session d ])
  by_device None none told = nothing replies.NoSession refl told
  by_device (Some d) there told = by_holder d there d.holder refl told

  by_name : (b : Bool) → bytes_eq name principal ≡ b
      → Goes (if b then Some (replies.Got, s) else elim (device_at s.devices name) [ None ↦ Some (replies.NoSession, s) | Some d ↦ open_known s job name timeout late d ])
      (if b then false else elim (device_at s.devices name) [ None ↦ false | Some d ↦ has_session d ])
  by_name true is told = never (bytes_eq name principal) is other
  by_name false is told = by_device (device_at s.devices name) refl told

  pub comes : answered s job (shared_asks.Open name timeout) late ≡ Some (reply, t) → Comes (moves_session s (shared_asks.Open name timeout))
  comes told = by_name (bytes_eq name principal) refl told

-- Sessions behind an ask.

module _ (s : Shared) (name : List ℕ) (r : Reply) (link : Link) (has : Bool) (is : has ≡ link.session) where
  called : (device : List ℕ) (x : DeviceAsk) → is_end x ≡ false → has ≡ (link_behind name (asks.Device device x) r link).session
  called device x on = by (bytes_eq device name)
    where
      by : (b : Bool) → has ≡ (if b then link_called x r link else link).session
      by true = is ∙ sym (called_session x r link on)
      by false = is

  pub has_called : (device : List ℕ) (x : DeviceAsk) → has_behind s name (asks.Device device x) has ≡ (link_behind name (asks.Device device x) r link).session
  has_called device device_asks.End = by (bytes_eq device name)
    where
      by : (b : Bool) → (if b then false else has) ≡ (if b then link_called device_asks.End r link else link).session
      by true = refl
      by false = is
  has_called device x = called device x refl

  pub has_opened : (device : List ℕ) (timeout : Option ℤ) → moves_session s (shared_asks.Open device timeout) ≡ is_got r
      → has_behind s name (asks.Shared (shared_asks.Open device timeout)) has ≡ (link_behind name (asks.Shared (shared_asks.Open device timeout)) r link).session
  has_opened device timeout same = by (bytes_eq device name) (moves_session s (shared_asks.Open device timeout)) (is_got r) same
    where
      by : (b c d : Bool) → c ≡ d → (if b && c then true else has) ≡ (if b then (if d then record link { session = true; named = true } else link) else link).session
      by true true true q = refl
      by true false false q = is
      by true true false q = never true refl q
      by true false true q = never false q refl
      by false c d q = is

  pub has_closed : (device : List ℕ)
      → has_behind s name (asks.Shared (shared_asks.Close device)) has ≡ (link_behind name (asks.Shared (shared_asks.Close device)) r link).session
  has_closed device = by (bytes_eq device name)
    where
      by : (b : Bool) → has ≡ (if b then record link { named = false } else link).session
      by true = is
      by false = is

-- One event.

-- each device that the job holds is one whose name is its own
abbrev pub IsHeld : ℕ → Shared → Links → Type 0
IsHeld job s links = (x : List ℕ) → holder_of s.devices x ≡ Some job → (links x).named ≡ true

-- the sessions behind an ask are those that the links say then
abbrev HasBehind : Shared → Ask → Reply → Links → Type 0
HasBehind s a r links = (name : List ℕ) (has : Bool) → has ≡ (links name).session → has_behind s name a has ≡ (links_behind links a r name).session

-- the ask is told so, where it is one to the shared state
abbrev IsTold : Shared → ℕ → Ask → Reply → Type 0
IsTold s job a r = is_shared a ≡ true → (late : Bool) × (served s job a late ≡ Some (r, left_by s (served s job a true)))

called_named : (x : DeviceAsk) (r : Reply) (link : Link) → (link_called x r link).named ≡ link.named
called_named x r link = by (is_end x) (is_failed r)
  where
    by : (b c : Bool) → (if b then record link { session = false; failed = false } else if c then record link { failed = true } else link).named ≡ link.named
    by true c = refl
    by false true = refl
    by false false = refl

module _ (s : Shared) (job : ℕ) (r : Reply) (links : Links) (held : IsHeld job s links) where
  abbrev After : Ask → Type 0
  After a = IsHeld job (left_by s (served s job a true)) (links_behind links a r) × HasBehind s a r links

  by_call : (device : List ℕ) (x : DeviceAsk) → After (asks.Device device x)
  by_call device x = ((λ y there. by y (bytes_eq device y) (held y there)), (λ name has is. has_called s name r (links name) has is device x))
    where
      by : (y : List ℕ) (b : Bool) → (links y).named ≡ true → (if b then link_called x r (links y) else links y).named ≡ true
      by y true named = called_named x r (links y) ∙ named
      by y false named = named

  by_close : (device : List ℕ) → After (asks.Shared (shared_asks.Close device))
  by_close device = ((λ y there. by y there (bytes_eq device y) refl), (λ name has is. has_closed s name r (links name) has is device))
    where
      by : (y : List ℕ) → holder_of (left_by s (answered s job (shared_asks.Close device) true)).devices y ≡ Some job → (b : Bool) → bytes_eq device y ≡ b
          → (if b then record (links y) { named = false } else links y).named ≡ true
      by y there true is = absurd (close_takes s job y device is there)
      by y there false is = held y (close_gives_none s job y device there)

  by_open : (device : List ℕ) (timeout : Option ℤ) → IsFit links (asks.Shared (shared_asks.Open device timeout)) → IsTold s job (asks.Shared (shared_asks.Open device timeout)) r
      → After (asks.Shared (shared_asks.Open device timeout))
  by_open device timeout fit told = goes (comes s job device timeout (told refl).0 r (left_by s (answered s job (shared_asks.Open device timeout) true)) fit.0 unheld (told refl).1)
    where
      unheld : holder_of s.devices device ≡ Some job → ⊥
      unheld there = never (links device).named (held device there) fit.2

      still : (y : List ℕ) (b c : Bool) → (links y).named ≡ true → (if b then (if c then record (links y) { session = true; named = true } else links y) else links y).named ≡ true
      still y true true named = refl
      still y true false named = named
      still y false c named = named

      got_it : (y : List ℕ) → holder_of (with_device s.devices device (opened_by job)) y ≡ Some job → (b c : Bool) → bytes_eq device y ≡ b → c ≡ true
          → (if b then (if c then record (links y) { session = true; named = true } else links y) else links y).named ≡ true
      got_it y there true true is q = refl
      got_it y there true false is q = never false q refl
      got_it y there false c is q = held y (open_gives_none s job y device is there)

      goes : Comes s job device timeout (told refl).0 r (left_by s (answered s job (shared_asks.Open device timeout) true)) fit.0 unheld
          (moves_session s (shared_asks.Open device timeout))
          → After (asks.Shared (shared_asks.Open device timeout))
      goes (inl k) = (
        (λ y there. still y (bytes_eq device y) (is_got r) (held y (subst (λ u. holder_of u.devices y ≡ Some job) k.2 there))),
        (λ name has is. has_opened s name r (links name) has is device timeout (k.0 ∙ sym k.1)),
      )
      goes (inr k) = (
        (λ y there. got_it y (subst (λ d. holder_of d y ≡ Some job) k.2 there) (bytes_eq device y) (is_got r) refl k.1),
        (λ name has is. has_opened s name r (links name) has is device timeout (k.0 ∙ sym k.1)),
      )

  keeps : (a : SharedAsk) → KeepsDevices a → (y : List ℕ) → holder_of (left_by s (answered s job a true)).devices y ≡ Some job → (links y).named ≡ true
  keeps a leaves y there = held y (own_gives_none s job y a leaves there)

  goes_on : (a : Ask) → IsFit links a → IsTold s job a r → After a
  goes_on (asks.Device device x) fit told = by_call device x
  goes_on (asks.Rest time) fit told = (held, (λ name has is. is))
  goes_on (asks.Shared (shared_asks.Open device timeout)) fit told = by_open device timeout fit told
  goes_on (asks.Shared (shared_asks.Close device)) fit told = by_close device
  goes_on (asks.Shared (shared_asks.Halt fault)) fit told = ((λ y there. held y (halt_gives_none s job y there)), (λ name has is. is))
  goes_on (asks.Shared a) fit told = (keeps a tt, (λ name has is. is))

-- Histories.

own_event : (s : Shared) (e : Event) (job : ℕ) (links : Links) → e.job ≡ job → Happens s e → IsFit links e.ask → IsHeld job s links
    → IsHeld job (after s e) (links_behind links e.ask e.reply) × HasBehind s e.ask e.reply links
own_event s e job links own happens fit held =
    let of_event : ℕ → Type 0 = λ j. IsHeld j (after s e) (links_behind links e.ask e.reply) × HasBehind s e.ask e.reply links in
    let before : ℕ → Type 0 = λ j. IsHeld j s links in
    subst of_event own (goes_on s e.job e.reply links (subst before (sym own) held) e.ask fit (λ shared. (happens.1 shared).2))

pub has_is : (name : List ℕ) (job : ℕ) (history : History) (s : Shared) (links : Links) (has : Bool) → AllHappen s history → IsHeld job s links → AreFit links (log_of job history)
    → has ≡ (links name).session → has_after s job name has history ≡ (links_after links (log_of job history) name).session
has_is name job [] s links has happen held fit is = is
has_is name job (e ∷ history) s links has happen held fit is =
    by (e.job == job) refl fit
    (λ more links' has' held' fit' is'. has_is name job history (after s e) links' has' more held' fit' is')
  where
    by : (b : Bool) → (e.job == job) ≡ b → AreFit links (if b then (e.ask, e.reply) ∷ log_of job history else log_of job history)
        → ((more : AllHappen (after s e) history) (links' : Links) (has' : Bool) → IsHeld job (after s e) links' → AreFit links' (log_of job history) → has' ≡ (links' name).session
        → has_after (after s e) job name has' history ≡ (links_after links' (log_of job history) name).session)
        → has_after (after s e) job name (if b then has_behind s name e.ask has else has) history
        ≡ (links_after links (if b then (e.ask, e.reply) ∷ log_of job history else log_of job history) name).session
    by true own fits rest =
        let one = own_event s e job links (eqb→eq e.job job (subst T (sym own) tt)) happen.0 fits.0 held in
        rest happen.1 (links_behind links e.ask e.reply) (has_behind s name e.ask has) one.0 fits.1 (one.1 name has is)
    by false other fits rest = rest happen.1 links has (λ x there. held x (others_give_none s job e.job other x e.ask there)) fits is
