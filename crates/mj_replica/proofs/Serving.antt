-- What the shared state tells an ask that is late is what it tells it in time, where it tells it anything then.
use Rattle.std.specs.Prelude.{ℤ, pos, int_le, ◌==◌}
use Rattle.std.specs.Str.{bytes_eq}
use Rattle.std.proofs.Common.{◌≡◌, ℕ, ◌+◌, List, [], ◌∷◌, ◌++◌, Bool, true, false, cond, Option, Some, None, refl, sym, ap, ◌∙◌, subst}
use Rattle.mj_ask.specs.declared.ask.Ask.{Ask}
use Rattle.mj_ask.specs.declared.ask.Ask.TheVariants as asks
use Rattle.mj_ask.specs.declared.ask.SharedAsk.{SharedAsk}
use Rattle.mj_ask.specs.declared.ask.SharedAsk.TheVariants as shared_asks
use Rattle.mj_ask.specs.declared.ask.Reply.{Reply}
use Rattle.mj_ask.specs.declared.ask.Reply.TheVariants as replies
use Rattle.mj_ask.specs.Fits.{is_shared}
use Rattle.mj_dev.specs.Shelves.{principal}
use Rattle.mj_jobs.specs.Rows.{IsLive}
use Rattle.mj_locktab.specs.declared.taken.Taken.{Taken}
use Rattle.mj_locktab.specs.declared.taken.Taken.TheVariants as takes
use Rattle.mj_locktab.specs.Locks.{Locks}
use Rattle.mj_locktab.specs.Tries.{outcome_of, after_try}
use Rattle.mj_subs.specs.Name.{Name}
use Rattle.mj_sys.specs.Devices.{Device, device_at}
use Rattle.mj_sys.specs.Shared.{Shared, busy, tried, open_free, open_known, answered, served}
use Rattle.mj_sys.specs.History.{state_of, after, IsServed}
use Rattle.mj_sys.specs.System.{Recorded, Claimed}
use Rattle.mj_sys.proofs.Replays.{left}
use Rattle.mj_replica.specs.Playing.{ServesIt}

module _ (s : Shared) (reply : Reply) (t : Shared) where
  abbrev Told : Option (Reply × Shared) → Type 0
  Told o = o ≡ Some (reply, t)

  busy_late : (timeout : Option ℤ) → Told (busy s timeout false) → Told (busy s timeout true)
  busy_late None e = e
  busy_late (Some n) e = by (int_le n (pos 0)) e where
    by : (b : Bool) → Told (cond b (Some (replies.Late, s)) None) → Told (Some (replies.Late, s))
    by true is = is
    by false is = absurd (let no : ◌≡◌ {A = Option (Reply × Shared)} None (Some (reply, t)) = is in cc)

  tried_late : (job : ℕ) (names : List Name) (timeout : Option ℤ) (taken : Taken) (locks : Locks)
      → Told (tried s job names timeout false taken locks) → Told (tried s job names timeout true taken locks)
  tried_late job names timeout takes.Got locks e = e
  tried_late job names timeout (takes.Busy holder name) locks e = busy_late timeout e
  tried_late job names timeout takes.Limit locks e = e

  held_late : (b : Bool) (timeout : Option ℤ) → Told (cond b (Some (replies.Got, s)) (busy s timeout false)) → Told (cond b (Some (replies.Got, s)) (busy s timeout true))
  held_late true timeout e = e
  held_late false timeout e = busy_late timeout e

  known_late : (job : ℕ) (name : List ℕ) (timeout : Option ℤ) (d : Device) (holder : Option ℕ)
      → Told (elim holder [ None ↦ Some (open_free s job name d) | Some h ↦ cond (h == job) (Some (replies.Got, s)) (busy s timeout false) ])
      → Told (elim holder [ None ↦ Some (open_free s job name d) | Some h ↦ cond (h == job) (Some (replies.Got, s)) (busy s timeout true) ])
  known_late job name timeout d None e = e
  known_late job name timeout d (Some h) e = held_late (h == job) timeout e

  found_late : (job : ℕ) (name : List ℕ) (timeout : Option ℤ) (found : Option Device)
      → Told (elim found [ None ↦ Some (replies.NoSession, s) | Some d ↦ open_known s job name timeout false d ])
      → Told (elim found [ None ↦ Some (replies.NoSession, s) | Some d ↦ open_known s job name timeout true d ])
  found_late job name timeout None e = e
  found_late job name timeout (Some d) e = known_late job name timeout d d.holder e

  named_late : (job : ℕ) (name : List ℕ) (timeout : Option ℤ) (b : Bool)
      → Told (cond b (Some (replies.Got, s)) (elim (device_at s.devices name) [ None ↦ Some (replies.NoSession, s) | Some d ↦ open_known s job name timeout false d ]))
      → Told (cond b (Some (replies.Got, s)) (elim (device_at s.devices name) [ None ↦ Some (replies.NoSession, s) | Some d ↦ open_known s job name timeout true d ]))
  named_late job name timeout true e = e
  named_late job name timeout false e = found_late job name timeout (device_at s.devices name) e

  shared_late : (job : ℕ) (ask : SharedAsk) → Told (answered s job ask false) → Told (answered s job ask true)
  shared_late job (shared_asks.Try names timeout) e = tried_late job names timeout (outcome_of s.locks job names) (after_try s.locks job names) e
  shared_late job (shared_asks.Open name timeout) e = named_late job name timeout (bytes_eq name principal) e
  shared_late job _ e = e

  ask_late : (job : ℕ) (ask : Ask) → Told (served s job ask false) → Told (served s job ask true)
  ask_late job (asks.Shared ask) e = shared_late job ask e
  ask_late job _ e = e

  pub always_late : (job : ℕ) (ask : Ask) (late : Bool) → Told (served s job ask late) → Told (served s job ask true)
  always_late job ask true e = e
  always_late job ask false e = ask_late job ask e

module _ (opening : Shared) (old new : Recorded) (claim claim' : Claimed) (ask : Ask) (reply told : Reply) where
  abbrev state : Shared
  state = state_of opening old.history

  abbrev Now : Reply → Type 0
  Now r = served state claim.job ask true ≡ Some (r, state_of opening new.history)

  same_told : (r r' : Reply) (s s' : Shared) → served state claim.job ask true ≡ Some (r, s) → served state claim.job ask true ≡ Some (r', s') → r ≡ r'
  same_told r r' s s' e e' =
      let A : Type 0 = Reply × Shared in
      let one : ◌≡◌ {A = Option A} (Some (r, s)) (Some (r', s')) = sym e ∙ e' in
      let pair : ◌≡◌ {A = A} (r, s) (r', s') = cc in
      ap (λ (p : A). p.0) pair

  -- the system told this, which is compared
  pub told_so : (served_now : Now told) → new ≡ record { history = old.history ++ record { job = claim.job; ask = ask; reply = told } ∷ []; claimed = old.claimed }
      → claim' ≡ record claim { events = claim.events + 1 }
      → (test : Bool) → (test ≡ true → told ≡ reply) → (told ≡ reply → test ≡ true) → ServesIt opening old claim ask reply test new claim'
  told_so now new_is claim_is true is only =
      let same = is refl in
      let R : Reply → Type 0 = λ r. new ≡ record { history = old.history ++ record { job = claim.job; ask = ask; reply = r } ∷ []; claimed = old.claimed } in
      (subst Now same now, subst R same new_is, claim_is)
  told_so now new_is claim_is false is only = λ left e. (
      let same = same_told told reply (state_of opening new.history) left now e in
      let no : false ≡ true = only same in cc)

  -- it was busy
  pub busy_so : served state claim.job ask true ≡ None → ServesIt opening old claim ask reply false new claim'
  busy_so none = λ left e. (let no : ◌≡◌ {A = Option (Reply × Shared)} None (Some (reply, left)) = sym none ∙ e in cc)

-- what isn't served by this reply doesn't happen
pub not_served : (s : Shared) (job : ℕ) (ask : Ask) (reply : Reply) → ((t : Shared) → served s job ask true ≡ Some (reply, t) → ⊥) → IsServed s (record { job = job; ask = ask; reply = reply }) → ⊥
not_served s job ask reply not is =
    not (after s (record { job = job; ask = ask; reply = reply })) (always_late s reply (after s (record { job = job; ask = ask; reply = reply })) job ask is.2.0 is.2.1)

-- what is served by it does
pub is_served : (s t : Shared) (job : ℕ) (ask : Ask) (reply : Reply) → IsLive s.rows job → is_shared ask ≡ true → served s job ask true ≡ Some (reply, t)
    → IsServed s (record { job = job; ask = ask; reply = reply })
is_served s t job ask reply live shared told =
    (live, shared, (true, told ∙ ap (λ x. Some (reply, x)) (sym (left s job ask true reply t told))))
