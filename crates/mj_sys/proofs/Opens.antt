-- OPEN by cases.
use Rattle.std.proofs.Common.{◌≡◌, ℕ, Bool, true, false, List, Option, Some, None, refl, sym, ap, ◌∙◌, subst, eqb→eq, eq-eqb}
use Rattle.std.specs.Prelude.{ℤ, T, nat_lt, ◌==◌, if◌then◌else◌}
use Rattle.std.specs.Str.{bytes_eq}
use Rattle.mj_ask.specs.declared.ask.SharedAsk.TheVariants as shared_asks
use Rattle.mj_ask.specs.declared.ask.Reply.{Reply}
use Rattle.mj_ask.specs.declared.ask.Reply.TheVariants as replies
use Rattle.mj_dev.specs.Shelves.{principal}
use Rattle.mj_sys.specs.Devices.{Device, device_at, with_device, opened_by, holder_of}
use Rattle.mj_ask.specs.Late.{is_timed_out}
use Rattle.mj_sys.specs.Shared.{Shared, answered, moves_session}
use Rattle.mj_sys.specs.Kept.{Service, ComesOfAsk, outcome_as}
use Rattle.mj_sys.specs.declared.served.Held.TheVariants as helds
use Rattle.mj_sys.specs.declared.shared.Answered.TheVariants as answereds

-- whether two jobs are the same, as a test
pub same_job : (h job : ℕ) → h ≡ job → (h == job) ≡ true
same_job h job is = eq-eqb h job is

pub other_job : (h job : ℕ) → (h ≡ job → ⊥) → (h == job) ≡ false
other_job h job apart = at (h == job) refl where
  at : (b : Bool) → (h == job) ≡ b → b ≡ false
  at true is = absurd (apart (eqb→eq h job (subst T (sym is) tt)))
  at false is = refl

-- it is told this, by a session or without one
abbrev pub Told : Shared → ℕ → List ℕ → Option ℤ → Bool → Reply → Shared → Bool → Type 0
Told s job name timeout late reply new by =
    (answered s job (shared_asks.Open name timeout) late ≡ Some (reply, new)) × (moves_session s (shared_asks.Open name timeout) ≡ by)

module _ (s : Shared) (job : ℕ) (name : List ℕ) (timeout : Option ℤ) (late : Bool) where
  pub own_principal : bytes_eq name principal ≡ true → Told s job name timeout late replies.Got s false
  own_principal e = (rw e refl, rw e refl)

  pub unknown : bytes_eq name principal ≡ false → device_at s.devices name ≡ None → Told s job name timeout late replies.NoSession s false
  unknown e none = (rw (e, none) refl, rw (e, none) refl)

  pub used_up : (d : Device) → bytes_eq name principal ≡ false → device_at s.devices name ≡ Some d → d.holder ≡ None → nat_lt d.taken d.sessions ≡ false
      → Told s job name timeout late replies.NoSession s false
  used_up d e there free none = (rw (e, there, free, none) refl, rw (e, there, free, none) refl)

  pub got : (d : Device) → bytes_eq name principal ≡ false → device_at s.devices name ≡ Some d → d.holder ≡ None → nat_lt d.taken d.sessions ≡ true
      → Told s job name timeout late replies.Got (record s { devices = with_device s.devices name (opened_by job) }) true
  got d e there free some = (rw (e, there, free, some) refl, rw (e, there, free, some) refl)

  pub own : (d : Device) (h : ℕ) → bytes_eq name principal ≡ false → device_at s.devices name ≡ Some d → d.holder ≡ Some h → h ≡ job
      → Told s job name timeout late replies.Got s false
  own d h e there held is = (rw (e, there, held, same_job h job is) refl, rw (e, there, held) refl)

  pub late_for : (d : Device) (h : ℕ) → bytes_eq name principal ≡ false → device_at s.devices name ≡ Some d → d.holder ≡ Some h → (h ≡ job → ⊥)
      → is_timed_out timeout late ≡ true → Told s job name timeout late replies.Late s false
  late_for d h e there held other over = (rw (e, there, held, other_job h job other, over) refl, rw (e, there, held) refl)

  pub busy_by : (d : Device) (h : ℕ) → bytes_eq name principal ≡ false → device_at s.devices name ≡ Some d → d.holder ≡ Some h → (h ≡ job → ⊥)
      → is_timed_out timeout late ≡ false
      → (answered s job (shared_asks.Open name timeout) late ≡ None) × (holder_of s.devices name ≡ Some h)
  busy_by d h e there held other soon =
      (rw (e, there, held, other_job h job other, soon) refl, ap (λ (o : Option Device). elim o as (λ _. Option ℕ) [ None ↦ None | Some x ↦ x.holder ]) there ∙ held)

-- where nobody holds it, one goes to the job if one is left
pub free : (s : Shared) (name : List ℕ) (timeout : Option ℤ) (d : Device) → bytes_eq name principal ≡ false → device_at s.devices name ≡ Some d → d.holder ≡ None
    → moves_session s (shared_asks.Open name timeout) ≡ nat_lt d.taken d.sessions
free s name timeout d e there nobody = rw (e, there, nobody) refl

-- what a busy device comes to
module _ (v : Service) (job : ℕ) (name : List ℕ) (timeout : Option ℤ) (late : Bool) (d : Device) (h : ℕ) where
  pub others : (n : List ℕ) → n ≡ name → bytes_eq name principal ≡ false → device_at v.state.devices name ≡ Some d → d.holder ≡ Some h → (h ≡ job → ⊥)
      → ComesOfAsk v job (shared_asks.Open name timeout) late (outcome_as (if is_timed_out timeout late then answereds.Told replies.Late replies.Late else answereds.Busy h (helds.Device n))) v
  others n same e there held other = by_time (is_timed_out timeout late) refl where
    by_time : (over : Bool) → is_timed_out timeout late ≡ over
        → ComesOfAsk v job (shared_asks.Open name timeout) late (outcome_as (if over then answereds.Told replies.Late replies.Late else answereds.Busy h (helds.Device n))) v
    by_time true over = let t = late_for v.state job name timeout late d h e there held other over in (t.0, t.1, refl, refl)
    by_time false soon =
        let t = busy_by v.state job name timeout late d h e there held other soon in
        (t.0, (same, other, ap (λ x. holder_of v.state.devices x) same ∙ t.1), refl)
