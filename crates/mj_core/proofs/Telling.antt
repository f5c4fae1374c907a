-- What is told fits.
use Rattle.std.proofs.Common.{◌≡◌, ℕ, List, [], ◌∷◌, Bool, true, false, cond, Option, Some, None, refl, sym, ap, ◌∙◌, subst, inl, inr}
use Rattle.std.specs.Prelude.{◌⊎◌}
use Rattle.mj_ask.proofs.Fitting.{answered}
use Rattle.mj_ask.specs.declared.ask.Ask.{Ask}
use Rattle.mj_ask.specs.declared.ask.Ask.TheVariants as asks
use Rattle.mj_ask.specs.declared.ask.DeviceAsk.{DeviceAsk}
use Rattle.mj_ask.specs.declared.ask.DeviceAsk.TheVariants as device_asks
use Rattle.mj_ask.specs.declared.ask.Reply.{Reply}
use Rattle.mj_ask.specs.declared.ask.Reply.TheVariants as replies
use Rattle.mj_ask.specs.Fits.{fits, is_shared, timeout_of}
use Rattle.mj_sessions.specs.declared.answer.Answer.{Answer}
use Rattle.mj_sessions.specs.declared.answer.Answer.TheVariants as answers
use Rattle.mj_ask.specs.Late.{is_timed_out}
use Rattle.mj_sessions.specs.Answers.{Answers, Asked, SessionEnds, IsEnding, IsReading}
use Rattle.mj_dev.specs.declared.talk.State.TheVariants as states
use Rattle.mj_sessions.specs.Events.{device_of}
use Rattle.mj_sessions.specs.Follow.{ends_on}
use Rattle.mj_sessions.specs.Named.{Named, is_named, session_of, with_session, AreLeft}
use Rattle.mj_dev.specs.Heard.{Heard}
use Rattle.mj_sys.specs.Shared.{Shared, served}
use Rattle.mj_sys.proofs.Fitting.{Fit, served_fits}

-- a session that serves the ask is there, open, and no rest of a line is left on it
abbrev pub IsQuietOf : List Named → Ask → Type 0
IsQuietOf xs a =
    (name : List ℕ) × (device_of a ≡ Some name)
    × ((s : Named) × (session_of name xs ≡ Some s) × (s.session.state ≡ states.Open) × (s.session.rest ≡ None))

-- none of these sessions can serve the ask: there is none with its device, or it isn't open, and another thing than its end is asked of it
abbrev pub IsShut : List Named → Ask → Type 0
IsShut xs a =
    (name : List ℕ) × (device_of a ≡ Some name)
    × ((session_of name xs ≡ None) ⊎ ((ends_on name a ≡ false) × ((s : Named) × (session_of name xs ≡ Some s) × (s.session.state ≡ states.Open → ⊥))))

-- by the system
pub fits_served : (s : Shared) (job : ℕ) (ask : Ask) (late : Bool) (reply : Reply) (t : Shared) → is_shared ask ≡ true → served s job ask late ≡ Some (reply, t) → fits ask reply ≡ true
fits_served s job ask late reply t shared is =
    let P : Option (Reply × Shared) → Type 0 = λ o. Fit ask o in
    subst P is (served_fits answered s job ask late shared)

-- by a job's sessions
module _ (xs new : List Named) (late : Bool) (reply : Reply) where
  abbrev IsFit : Ask → Type 0
  IsFit ask = (fits ask reply ≡ true) × (reply ≡ replies.Late → is_timed_out (timeout_of ask) late ≡ true)

  by_call : (device : List ℕ) (ask : DeviceAsk) → Asked device xs ask late (answers.Told reply) new → IsFit (asks.Device device ask)
  by_call device ask (inl absent) = absurd (let no : answers.Told reply ≡ answers.Unfit = absent.1 in cc)
  by_call device ask (inr told) = (told.2.1.2, told.2.1.3)

  by_done : (ask : Ask) (done : Reply) → answers.Told reply ≡ answers.Told done → fits ask done ≡ true → (done ≡ replies.Late → ⊥) → IsFit ask
  by_done ask done is fit early =
      let same : reply ≡ done = cc in
      let P : Reply → Type 0 = λ r. (fits ask r ≡ true) × (r ≡ replies.Late → is_timed_out (timeout_of ask) late ≡ true) in
      subst P (sym same) (fit, (λ q. absurd (early q)))

  by_end : (device : List ℕ) → SessionEnds device xs (answers.Told reply) new → IsFit (asks.Device device device_asks.End)
  by_end device (inl absent) = absurd (let no : answers.Told reply ≡ answers.Unfit = absent.1 in cc)
  by_end device (inr told) = done told.2.1 where
    done : (answers.Told reply ≡ answers.Told replies.Done) ⊎ (answers.Told reply ≡ answers.Told replies.Failed) → IsFit (asks.Device device device_asks.End)
    done (inl is) = by_done (asks.Device device device_asks.End) replies.Done is refl (λ q. cc)
    done (inr is) = by_done (asks.Device device device_asks.End) replies.Failed is refl (λ q. cc)

  pub fits_answer : (ask : Ask) → Answers xs ask late (answers.Told reply) new → IsFit ask
  fits_answer (asks.Device d device_asks.End) a = by_end d a
  fits_answer (asks.Device d ask) a = by_call d ask a
  fits_answer (asks.Rest t) a = by_done (asks.Rest t) replies.Done a.0 refl (λ q. cc)
  fits_answer (asks.Shared x) a = absurd a

-- ---- where nothing is told

-- the session of a name, left as it is
with_same : (name : List ℕ) (xs : List Named) (s : Named) → session_of name xs ≡ Some s → with_session name s.session xs ≡ xs
with_same name [] s is = refl
with_same name (x ∷ xs) s is = by (is_named name x) is (λ e. with_same name xs s e) where
  by : (b : Bool) → cond b (Some x) (session_of name xs) ≡ Some s → (session_of name xs ≡ Some s → with_session name s.session xs ≡ xs)
      → cond b (record x { session = s.session } ∷ xs) (x ∷ with_session name s.session xs) ≡ x ∷ xs
  by true e rest = let same : Some x ≡ Some s = e in let one : x ≡ s = cc in ap (λ (t : Named). record x { session = t.session } ∷ xs) (sym one)
  by false e rest = ap (λ l. x ∷ l) (rest e)

left_so : (name : List ℕ) (xs new : List Named) (s : Named) (h : Heard) → session_of name xs ≡ Some s → h ≡ s.session → new ≡ with_session name h xs → new ≡ xs
left_so name xs new s h is same new_is = new_is ∙ ap (λ k. with_session name k xs) same ∙ with_same name xs s is

abbrev Waits : List Named → List Named → Ask → Bool → Type 0
Waits xs new ask late = IsReading ask × (is_timed_out (timeout_of ask) late ≡ false) × IsQuietOf xs ask × AreLeft xs new

module _ (xs new : List Named) (late : Bool) where
  call_waits : (device : List ℕ) (ask : DeviceAsk) → Asked device xs ask late answers.NotYet new → Waits xs new (asks.Device device ask) late
  call_waits device ask (inl absent) = absurd (let no : answers.NotYet ≡ answers.Unfit = absent.1 in cc)
  call_waits device ask (inr t) = (t.2.1.1, t.2.1.3, (device, refl, (t.0, t.1, t.2.1.0, t.2.1.2)), inr (device, t.0, t.1, (t.2.0, t.2.1.4, t.2.2)))

  call_unfit : (device : List ℕ) (ask : DeviceAsk) → ends_on device (asks.Device device ask) ≡ false → Asked device xs ask late answers.Unfit new
      → IsShut xs (asks.Device device ask) × (new ≡ xs)
  call_unfit device ask on (inl absent) = ((device, refl, inl absent.0), absent.2)
  call_unfit device ask on (inr t) = ((device, refl, inr (on, (t.0, t.1, t.2.1.0))), left_so device xs new t.0 t.2.0 t.1 t.2.1.1 t.2.2)

  call_short : (device : List ℕ) (ask : DeviceAsk) → Asked device xs ask late answers.Memory new → AreLeft xs new
  call_short device ask (inl absent) = absurd (let no : answers.Memory ≡ answers.Unfit = absent.1 in cc)
  call_short device ask (inr t) = inr (device, t.0, t.1, (t.2.0, t.2.1.1, t.2.2))

  not_told : (answer : Answer) (h : Heard) → ((r : Reply) → answer ≡ answers.Told r → ⊥) → IsEnding h answer → ⊥
  not_told answer h never t = by t.1 where
    by : (answer ≡ answers.Told replies.Done) ⊎ (answer ≡ answers.Told replies.Failed) → ⊥
    by (inl is) = never replies.Done is
    by (inr is) = never replies.Failed is

  end_unfit : (device : List ℕ) → SessionEnds device xs answers.Unfit new → IsShut xs (asks.Device device device_asks.End) × (new ≡ xs)
  end_unfit device (inl absent) = ((device, refl, inl absent.0), absent.2)
  end_unfit device (inr t) = absurd (not_told answers.Unfit t.0.session (λ r q. cc) t.2)

  end_waits : (device : List ℕ) → SessionEnds device xs answers.NotYet new → ⊥
  end_waits device (inl absent) = let no : answers.NotYet ≡ answers.Unfit = absent.1 in cc
  end_waits device (inr t) = not_told answers.NotYet t.0.session (λ r q. cc) t.2

  end_short : (device : List ℕ) → SessionEnds device xs answers.Memory new → ⊥
  end_short device (inl absent) = let no : answers.Memory ≡ answers.Unfit = absent.1 in cc
  end_short device (inr t) = not_told answers.Memory t.0.session (λ r q. cc) t.2

  pub waits_answer : (ask : Ask) → Answers xs ask late answers.NotYet new → Waits xs new ask late
  waits_answer (asks.Device d device_asks.End) a = absurd (end_waits d a)
  waits_answer (asks.Device d ask) a = call_waits d ask a
  waits_answer (asks.Rest t) a = absurd (let no : answers.NotYet ≡ answers.Told replies.Done = a.0 in cc)
  waits_answer (asks.Shared x) a = absurd a

  pub unfit_answer : (ask : Ask) → Answers xs ask late answers.Unfit new → IsShut xs ask × (new ≡ xs)
  unfit_answer (asks.Device d device_asks.End) a = end_unfit d a
  unfit_answer (asks.Device d ask) a = call_unfit d ask refl a
  unfit_answer (asks.Rest t) a = absurd (let no : answers.Unfit ≡ answers.Told replies.Done = a.0 in cc)
  unfit_answer (asks.Shared x) a = absurd a

  pub short_answer : (ask : Ask) → Answers xs ask late answers.Memory new → AreLeft xs new
  short_answer (asks.Device d device_asks.End) a = absurd (end_short d a)
  short_answer (asks.Device d ask) a = call_short d ask a
  short_answer (asks.Rest t) a = inl a.1
  short_answer (asks.Shared x) a = absurd a
