-- Which sessions are there behind an ask that they serve.
use Rattle.std.specs.Prelude.{cond, if◌then◌else◌}
use Rattle.std.specs.Option.{is_some}
use Rattle.std.specs.Str.{bytes_eq}
use Rattle.std.proofs.Common.{◌≡◌, ℕ, List, [], ◌∷◌, Bool, true, false, Some, None, refl, sym, ap, ◌∙◌, subst, inl, inr}
use Rattle.std.proofs.lemmas.Slice.Eq.{bytes_eq-Decides}
use Rattle.mj_ask.specs.declared.ask.Ask.{Ask}
use Rattle.mj_ask.specs.declared.ask.Ask.TheVariants as asks
use Rattle.mj_ask.specs.declared.ask.DeviceAsk.{DeviceAsk}
use Rattle.mj_ask.specs.declared.ask.DeviceAsk.TheVariants as device_asks
use Rattle.mj_ask.specs.declared.ask.Reply.{Reply}
use Rattle.mj_dev.specs.Heard.{Heard}
use Rattle.mj_sessions.specs.declared.answer.Answer.TheVariants as answers
use Rattle.mj_sessions.specs.Answers.{Answers, AnswersOf, Asked, SessionEnds}
use Rattle.mj_sessions.specs.Follow.{ends_on}
use Rattle.mj_sessions.specs.Named.{Named, is_named, session_of, with_session, without, AreApart}
use Rattle.mj_sessions.proofs.Places.{session_gone, session_stays}

-- one that goes on is there still, and so are the others
pub there_with : (name n : List ℕ) (h : Heard) (xs : List Named) → is_some (session_of n (with_session name h xs)) ≡ is_some (session_of n xs)
there_with name n h [] = refl
there_with name n h (x ∷ xs) = by (is_named name x) (there_with name n h xs) where
  here : (c : Bool) → is_some (cond c (Some (record x { session = h })) (session_of n xs)) ≡ is_some (cond c (Some x) (session_of n xs))
  here true = refl
  here false = refl

  behind : (c : Bool) → is_some (session_of n (with_session name h xs)) ≡ is_some (session_of n xs)
      → is_some (cond c (Some x) (session_of n (with_session name h xs))) ≡ is_some (cond c (Some x) (session_of n xs))
  behind true rest = refl
  behind false rest = rest

  by : (b : Bool) → is_some (session_of n (with_session name h xs)) ≡ is_some (session_of n xs)
      → is_some (session_of n (cond b (record x { session = h } ∷ xs) (x ∷ with_session name h xs))) ≡ is_some (session_of n (x ∷ xs))
  by true rest = here (is_named n x)
  by false rest = behind (is_named n x) rest

module _ (xs new : List Named) (late : Bool) (reply : Reply) (apart : AreApart xs) (n : List ℕ) where
  by_call : (device : List ℕ) (ask : DeviceAsk) → Asked device xs ask late (answers.Told reply) new → is_some (session_of n new) ≡ is_some (session_of n xs)
  by_call device ask (inl absent) = absurd (let no : answers.Told reply ≡ answers.Unfit = absent.1 in cc)
  by_call device ask (inr t) = ap (λ l. is_some (session_of n l)) t.2.2 ∙ there_with device n t.2.0 xs

  by_end : (device : List ℕ) → SessionEnds device xs (answers.Told reply) new → is_some (session_of n new) ≡ (if bytes_eq device n then false else is_some (session_of n xs))
  by_end device (inl absent) = absurd (let no : answers.Told reply ≡ answers.Unfit = absent.1 in cc)
  by_end device (inr t) = ap (λ l. is_some (session_of n l)) t.3 ∙ by_test (bytes_eq device n) refl where
    by_test : (b : Bool) → bytes_eq device n ≡ b → is_some (session_of n (without device xs)) ≡ (if b then false else is_some (session_of n xs))
    by_test true is =
        let same : device ≡ n = (bytes_eq-Decides device n).0 is in
        ap is_some (subst (λ d. session_of n (without d xs) ≡ None) (sym same) (session_gone n xs apart))
    by_test false is = ap is_some (session_stays device n xs is)

  by_device : (d : List ℕ) (ask : DeviceAsk) → AnswersOf d xs ask late (answers.Told reply) new
      → is_some (session_of n new) ≡ (if ends_on n (asks.Device d ask) then false else is_some (session_of n xs))
  by_device d device_asks.End a = by_end d a
  by_device d ask a = by_call d ask a

  pub there_behind : (ask : Ask) → Answers xs ask late (answers.Told reply) new
      → is_some (session_of n new) ≡ (if ends_on n ask then false else is_some (session_of n xs))
  there_behind (asks.Device d ask) a = by_device d ask a
  there_behind (asks.Rest t) a = ap (λ l. is_some (session_of n l)) a.1
  there_behind (asks.Shared ask) a = absurd a
