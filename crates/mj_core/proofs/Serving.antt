-- What a job's sessions answer is what they mean.
use Rattle.std.specs.Prelude.{◌⊎◌, cond, if◌then◌else◌}
use Rattle.std.specs.Option.{is_some}
use Rattle.std.specs.Str.{bytes_eq}
use Rattle.std.proofs.Common.{◌≡◌, ℕ, List, [], ◌∷◌, ◌++◌, Bool, true, false, Option, Some, None, refl, sym, ap, ◌∙◌, subst, inl, inr}
use Rattle.mj_ask.specs.declared.ask.Ask.{Ask}
use Rattle.mj_ask.specs.declared.ask.Reply.{Reply}
use Rattle.mj_dev.specs.Talk.{beginning, stand_of}
use Rattle.mj_dev.specs.declared.talk.State.TheVariants as states
use Rattle.mj_sessions.specs.declared.answer.Answer.{Answer}
use Rattle.mj_sessions.specs.declared.answer.Answer.TheVariants as answers
use Rattle.mj_sessions.specs.Answers.{Answers as Served}
use Rattle.mj_sessions.specs.Asked.{Answering as Tells, AreAsked}
use Rattle.mj_sessions.specs.Events.{Log, device_of, talk_on}
use Rattle.mj_sessions.specs.Follow.{Follow, ends_on}
use Rattle.mj_sessions.specs.Named.{Named, Roomy, is_named, session_of, TalkLeaves, AreTold, AreLeft}
use Rattle.mj_sessions.proofs.Left.{left_told, left_there}
use Rattle.mj_core.specs.Having.{HasFailed, IsQuiet, has_behind}
use Rattle.mj_core.specs.Meaning.{IsOfDevice}
use Rattle.mj_core.specs.Answering.{HasAll, Stays, Answers}
use Rattle.mj_core.specs.BySessions.{by_sessions}
use Rattle.mj_core.proofs.Behind.{unopened}
use Rattle.mj_core.proofs.Stepping.{unshared}
use Rattle.mj_core.proofs.Telling.{IsQuietOf, IsShut, fits_answer, waits_answer, unfit_answer, short_answer}

-- the stand of a session that is there, by its talk
stands : (log : Log) (xs : List Named) (name : List ℕ) (s : Named) → AreTold log xs → session_of name xs ≡ Some s → Follow beginning (talk_on name log) (stand_of s.session)
stands log xs name s told there = (subst (λ o. TalkLeaves (talk_on name log) o) there (told name)).0

quiet : (log : Log) (xs : List Named) (a : Ask) → AreTold log xs → IsQuietOf xs a → IsQuiet log a
quiet log xs a told q = (q.0, q.1, (stand_of q.2.0.session, stands log xs q.0 q.2.0 told q.2.1, q.2.2, q.2.3))

shut : (tells : Tells) (log : Log) (x : Roomy) (a : Ask) (has : List ℕ → Bool) → AreTold log x.sessions → HasAll (by_sessions tells) x has → IsShut x.sessions a
    → (name : List ℕ) × (device_of a ≡ Some name) × ((has name ≡ false) ⊎ ((ends_on name a ≡ false) × HasFailed log name))
shut tells log x a has told all q = (q.0, q.1, by q.2) where
  by : ((session_of q.0 x.sessions ≡ None) ⊎ ((ends_on q.0 a ≡ false) × ((s : Named) × (session_of q.0 x.sessions ≡ Some s) × (s.session.state ≡ states.Open → ⊥))))
      → (has q.0 ≡ false) ⊎ ((ends_on q.0 a ≡ false) × HasFailed log q.0)
  by (inl none) = inl (sym (all q.0) ∙ ap is_some none)
  by (inr s) = inr (s.0, (stand_of s.1.0.session, stands log x.sessions q.0 s.1.0 told s.1.1, s.1.2))

-- the sessions are those that they were
pub stays_so : (tells : Tells) (old new : Roomy) → new.sessions ≡ old.sessions → Stays (by_sessions tells) old new
stays_so tells old new same = (
  (λ log told. (let T : List Named → Type 0 = λ l. AreTold log l in subst T (sym same) told)),
  (λ name has held. ap (λ l. is_some (session_of name l)) same ∙ held),
)

-- but for what the device of one keeps they are
pub stays_left : (tells : Tells) (old new : Roomy) → AreLeft old.sessions new.sessions → Stays (by_sessions tells) old new
stays_left tells old new left = (
  (λ log told. left_told log old.sessions new.sessions left told),
  (λ name has held. left_there name old.sessions new.sessions left ∙ held),
)

-- there is none where it isn't said that one is there
pub is_none : (o : Option Named) → is_some o ≡ false → o ≡ None
is_none None is = refl
is_none (Some s) is = absurd (let no : true ≡ false = is in cc)

-- one more is there
pub there_more : (name : List ℕ) (xs : List Named) (x : Named) → is_some (session_of name (xs ++ x ∷ [])) ≡ (if bytes_eq x.name name then true else is_some (session_of name xs))
there_more name [] x = by (bytes_eq x.name name) where
  by : (b : Bool) → is_some (cond b (Some x) None) ≡ (if b then true else false)
  by true = refl
  by false = refl
there_more name (y ∷ xs) x = by (bytes_eq x.name name) (is_named name y) (there_more name xs x) where
  by : (b c : Bool) → is_some (session_of name (xs ++ x ∷ [])) ≡ (if b then true else is_some (session_of name xs))
      → is_some (cond c (Some y) (session_of name (xs ++ x ∷ []))) ≡ (if b then true else is_some (cond c (Some y) (session_of name xs)))
  by true true rest = refl
  by true false rest = rest
  by false true rest = refl
  by false false rest = rest

pub serves : (tells : Tells) (old new : Roomy) (a : Ask) (late : Bool) (given : Option Reply) → IsOfDevice a → (answer : Answer) → Served old.sessions a late answer new.sessions
    → AreAsked tells old.sessions a late answer new.sessions
    → ((log : Log) (reply : Reply) → answer ≡ answers.Told reply → AreTold log old.sessions → AreTold (log ++ (a, reply) ∷ []) new.sessions)
    → ((name : List ℕ) (reply : Reply) → answer ≡ answers.Told reply
    → is_some (session_of name new.sessions) ≡ (if ends_on name a then false else is_some (session_of name old.sessions)))
    → Answers (by_sessions tells) old a late given answer new
serves tells old new a late given of (answers.Told reply) is asked told there =
    let fit = fits_answer old.sessions new.sessions late reply a is in (
      fit.0,
      fit.1,
      (λ log all. told log reply refl all),
      (λ s name has held.
          there name reply refl ∙ sym (unopened s name a (is_some (session_of name old.sessions)) (unshared a of)) ∙ ap (λ b. has_behind s name a b) held),
      (λ log all. ((λ device. (new.sessions, (old.sessions, all, is, asked), told log reply refl all)), tt)),
    )
serves tells old new a late given of answers.NotYet is asked told there =
    let waits = waits_answer old.sessions new.sessions late a is in
    let stays = stays_left tells old new waits.3 in
    ((λ log all. (waits.0, waits.1, quiet log old.sessions a all waits.2, (new.sessions, (old.sessions, all, is, asked), stays.0 log all), tt)), stays)
serves tells old new a late given of answers.Unfit is asked told there =
    let unfit = unfit_answer old.sessions new.sessions late a is in
    ((λ s log has all held. (inl (shut tells log old a has all held unfit.0), tt)), stays_so tells old new unfit.1)
serves tells old new a late given of answers.Memory is asked told there = stays_left tells old new (short_answer old.sessions new.sessions late a is)
