-- A job's log goes on, and its sessions with it.
use Rattle.std.specs.Prelude.{◌⊎◌, if◌then◌else◌}
use Rattle.std.specs.Str.{bytes_eq}
use Rattle.std.proofs.Common.{ℕ, Bool, true, false, List, [], ◌∷◌, ◌++◌, Option, Some, None, ◌≡◌, refl, sym, ap, ◌∙◌, subst, append-nil, inl, inr, cond}
use Rattle.std.proofs.lemmas.Slice.Eq.{bytes_eq-Decides}
use Rattle.mj_ask.specs.declared.ask.Ask.{Ask}
use Rattle.mj_ask.specs.declared.ask.Ask.TheVariants as asks
use Rattle.mj_ask.specs.declared.ask.DeviceAsk.{DeviceAsk}
use Rattle.mj_ask.specs.declared.ask.DeviceAsk.TheVariants as device_asks
use Rattle.mj_ask.specs.declared.ask.Reply.{Reply}
use Rattle.mj_ask.specs.declared.ask.Reply.TheVariants as replies
use Rattle.mj_ask.specs.Fits.{is_shared}
use Rattle.mj_dev.specs.declared.talk.State.{State}
use Rattle.mj_dev.specs.declared.talk.State.TheVariants as states
use Rattle.mj_dev.specs.Heard.{Heard, IsNew}
use Rattle.mj_dev.specs.Talk.{Exchange, Talks, Begun, Written, LineRead, ByteRead, Ended, written_by, Exchanges, TalkStand, stand_of, Allows, beginning}
use Rattle.mj_dev.proofs.Talks.{Exchanges-taken, Exchanges-allowed, Talks-append}
use Rattle.mj_sessions.specs.declared.answer.Answer.{Answer}
use Rattle.mj_sessions.specs.declared.answer.Answer.TheVariants as answers
use Rattle.mj_sessions.specs.Events.{Log, exchange_of, exchange_on, talk_on, did_of}
use Rattle.mj_sessions.specs.Follow.{is_end, stand_behind, Follow, taken_behind, taken_by, talk_behind, open_talk}
use Rattle.mj_sessions.specs.Named.{Named, is_named, session_of, with_session, without, AreApart, TalkLeaves, AreTold}
use Rattle.mj_sessions.specs.Answers.{Answers, AnswersOf, Asked, SessionEnds, Hears}
use Rattle.mj_sessions.proofs.Places.{session_more, session_with, session_other, session_gone, session_stays}

pub follow_on : (old mid between : TalkStand) (talk : List Exchange) (x : Exchange) → Follow old talk mid → Allows mid mid.state x between → Follow old (talk ++ x ∷ []) (stand_behind x between)
follow_on old mid between [] x at allowed =
    let P : TalkStand → Type 0 = λ s. Allows s s.state x between in
    (between, subst P at allowed, refl)
follow_on old mid between (y ∷ talk) x at allowed = (at.0, at.1, follow_on (stand_behind y at.0) mid between talk x at.2 allowed)

pub taken_on : (taken : List ℕ) (talk : List Exchange) (x : Exchange) → taken_behind taken (talk ++ x ∷ []) ≡ (if is_end x then [] else taken_behind taken talk ++ written_by x)
taken_on taken [] x = refl
taken_on taken (y ∷ talk) x = taken_on (if is_end y then [] else taken ++ written_by y) talk x

pub behind_on : (said talk : List Exchange) (x : Exchange) → talk_behind said (talk ++ x ∷ []) ≡ (if is_end x then [] else talk_behind said talk ++ x ∷ [])
behind_on said [] x = refl
behind_on said (y ∷ talk) x = behind_on (if is_end y then [] else said ++ y ∷ []) talk x

pub talk_more : (name : List ℕ) (log later : Log) → talk_on name (log ++ later) ≡ talk_on name log ++ talk_on name later
talk_more name [] later = refl
talk_more name (e ∷ log) later = over (exchange_on name e.0 e.1) (talk_more name log later) where
  over : (o : Option Exchange) → talk_on name (log ++ later) ≡ talk_on name log ++ talk_on name later → (elim o [ None ↦ talk_on name (log ++ later) | Some x ↦ x ∷ talk_on name (log ++ later) ])
      ≡ (elim o [ None ↦ talk_on name log | Some x ↦ x ∷ talk_on name log ]) ++ talk_on name later
  over None more = more
  over (Some x) more = ap (λ xs. x ∷ xs) more

-- an event that is no call to a session of this name
quiet : (name : List ℕ) (log : Log) (ask : Ask) (reply : Reply) → exchange_on name ask reply ≡ None → talk_on name (log ++ (ask, reply) ∷ []) ≡ talk_on name log
quiet name log ask reply none =
    talk_more name log ((ask, reply) ∷ [])
    ∙ ap (λ (o : Option Exchange). talk_on name log ++ elim o as (λ _. List Exchange) [ None ↦ [] | Some x ↦ x ∷ [] ]) none
    ∙ append-nil (talk_on name log)

-- an event that is one
loud : (name : List ℕ) (log : Log) (ask : Ask) (reply : Reply) (x : Exchange) → exchange_on name ask reply ≡ Some x
    → talk_on name (log ++ (ask, reply) ∷ []) ≡ talk_on name log ++ x ∷ []
loud name log ask reply x some =
    talk_more name log ((ask, reply) ∷ [])
    ∙ ap (λ (o : Option Exchange). talk_on name log ++ elim o as (λ _. List Exchange) [ None ↦ [] | Some y ↦ y ∷ [] ]) some

shared_quiet : (name : List ℕ) (ask : Ask) (reply : Reply) → is_shared ask ≡ true → exchange_on name ask reply ≡ None
shared_quiet name (asks.Shared ask) reply h = refl
shared_quiet name _ reply h = absurd (let no : false ≡ true = h in cc)

-- what the shared state serves changes no session
pub told_shared : (log : Log) (xs : List Named) (ask : Ask) (reply : Reply) → is_shared ask ≡ true → AreTold log xs → AreTold (log ++ (ask, reply) ∷ []) xs
told_shared log xs ask reply shared all name =
    let P : List Exchange → Type 0 = λ t. TalkLeaves t (session_of name xs) in
    subst P (sym (quiet name log ask reply (shared_quiet name ask reply shared))) (all name)

-- a new session
tells_new : (talk : List Exchange) (s : Named) → IsNew s.session → TalkLeaves talk None → TalkLeaves talk (Some s)
tells_new talk s new at =
    let with_rest : Option (List ℕ) → TalkStand = λ rest. record { rest = rest; state = s.session.state } in
    let with_state : State → TalkStand = λ state. record { rest = None; state = state } in
    let from : stand_of s.session ≡ beginning = ap with_rest new.rest ∙ ap with_state new.state in
    let P : TalkStand → Type 0 = λ stand. Follow beginning talk stand in
    let T : List Exchange → Type 0 = λ t. Talks s.session t s.session in
    (subst P (sym from) at.0, new.taken ∙ sym at.1, (s.session, new, subst T (sym at.2) refl))

pub told_open : (log : Log) (xs : List Named) (s : Named) → session_of s.name xs ≡ None → IsNew s.session → AreTold log xs → AreTold log (xs ++ s ∷ [])
told_open log xs s absent new all name =
    let P : Option Named → Type 0 = λ o. TalkLeaves (talk_on name log) o in
    subst P (sym (session_more name xs s)) (at (session_of name xs) refl) where
      named : (b : Bool) → is_named name s ≡ b → session_of name xs ≡ None → TalkLeaves (talk_on name log) (cond b (Some s) None)
      named true is none = let P : Option Named → Type 0 = λ o. TalkLeaves (talk_on name log) o in tells_new (talk_on name log) s new (subst P none (all name))
      named false is none = let P : Option Named → Type 0 = λ o. TalkLeaves (talk_on name log) o in subst P none (all name)

      at : (o : Option Named) → session_of name xs ≡ o → TalkLeaves (talk_on name log) (elim o [ None ↦ cond (is_named name s) (Some s) None | Some x ↦ Some x ])
      at None is = named (is_named name s) refl is
      at (Some x) is = let P : Option Named → Type 0 = λ o. TalkLeaves (talk_on name log) o in subst P is (all name)

-- a call to the session of a name
not_end : (old new : Heard) (x : Exchange) → Exchanges old x new → is_end x ≡ false
not_end old new (Begun answer) e = refl
not_end old new (Written bytes answer) e = refl
not_end old new (LineRead read) e = refl
not_end old new (ByteRead code) e = refl
not_end old new (Ended answer) e = absurd e

tells_call : (talk : List Exchange) (s : Named) (h : Heard) (x : Exchange) → s.session.state ≡ states.Open → Exchanges s.session x h → TalkLeaves talk (Some s)
    → TalkLeaves (talk ++ x ∷ []) (Some (record s { session = h }))
tells_call talk s h x usable e at =
    let ends : is_end x ≡ false = not_end s.session h x e in
    let P : Bool → Type 0 = λ b. Follow beginning (talk ++ x ∷ []) (if b then beginning else stand_of h) in
    let came = at.2 in
    let T : List Exchange → Type 0 = λ t. Talks came.0 t h in
    let said : open_talk (talk ++ x ∷ []) ≡ open_talk talk ++ x ∷ [] = behind_on [] talk x ∙ ap (λ b. if b then [] else open_talk talk ++ x ∷ []) ends in (
      subst P ends (follow_on beginning (stand_of s.session) (stand_of h) talk x at.0 (Exchanges-allowed s.session h x usable e)),
      Exchanges-taken s.session h x e ∙ ap (λ t. t ++ written_by x) at.1 ∙ sym (taken_on [] talk x ∙ ap (λ b. if b then [] else taken_by talk ++ written_by x) ends),
      (came.0, came.1, subst T (sym said) (Talks-append came.0 s.session h (open_talk talk) (x ∷ []) came.2 (h, usable, e, refl))),
    )

module _ (log : Log) (xs : List Named) (all : AreTold log xs) (device : List ℕ) (ask : DeviceAsk) (reply : Reply) where
  abbrev call : Exchange
  call = exchange_of ask reply

  abbrev more : Log
  more = log ++ (asks.Device device ask, reply) ∷ []

  heard_on : (s : Named) (h : Heard) → session_of device xs ≡ Some s → s.session.state ≡ states.Open → Exchanges s.session call h
      → AreTold more (with_session device h xs)
  heard_on s h is usable e name = at (bytes_eq device name) refl where
    at : (b : Bool) → bytes_eq device name ≡ b → TalkLeaves (talk_on name more) (session_of name (with_session device h xs))
    at true same =
        let to : device ≡ name = (bytes_eq-Decides device name).0 same in
        let P : List Exchange → Type 0 = λ t. TalkLeaves t (session_of name (with_session device h xs)) in
        let Q : Option Named → Type 0 = λ o. TalkLeaves (talk_on name log ++ call ∷ []) o in
        let R : List ℕ → Type 0 = λ n. session_of n (with_session device h xs) ≡ Some (record s { session = h }) in
        let S : Option Named → Type 0 = λ o. TalkLeaves (talk_on name log) o in
        let before : session_of name xs ≡ Some s = ap (λ n. session_of n xs) (sym to) ∙ is in
        subst P (sym (loud name log (asks.Device device ask) reply call (ap (λ b. if b then Some call else None) same)))
        (subst Q (sym (subst R to (session_with device h xs s is))) (tells_call (talk_on name log) s h call usable e (subst S before (all name))))
    at false apart =
        let P : List Exchange → Type 0 = λ t. TalkLeaves t (session_of name (with_session device h xs)) in
        let Q : Option Named → Type 0 = λ o. TalkLeaves (talk_on name log) o in
        subst P (sym (quiet name log (asks.Device device ask) reply (ap (λ b. if b then Some call else None) apart)))
        (subst Q (sym (session_other device name h xs apart)) (all name))

  pub asked_on : (late : Bool) (answer : Answer) (new : List Named) → answer ≡ answers.Told reply → Asked device xs ask late answer new → AreTold more new
  asked_on late answer new is (inl absent) = absurd (let no : answers.Told reply ≡ answers.Unfit = sym is ∙ absent.1 in cc)
  asked_on late answer new is (inr told) =
      let H : Answer → Type 0 = λ a. Hears told.0.session ask late a told.2.0 in
      let heard : Hears told.0.session ask late (answers.Told reply) told.2.0 = subst H is told.2.1 in
      let P : List Named → Type 0 = λ l. AreTold more l in
      subst P (sym told.2.2) (heard_on told.0 told.2.0 told.1 heard.0 heard.1)

end_allowed : (stand : TalkStand) (state : State) (r : Reply) → (state ≡ states.Ended → ⊥) → (r ≡ replies.Done) ⊎ (r ≡ replies.Failed)
    → Allows stand state (Ended (did_of r)) (record stand { state = states.Ended })
end_allowed stand states.Open r usable (inl is) = rw is (tt, refl)
end_allowed stand states.Open r usable (inr is) = rw is (tt, refl)
end_allowed stand states.Failed r usable (inl is) = rw is (tt, refl)
end_allowed stand states.Failed r usable (inr is) = rw is (tt, refl)
end_allowed stand states.Ended r usable told = absurd (usable refl)

told_is : (answer : Answer) (r : Reply) → answer ≡ answers.Told r
    → (answer ≡ answers.Told replies.Done) ⊎ (answer ≡ answers.Told replies.Failed) → (r ≡ replies.Done) ⊎ (r ≡ replies.Failed)
told_is answer r is (inl e) = inl (let same : answers.Told r ≡ answers.Told replies.Done = sym is ∙ e in cc)
told_is answer r is (inr e) = inr (let same : answers.Told r ≡ answers.Told replies.Failed = sym is ∙ e in cc)

module _ (log : Log) (xs : List Named) (apart : AreApart xs) (all : AreTold log xs) (device : List ℕ) (reply : Reply) where
  abbrev ask : Ask
  ask = asks.Device device device_asks.End

  ended_on : (s : Named) → session_of device xs ≡ Some s → (s.session.state ≡ states.Ended → ⊥) → (reply ≡ replies.Done) ⊎ (reply ≡ replies.Failed)
      → AreTold (log ++ (ask, reply) ∷ []) (without device xs)
  ended_on s is usable told name = at (bytes_eq device name) refl where
    at : (b : Bool) → bytes_eq device name ≡ b → TalkLeaves (talk_on name (log ++ (ask, reply) ∷ [])) (session_of name (without device xs))
    at true same =
        let to : device ≡ name = (bytes_eq-Decides device name).0 same in
        let x : Exchange = Ended (did_of reply) in
        let P : List Exchange → Type 0 = λ t. TalkLeaves t (session_of name (without device xs)) in
        let Q : Option Named → Type 0 = λ o. TalkLeaves (talk_on name log ++ x ∷ []) o in
        let S : Option Named → Type 0 = λ o. TalkLeaves (talk_on name log) o in
        let before : session_of name xs ≡ Some s = ap (λ n. session_of n xs) (sym to) ∙ is in
        let told_before : TalkLeaves (talk_on name log) (Some s) = subst S before (all name) in
        subst P (sym (loud name log ask reply x (ap (λ b. if b then Some x else None) same)))
        (subst Q (sym (ap (λ n. session_of n (without device xs)) (sym to) ∙ session_gone device xs apart)) (
          follow_on beginning (stand_of s.session) (record (stand_of s.session) { state = states.Ended }) (talk_on name log) x told_before.0
              (end_allowed (stand_of s.session) s.session.state reply usable told),
          taken_on [] (talk_on name log) x,
          behind_on [] (talk_on name log) x,
        ))
    at false other =
        let P : List Exchange → Type 0 = λ t. TalkLeaves t (session_of name (without device xs)) in
        let Q : Option Named → Type 0 = λ o. TalkLeaves (talk_on name log) o in
        subst P (sym (quiet name log ask reply (ap (λ b. if b then Some (Ended (did_of reply)) else None) other)))
        (subst Q (sym (session_stays device name xs other)) (all name))

  pub ends_on : (answer : Answer) (new : List Named) → answer ≡ answers.Told reply → SessionEnds device xs answer new → AreTold (log ++ (ask, reply) ∷ []) new
  ends_on answer new is (inl absent) = absurd (let no : answers.Told reply ≡ answers.Unfit = sym is ∙ absent.1 in cc)
  ends_on answer new is (inr told) =
      let P : List Named → Type 0 = λ l. AreTold (log ++ (ask, reply) ∷ []) l in
      subst P (sym told.3) (ended_on told.0 told.1 told.2.0 (told_is answer reply is told.2.1))

rest_on : (log : Log) (xs new : List Named) (time : _) (reply : Reply) → new ≡ xs → AreTold log xs → AreTold (log ++ (asks.Rest time, reply) ∷ []) new
rest_on log xs new time reply same all name =
    let P : List Exchange → Type 0 = λ t. TalkLeaves t (session_of name new) in
    let Q : List Named → Type 0 = λ l. TalkLeaves (talk_on name log) (session_of name l) in
    subst P (sym (quiet name log (asks.Rest time) reply refl)) (subst Q (sym same) (all name))

told_call : (log : Log) (xs new : List Named) (d : List ℕ) (ask : DeviceAsk) (late : Bool) (answer : Answer) (reply : Reply) → AreApart xs
    → AreTold log xs → AnswersOf d xs ask late answer new → answer ≡ answers.Told reply → AreTold (log ++ (asks.Device d ask, reply) ∷ []) new
told_call log xs new d device_asks.End late answer reply apart all a is = ends_on log xs apart all d reply answer new is a
told_call log xs new d ask late answer reply apart all a is = asked_on log xs all d ask reply late answer new is a

-- what the sessions are told is told by the log
pub told_on : (log : Log) (xs new : List Named) (ask : Ask) (late : Bool) (answer : Answer) (reply : Reply) → AreApart xs → AreTold log xs
    → Answers xs ask late answer new → answer ≡ answers.Told reply → AreTold (log ++ (ask, reply) ∷ []) new
told_on log xs new (asks.Device d ask) late answer reply apart all a is = told_call log xs new d ask late answer reply apart all a is
told_on log xs new (asks.Rest time) late answer reply apart all a is = rest_on log xs new time reply a.1 all
told_on log xs new (asks.Shared ask) late answer reply apart all a is = absurd a
