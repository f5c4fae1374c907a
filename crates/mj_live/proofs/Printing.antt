-- What is printed of a history, event by event.
use Rattle.std.proofs.Common.{◌≡◌, ◌∙◌, ◌⊎◌, inl, inr, ℕ, ◌-◌, ◌==◌, ◌&&◌, Bool, true, false, List, [], ◌∷◌, ◌++◌, length, Option, Some, None, refl, sym, ap, append-nil, append_assoc, eqb-true}
use Rattle.std.specs.Prelude.{slice_get, if◌then◌else◌}
use Rattle.mj_ask.specs.declared.ask.Ask.{Ask}
use Rattle.mj_ask.specs.declared.ask.Ask.TheVariants as asks
use Rattle.mj_ask.specs.declared.ask.DeviceAsk.TheVariants as device_asks
use Rattle.mj_ask.specs.declared.ask.Reply.{Reply}
use Rattle.mj_dev.specs.Shelves.{principal}
use Rattle.mj_sessions.specs.Events.{Log, talk_on}
use Rattle.mj_sessions.specs.Follow.{output_on, ends_on, written_on}
use Rattle.mj_sys.specs.declared.event.Event.{Event}
use Rattle.mj_sys.specs.History.{History, log_of}
use Rattle.mj_live.specs.Events.{session_behind, session_after, session_at, bytes_of, bytes_at}
use Rattle.mj_live.specs.Shows.{printed_of}
use Rattle.mj_live.proofs.Growing.{Grows}
use Rattle.mj_live.proofs.Taking.{ended_by, later_by, first_by}

-- what a session of the first job takes by a history
abbrev taken : ℕ → History → List ℕ
taken k history = output_on k (talk_on principal (log_of 1 history))

-- an end writes nothing
end_writes_none : (name : List ℕ) (ask : Ask) (reply : Reply) → ends_on name ask ≡ true → written_on name ask reply ≡ []
end_writes_none name (asks.Device d device_asks.End) reply is = refl
end_writes_none name _ reply is = absurd (let no : false ≡ true = is in cc)

abbrev none : List ℕ
none = []

neither : (b : Bool) → (if b then none else none) ≡ none
neither true = refl
neither false = refl

none_if : (b : Bool) (bytes : List ℕ) → bytes ≡ [] → (if b then bytes else []) ≡ []
none_if true bytes e = e
none_if false bytes e = refl

-- ---- the first event

module _ (k : ℕ) (e : Event) (history : History) where
  abbrev rest : Log
  rest = log_of 1 history

  abbrev wrote : List ℕ
  wrote = written_on principal e.ask e.reply

  by_first : (c : Bool) → (k == 1) ≡ c → ends_on principal e.ask ≡ false
      → output_on k (talk_on principal ((e.ask, e.reply) ∷ rest)) ≡ (if c then wrote else []) ++ output_on k (talk_on principal rest)
  by_first true is on =
      let one : k ≡ 1 = eqb-true k 1 is in
      ap (λ n. output_on n (talk_on principal ((e.ask, e.reply) ∷ rest))) one ∙ first_by principal rest e.ask e.reply on
      ∙ ap (λ n. wrote ++ output_on n (talk_on principal rest)) (sym one)
  by_first false is on = later_by principal e.reply rest k e.ask on (λ one. let no : true ≡ false = ap (λ n. n == 1) (sym one) ∙ is in cc)

  by_end : (b : Bool) → ends_on principal e.ask ≡ b
      → output_on k (talk_on principal ((e.ask, e.reply) ∷ rest)) ≡ (if k == 1 then wrote else []) ++ output_on (if b then k - 1 else k) (talk_on principal rest)
  by_end true is =
      ended_by principal e.reply rest k e.ask is
      ∙ ap (λ (l : List ℕ). l ++ output_on (k - 1) (talk_on principal rest)) (sym (none_if (k == 1) wrote (end_writes_none principal e.ask e.reply is)))
  by_end false is = by_first (k == 1) refl is

  by_job : (j : Bool)
      → output_on k (talk_on principal (if j then (e.ask, e.reply) ∷ rest else rest))
      ≡ (if k == 1 then (if j then wrote else []) else []) ++ output_on (if j && ends_on principal e.ask then k - 1 else k) (talk_on principal rest)
  by_job true = by_end (ends_on principal e.ask) refl
  by_job false = ap (λ (l : List ℕ). l ++ output_on k (talk_on principal rest)) (sym (neither (k == 1)))

  first_taken : taken k (e ∷ history) ≡ bytes_of k e ++ taken (session_behind k e) history
  first_taken = by_job (e.job == 1)

-- ---- the last event

last_taken : (k : ℕ) (history : History) (e : Event) → taken k (history ++ e ∷ []) ≡ taken k history ++ bytes_of (session_after k history) e
last_taken k [] e = first_taken k e [] ∙ append-nil (bytes_of k e)
last_taken k (x ∷ history) e =
    first_taken k x (history ++ e ∷ [])
    ∙ ap (λ (l : List ℕ). bytes_of k x ++ l) (last_taken (session_behind k x) history e)
    ∙ sym (append_assoc (bytes_of k x) (taken (session_behind k x) history) (bytes_of (session_after (session_behind k x) history) e))
    ∙ ap (λ (l : List ℕ). l ++ bytes_of (session_after (session_behind k x) history) e) (sym (first_taken k x history))

last_session : (k : ℕ) (history : History) (e : Event) → session_after k (history ++ e ∷ []) ≡ session_behind (session_after k history) e
last_session k [] e = refl
last_session k (x ∷ history) e = last_session (session_behind k x) history e

-- ---- the event behind a history, if there is one

none_there : (history : History) → slice_get history (length history) ≡ None
none_there [] = refl
none_there (x ∷ history) = none_there history

last_there : (history : History) (e : Event) → slice_get (history ++ e ∷ []) (length history) ≡ Some e
last_there [] e = refl
last_there (x ∷ history) e = last_there history e

pub printed_on : (old new : History) (place session : ℕ) → Grows old new → place ≡ length old → session ≡ session_after 1 old
    → printed_of new ≡ printed_of old ++ bytes_at session (slice_get new place)
printed_on old new place session (inl same) at is =
    let none : slice_get new place ≡ None = ap (slice_get new) at ∙ ap (λ (h : History). slice_get h (length old)) same ∙ none_there old in
    ap printed_of same ∙ sym (append-nil (printed_of old)) ∙ ap (λ o. printed_of old ++ bytes_at session o) (sym none)
printed_on old new place session (inr (e, more)) at is =
    let there : slice_get new place ≡ Some e = ap (slice_get new) at ∙ ap (λ (h : History). slice_get h (length old)) more ∙ last_there old e in
    ap printed_of more ∙ last_taken 1 old e ∙ ap (λ k. printed_of old ++ bytes_of k e) (sym is) ∙ ap (λ o. printed_of old ++ bytes_at session o) (sym there)

pub session_on : (old new : History) (place session behind : ℕ) → Grows old new → place ≡ length old → session ≡ session_after 1 old
    → behind ≡ session_at session (slice_get new place) → behind ≡ session_after 1 new
session_on old new place session behind (inl same) at is said =
    let none : slice_get new place ≡ None = ap (slice_get new) at ∙ ap (λ (h : History). slice_get h (length old)) same ∙ none_there old in
    said ∙ ap (session_at session) none ∙ is ∙ ap (session_after 1) (sym same)
session_on old new place session behind (inr (e, more)) at is said =
    let there : slice_get new place ≡ Some e = ap (slice_get new) at ∙ ap (λ (h : History). slice_get h (length old)) more ∙ last_there old e in
    said ∙ ap (session_at session) there ∙ ap (λ k. session_behind k e) is ∙ sym (last_session 1 old e) ∙ ap (session_after 1) (sym more)
