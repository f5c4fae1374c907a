-- A job's log goes on, and what is known of its talks with devices.
use Rattle.std.specs.Prelude.{not, if◌then◌else◌, Result, Ok, Err, IfOk, OnOk}
use Rattle.std.specs.List.{filter}
use Rattle.std.specs.Str.{bytes_eq}
use Rattle.std.proofs.Common.{ℕ, Bool, true, false, cond, List, [], ◌∷◌, ◌++◌, Option, Some, None, ◌≡◌, refl, sym, ap, ◌∙◌, subst, append-nil}
use Rattle.std.proofs.lemmas.Slice.Eq.{bytes_eq-Decides}
use Rattle.mj_ask.specs.declared.ask.Ask.{Ask}
use Rattle.mj_ask.specs.declared.ask.Ask.TheVariants as asks
use Rattle.mj_ask.specs.declared.ask.DeviceAsk.{DeviceAsk}
use Rattle.mj_ask.specs.declared.ask.Reply.{Reply}
use Rattle.mj_ask.specs.Fits.{is_shared}
use Rattle.mj_dev.specs.Talk.{Exchange, TalkStand, beginning}
use Rattle.mj_sessions.specs.Events.{Log, exchange_of, exchange_on, talk_on}
use Rattle.mj_sessions.specs.Follow.{Follow, AreTalks}
use Rattle.mj_sessions.proofs.Telling.{talk_more}
use Rattle.mj_expect.specs.declared.heed.Heed.{Heed}
use Rattle.mj_expect.specs.declared.heed.Heed.TheVariants as heeds
use Rattle.mj_expect.specs.Heeds.{heed_by, Heeds, heed_of, kept_of, is_other, with_heed, MayStand, IsHeed, AreHeeds, Heard, TakesOn, TakesIn}
use Rattle.mj_expect.proofs.Allowing.{is_beginning, not_allowed, heed_on}

-- ---- what is found by a name

own_kept : (name : List ℕ) (h : Heed) → heed_of name (kept_of name h) ≡ h
own_kept name heeds.Quiet = refl
own_kept name (heeds.Rest read over) = ap (λ b. if b then heeds.Rest read over else heeds.Quiet) ((bytes_eq-Decides name name).1 refl)
own_kept name heeds.Failed = ap (λ b. if b then heeds.Failed else heeds.Quiet) ((bytes_eq-Decides name name).1 refl)

other_kept : (name m : List ℕ) (h : Heed) → bytes_eq name m ≡ false → heed_of m (kept_of name h) ≡ heeds.Quiet
other_kept name m heeds.Quiet apart = refl
other_kept name m (heeds.Rest read over) apart = ap (λ b. if b then heeds.Rest read over else heeds.Quiet) apart
other_kept name m heeds.Failed apart = ap (λ b. if b then heeds.Failed else heeds.Quiet) apart

own_found : (name : List ℕ) (h : Heed) (es : Heeds) → heed_of name (with_heed name h es) ≡ h
own_found name h [] = own_kept name h
own_found name h (e ∷ es) = by (bytes_eq e.0 name) refl (own_found name h es) where
  by : (b : Bool) → bytes_eq e.0 name ≡ b → heed_of name (filter (is_other name) es ++ kept_of name h) ≡ h
      → heed_of name (cond (not b) (e ∷ filter (is_other name) es) (filter (is_other name) es) ++ kept_of name h) ≡ h
  by true is rest = rest
  by false is rest = ap (λ b. if b then e.1 else heed_of name (filter (is_other name) es ++ kept_of name h)) is ∙ rest

other_found : (name m : List ℕ) (h : Heed) (es : Heeds) → bytes_eq name m ≡ false → heed_of m (with_heed name h es) ≡ heed_of m es
other_found name m h [] apart = other_kept name m h apart
other_found name m h (e ∷ es) apart = by (bytes_eq e.0 name) refl (other_found name m h es apart) where
  by : (b : Bool) → bytes_eq e.0 name ≡ b → heed_of m (filter (is_other name) es ++ kept_of name h) ≡ heed_of m es
      → heed_of m (cond (not b) (e ∷ filter (is_other name) es) (filter (is_other name) es) ++ kept_of name h) ≡ (if bytes_eq e.0 m then e.1 else heed_of m es)
  by true is rest =
      let to : e.0 ≡ name = (bytes_eq-Decides e.0 name).0 is in
      rest ∙ sym (ap (λ b. if b then e.1 else heed_of m es) (ap (λ n. bytes_eq n m) to ∙ apart))
  by false is rest = ap (λ (x : Heed). if bytes_eq e.0 m then e.1 else x) rest

-- what is known of a device is put in the place of what was
pub put_so : (device : List ℕ) (h : Heed) (es inside left new k : Heeds) → left ≡ filter (is_other device) inside
    → inside ≡ es → kept_of device h ≡ k → new ≡ left ++ k
    → new ≡ with_heed device h es
put_so device h es inside left new k is view kept on =
    on ∙ ap (λ l. l ++ k) is ∙ ap (λ l. filter (is_other device) inside ++ l) (sym kept) ∙ ap (λ (l : Heeds). filter (is_other device) l ++ kept_of device h) view

pub on_ok : {A E : Type 0} {P Q : Type 0} (result : Result A E) → (P → Q) → OnOk result P → OnOk result Q
on_ok (Ok a) f p = f p
on_ok (Err e) f p = tt

-- ---- what the log has of a name

quiet : (name : List ℕ) (log : Log) (ask : Ask) (reply : Reply) → exchange_on name ask reply ≡ None → talk_on name (log ++ (ask, reply) ∷ []) ≡ talk_on name log
quiet name log ask reply none =
    talk_more name log ((ask, reply) ∷ [])
    ∙ ap (λ (o : Option Exchange). talk_on name log ++ elim o as (λ _. List Exchange) [ None ↦ [] | Some x ↦ x ∷ [] ]) none
    ∙ append-nil (talk_on name log)

loud : (name : List ℕ) (log : Log) (ask : Ask) (reply : Reply) (x : Exchange) → exchange_on name ask reply ≡ Some x
    → talk_on name (log ++ (ask, reply) ∷ []) ≡ talk_on name log ++ x ∷ []
loud name log ask reply x some =
    talk_more name log ((ask, reply) ∷ [])
    ∙ ap (λ (o : Option Exchange). talk_on name log ++ elim o as (λ _. List Exchange) [ None ↦ [] | Some y ↦ y ∷ [] ]) some

-- what is no call to a session changes nothing
still : (log : Log) (es : Heeds) (ask : Ask) (reply : Reply) → ((name : List ℕ) → exchange_on name ask reply ≡ None) → AreHeeds log es
    → AreHeeds (log ++ (ask, reply) ∷ []) es
still log es ask reply none all name =
    let P : List Exchange → Type 0 = λ t. IsHeed (heed_of name es) t in
    subst P (sym (quiet name log ask reply (none name))) (all name)

no_exchange : (ask : Ask) (reply : Reply) → is_shared ask ≡ true → (name : List ℕ) → exchange_on name ask reply ≡ None
no_exchange (asks.Shared ask) reply h name = refl
no_exchange _ reply h name = absurd (let no : false ≡ true = h in cc)

-- what the shared state serves changes nothing of the talks
pub heard_shared : (log : Log) (es : Heeds) (ask : Ask) (reply : Reply) → is_shared ask ≡ true → AreHeeds log es → AreHeeds (log ++ (ask, reply) ∷ []) es
heard_shared log es ask reply shared all = still log es ask reply (no_exchange ask reply shared) all

-- nor does a rest
pub heard_rest : (log : Log) (es : Heeds) (time : _) (reply : Reply) → AreHeeds log es → AreHeeds (log ++ (asks.Rest time, reply) ∷ []) es
heard_rest log es time reply all = still log es (asks.Rest time) reply (λ name. refl) all

-- before anything is told
pub heard_nothing : AreHeeds [] []
heard_nothing name = record {
  some = (beginning, refl);
  only = λ s f. (let P : TalkStand → Type 0 = λ x. MayStand heeds.Quiet x in subst P (sym f) (refl, refl));
  all = λ s m. (let back : s ≡ beginning = is_beginning s m in back);
}

-- the talks obey the protocol
pub heard_talks : (log : Log) (es : Heeds) → AreHeeds log es → AreTalks log
heard_talks log es all name = (all name).some

module _ (log : Log) (es : Heeds) (all : AreHeeds log es) (device : List ℕ) (ask : DeviceAsk) (reply : Reply) where
  abbrev call : Exchange
  call = exchange_of ask reply

  abbrev more : Log
  more = log ++ (asks.Device device ask, reply) ∷ []

  own : talk_on device more ≡ talk_on device log ++ call ∷ []
  own = loud device log (asks.Device device ask) reply call (ap (λ b. if b then Some call else None) ((bytes_eq-Decides device device).1 refl))

  -- a call that the protocol allows
  pub heard_yes : (h : Heed) → heed_by (heed_of device es) ask reply ≡ Some h → AreHeeds more (with_heed device h es)
  heard_yes h some name = at (bytes_eq device name) refl where
    at : (b : Bool) → bytes_eq device name ≡ b → IsHeed (heed_of name (with_heed device h es)) (talk_on name more)
    at true same =
        let to : device ≡ name = (bytes_eq-Decides device name).0 same in
        let P : List ℕ → Type 0 = λ n. IsHeed (heed_of n (with_heed device h es)) (talk_on n more) in
        let Q : Heed → Type 0 = λ k. IsHeed k (talk_on device more) in
        let R : List Exchange → Type 0 = λ t. IsHeed h t in
        subst P to (subst Q (sym (own_found device h es)) (subst R (sym own) (heed_on (talk_on device log) (heed_of device es) call (all device) h some)))
    at false apart =
        let Q : Heed → Type 0 = λ k. IsHeed k (talk_on name more) in
        let R : List Exchange → Type 0 = λ t. IsHeed (heed_of name es) t in
        subst Q (sym (other_found device name h es apart))
        (subst R (sym (quiet name log (asks.Device device ask) reply (ap (λ b. if b then Some call else None) apart))) (all name))

  -- one that it doesn't
  pub heard_no : heed_by (heed_of device es) ask reply ≡ None → AreTalks more → ⊥
  heard_no none talks =
      let P : List Exchange → Type 0 = λ t. (last : TalkStand) × Follow beginning t last in
      let f = subst P own (talks device) in
      not_allowed (heed_of device es) (talk_on device log) call (all device) none f.0 f.1

module _ (log : Log) (es : Heeds) (all : AreHeeds log es) where
  -- a call to a session
  by_call : (device : List ℕ) (ask : DeviceAsk) (reply : Reply) (found : Option Heed) → heed_by (heed_of device es) ask reply ≡ found
      → (heard : Bool) (new : Heeds) → TakesOn device es found heard new → Heard log (asks.Device device ask) reply heard new
  by_call device ask reply None is true new takes = absurd (let no : true ≡ false = takes in cc)
  by_call device ask reply None is false new takes = heard_no log es all device ask reply is
  by_call device ask reply (Some h) is true new takes =
      let P : Heeds → Type 0 = λ l. AreHeeds (log ++ (asks.Device device ask, reply) ∷ []) l in
      subst P (sym takes.1) (heard_yes log es all device ask reply h is)
  by_call device ask reply (Some h) is false new takes = absurd (let no : false ≡ true = takes.0 in cc)

  by_rest : (time : _) (reply : Reply) (heard : Bool) (new : Heeds) → (heard ≡ true) × (new ≡ es) → Heard log (asks.Rest time) reply heard new
  by_rest time reply true new is =
      let P : Heeds → Type 0 = λ l. AreHeeds (log ++ (asks.Rest time, reply) ∷ []) l in
      subst P (sym is.1) (heard_rest log es time reply all)
  by_rest time reply false new is = absurd (let no : false ≡ true = is.0 in cc)

  -- what isn't shared is taken in where the protocol allows it
  pub takes_heard : (ask : Ask) (reply : Reply) → is_shared ask ≡ false → (heard : Bool) (new : Heeds) → TakesIn es ask reply heard new
      → Heard log ask reply heard new
  takes_heard (asks.Device d ask) reply h heard new t = by_call d ask reply (heed_by (heed_of d es) ask reply) refl heard new t
  takes_heard (asks.Rest time) reply h heard new t = by_rest time reply heard new t
  takes_heard (asks.Shared ask) reply h heard new t = absurd (let no : true ≡ false = h in cc)

  pub heard_so : {E : Type 0} (ask : Ask) (reply : Reply) → is_shared ask ≡ false → (new : Heeds) (result : Result Bool E)
      → IfOk result (λ heard. TakesIn es ask reply heard new) → IfOk result (λ heard. Heard log ask reply heard new)
  heard_so ask reply h new (Ok heard) t = takes_heard ask reply h heard new t
  heard_so ask reply h new (Err e) t = tt
