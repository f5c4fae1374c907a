-- What a job sees by its events is what its open transaction sees.
use Rattle.std.proofs.Common.{◌≡◌, ℕ, zero, suc, Bool, true, false, cond, ◌&&◌, not, List, [], ◌∷◌, ◌++◌, length, take, drop, get_or, Option, Some, None, refl, sym, ap, subst, ◌∙◌, eqb-true}
use Rattle.std.specs.Prelude.{◌==◌, replicate, option_map}
use Rattle.std.proofs.lemmas.List.{length-replicate}
use Rattle.mj_subs.specs.Name.{Name}
use Rattle.mj_ask.specs.Fits.{is_shared}
use Rattle.mj_ask.specs.declared.ask.Ask.{Ask}
use Rattle.mj_ask.specs.declared.ask.Ask.TheVariants as asks
use Rattle.mj_ask.specs.declared.ask.SharedAsk.TheVariants as shared
use Rattle.mj_ask.specs.declared.ask.Kind.{Kind}
use Rattle.mj_ask.specs.declared.ask.Reply.{Reply}
use Rattle.mj_ask.specs.declared.ask.Reply.TheVariants as replies
use Rattle.mj_store.specs.Questions.{Content}
use Rattle.mj_store.specs.Runs.{name_of, answer_of, after_access}
use Rattle.mj_store.specs.declared.access.Access.{Access}
use Rattle.mj_store.specs.declared.access.Answer.{Answer}
use Rattle.mj_store.specs.declared.access.Answer.TheVariants as answers
use Rattle.mj_semantics.specs.Program.{Program}
use Rattle.mj_txlog.specs.Accesses.{Transaction, is_write, is_full, seen, reply_in, with_reply, with_unlock, with_entry}
use Rattle.mj_txlog.specs.declared.entry.Unlock.{Unlock}
use Rattle.mj_txlog.specs.declared.entry.Entry.TheVariants as entries
use Rattle.mj_txlog.proofs.Alike.{seen_more}
use Rattle.mj_txn.specs.Closing.{is_local_write, told_in, after_told}
use Rattle.mj_sys.specs.Transactions.{transaction_of, told_to, with_access, with_names, with_waiting, unlock_of, begun_as}
use Rattle.mj_sys.specs.Opening.{NoneIsOpen}
use Rattle.mj_sys.specs.Shared.{Shared, changed, open_of, served}
use Rattle.mj_sys.specs.declared.event.Event.{Event}
use Rattle.mj_sys.specs.History.{History, after, state_of, IsServed}
use Rattle.mj_core.specs.Happen.{Happens, AllHappen}
use Rattle.mj_core.specs.Runs.{IsRun}
use Rattle.mj_serial.specs.Rules.{Exactly, IsToldByRule, after_unlock_of, transaction_after}
use Rattle.mj_serial.proofs.Logs.{leaves, seen_access}
use Rattle.mj_serial.proofs.Sights.{HasPlaces, Obeys, AllObeys, obeys, unshared}
use Rattle.mj_inspect.specs.Own.{IsFrom, after_answer, seen_in, seen_or, seen_after, seen_at, seen_behind, seen_on}
use Rattle.mj_inspect.proofs.Walked.{seen_there}

-- ---- behind an access

-- one to the name of no global is made nowhere
nothing_made : (content : Content) (a : Access) (answer : Answer) → (name_of a).global ≡ false → after_answer content a answer ≡ content
nothing_made content a answers.Limit off = refl
nothing_made content a (answers.Value x) off = ap (λ b. cond b (after_access a content) content) off
nothing_made content a (answers.Data x) off = ap (λ b. cond b (after_access a content) content) off
nothing_made content a (answers.Order x) off = ap (λ b. cond b (after_access a content) content) off
nothing_made content a (answers.Query x) off = ap (λ b. cond b (after_access a content) content) off
nothing_made content a (answers.Subtree x) off = ap (λ b. cond b (after_access a content) content) off
nothing_made content a answers.Done off = ap (λ b. cond b (after_access a content) content) off

-- one that is no change of a local name leaves what it leaves
made_so : (content : Content) (a : Access) → is_local_write a ≡ false → changed a content ≡ after_access a content
made_so content a off = by (name_of a).global refl
  where
    -- of an access to a local name that is no change
    question : (write global : Bool) → (write && not global) ≡ false → global ≡ false → write ≡ false
    question true true e g = absurd cc
    question true false e g = absurd cc
    question false global e g = refl

    by : (b : Bool) → (name_of a).global ≡ b → cond b (after_access a content) content ≡ after_access a content
    by true e = refl
    by false e = sym (leaves a content (question (is_write a) (name_of a).global off e))

-- what a transaction sees behind an access that was answered so
replied : (committed : Content) (t : Transaction) (a : Access) (answer : Answer) → is_local_write a ≡ false
    → after_answer (seen committed t.accesses) a answer ≡ seen committed (with_reply t a answer).accesses
replied committed t a answers.Limit off = refl
replied committed t a (answers.Value x) off =
    made_so (seen committed t.accesses) a off ∙ sym (seen_access committed t.accesses a (answers.Value x))
replied committed t a (answers.Data x) off = made_so (seen committed t.accesses) a off ∙ sym (seen_access committed t.accesses a (answers.Data x))
replied committed t a (answers.Order x) off =
    made_so (seen committed t.accesses) a off ∙ sym (seen_access committed t.accesses a (answers.Order x))
replied committed t a (answers.Query x) off =
    made_so (seen committed t.accesses) a off ∙ sym (seen_access committed t.accesses a (answers.Query x))
replied committed t a (answers.Subtree x) off =
    made_so (seen committed t.accesses) a off ∙ sym (seen_access committed t.accesses a (answers.Subtree x))
replied committed t a answers.Done off = made_so (seen committed t.accesses) a off ∙ sym (seen_access committed t.accesses a answers.Done)

local_name : (write global : Bool) → (write && not global) ≡ true → global ≡ false
local_name true true e = absurd cc
local_name true false e = refl
local_name false global e = absurd cc

accessed_in : (committed globals : Content) (t : Transaction) (a : Access) (b : Bool) → is_local_write a ≡ b
    → after_answer (seen committed t.accesses) a (cond b (answer_of a globals) (reply_in t globals a))
    ≡ seen committed (cond b t (with_reply t a (reply_in t globals a))).accesses
accessed_in committed globals t a true e =
    nothing_made (seen committed t.accesses) a (answer_of a globals) (local_name (is_write a) (name_of a).global e)
accessed_in committed globals t a false e = replied committed t a (reply_in t globals a) e

accessed_by : (committed globals : Content) (t : Option Transaction) (a : Access)
    → option_map (λ c. after_answer c a (told_to t globals a)) (seen_in committed t) ≡ seen_in committed (with_access t globals a)
accessed_by committed globals None a = refl
accessed_by committed globals (Some t) a = ap Some (accessed_in committed globals t a (is_local_write a) refl)

-- ---- behind any ask

-- what an unlock leaves for later, and what was gained, is seen nowhere
waiting_in : (committed : Content) (t : Transaction) (u : Unlock) (b : Bool)
    → seen committed t.accesses ≡ seen committed (cond b t (with_entry t (entries.Unlock u))).accesses
waiting_in committed t u true = refl
waiting_in committed t u false = sym (seen_more committed t.accesses (entries.Unlock u))

waiting_by : (committed : Content) (t : Option Transaction) (u : Unlock) → seen_in committed t ≡ seen_in committed (with_waiting t u)
waiting_by committed None u = refl
waiting_by committed (Some t) u = ap Some (waiting_in committed t u (is_full t))

names_by : (committed : Content) (t : Option Transaction) (names : List Name) → seen_in committed t ≡ seen_in committed (with_names t names)
names_by committed None names = refl
names_by committed (Some t) names = refl

begun_by : (committed : Content) (t : Option Transaction) (kind : Kind) → Some (seen_or committed (seen_in committed t)) ≡ seen_in committed (begun_as t kind)
begun_by committed None kind = refl
begun_by committed (Some t) kind = refl

given_up_by : (committed : Content) (t : Option Transaction) (u : Option Unlock) → seen_in committed t ≡ seen_in committed (after_unlock_of t u)
given_up_by committed t None = refl
given_up_by committed t (Some u) = waiting_by committed t u

-- any other than these leaves for later what it is an unlock of, if it is one
after_ask : (committed globals : Content) (t : Option Transaction) (a : Ask) (r : Reply) → IsToldByRule Exactly t globals a r
    → seen_after committed (seen_in committed t) a r ≡ seen_in committed (transaction_after t globals a r)
after_ask committed globals t (asks.Shared (shared.Access a)) r told =
    ap (λ (q : Reply). seen_after committed (seen_in committed t) (asks.Shared (shared.Access a)) q) told ∙ accessed_by committed globals t a
after_ask committed globals t (asks.Shared (shared.Try names timeout)) replies.Got told = names_by committed t names
after_ask committed globals t (asks.Shared (shared.Begin kind)) r told = begun_by committed t kind
after_ask committed globals t (asks.Shared shared.Commit) r told = refl
after_ask committed globals t (asks.Shared shared.Rollback) r told = refl
after_ask committed globals t (asks.Shared (shared.Halt fault)) r told = refl
after_ask committed globals t a r told = given_up_by committed t (unlock_of a)

-- ---- behind an event

obeyed : (s : Shared) (e : Event) → HasPlaces s → Happens s e → Obeys s e.job e.ask e.reply (after s e)
obeyed s e places happens = by (is_shared e.ask) refl
  where
    by : (b : Bool) → is_shared e.ask ≡ b → Obeys s e.job e.ask e.reply (after s e)
    by true q =
        let is : IsServed s e = happens.1 q in
        subst (AllObeys s e.job e.ask) is.2.1 (obeys s e.job places happens.0 e.ask is.2.0)
    by false q = unshared s e.job places happens.0 e.ask e.reply q

event_by : (committed : Content) (job : ℕ) (s : Shared) (e : Event) → Obeys s e.job e.ask e.reply (after s e) → (mine : Bool) → (e.job == job) ≡ mine
    → seen_on committed (seen_in committed (open_of s job)) (cond mine (Some (e.ask, e.reply)) None)
    ≡ seen_in committed (cond mine (transaction_after (open_of s e.job) s.globals e.ask e.reply) (open_of s job))
event_by committed job s e o true q =
    ap (λ (j : ℕ). seen_after committed (seen_in committed (open_of s j)) e.ask e.reply) (sym (eqb-true e.job job q))
    ∙ after_ask committed s.globals (open_of s e.job) e.ask e.reply o.told
event_by committed job s e o false q = refl

behind_event : (committed : Content) (job : ℕ) (s : Shared) (e : Event) → Obeys s e.job e.ask e.reply (after s e)
    → seen_at committed job (seen_in committed (open_of s job)) (Some e) ≡ seen_in committed (open_of (after s e) job)
behind_event committed job s e o = event_by committed job s e o (e.job == job) refl ∙ ap (seen_in committed) (sym (o.transactions job))

-- ---- behind a history

behind_all : (committed : Content) (job : ℕ) (s : Shared) (h : History) → HasPlaces s → AllHappen s h
    → seen_behind committed job (seen_in committed (open_of s job)) h ≡ seen_in committed (open_of (state_of s h) job)
behind_all committed job s [] places all = refl
behind_all committed job s (e ∷ h) places all =
    let o : Obeys s e.job e.ask e.reply (after s e) = obeyed s e places all.0 in
    ap (λ own. seen_behind committed job own h) (behind_event committed job s e o) ∙ behind_all committed job (after s e) h o.places all.1

happen_front : (s : Shared) (n : ℕ) (h : History) → AllHappen s h → AllHappen s (take n h)
happen_front s zero [] all = tt
happen_front s (suc n) [] all = tt
happen_front s zero (e ∷ h) all = tt
happen_front s (suc n) (e ∷ h) all = (all.0, happen_front (after s e) n h all.1)

-- before the first event nothing is open
nothing_at : (n k : ℕ) → get_or {A = Option Transaction} (replicate n None) k None ≡ None
nothing_at zero zero = refl
nothing_at zero (suc k) = refl
nothing_at (suc n) zero = refl
nothing_at (suc n) (suc k) = nothing_at n k

none_at : (n job : ℕ) → transaction_of (replicate n None) job ≡ None
none_at n zero = refl
none_at n (suc k) = nothing_at n k

opens_none : (committed : Content) (job : ℕ) (s : Shared) → NoneIsOpen s → None ≡ seen_in committed (open_of s job)
opens_none committed job s none = sym (ap (λ ts. seen_in committed (transaction_of ts job)) none ∙ ap (seen_in committed) (none_at (length s.rows) job))

opens_places : (s : Shared) → NoneIsOpen s → HasPlaces s
opens_places s none = ap length none ∙ length-replicate (length s.rows) None

-- what was found from an event on by which the job closed its transaction is what its open transaction sees at the place
pub seen_here : (program : Program) (opening : Shared) (committed : Content) (job : ℕ) (h : History) (place from : ℕ) (own : Option Content)
    → IsRun program opening h → NoneIsOpen opening → IsFrom job h place from → own ≡ seen_behind committed job None (drop from (take place h))
    → own ≡ seen_in committed (open_of (state_of opening (take place h)) job)
seen_here program opening committed job h place from own run none is so =
    so
    ∙ seen_there committed job h place from is
    ∙ ap (λ o. seen_behind committed job o (take place h)) (opens_none committed job opening none)
    ∙ behind_all committed job opening (take place h) (opens_places opening none) (happen_front opening place h run.happen)
