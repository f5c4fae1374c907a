-- The changes in open transactions are of globals, whatever is served.
use Rattle.std.proofs.Common.{◌≡◌, ℕ, zero, suc, ◌+◌, Bool, true, false, cond, not, ◌&&◌, List, [], ◌∷◌, ◌++◌, length, replicate, Option, Some, None, refl}
use Rattle.std.specs.Prelude.{ℤ, nat_lt, ◌==◌, slice_set}
use Rattle.std.specs.List.{slice_index_or, list_all}
use Rattle.std.specs.Str.{bytes_eq}
use Rattle.mj_subs.specs.Name.{Name}
use Rattle.mj_store.specs.Questions.{Content}
use Rattle.mj_store.specs.Runs.{name_of}
use Rattle.mj_store.specs.declared.access.Access.{Access}
use Rattle.mj_store.specs.declared.access.Answer.{Answer}
use Rattle.mj_store.specs.declared.access.Answer.TheVariants as answers
use Rattle.mj_ask.specs.Late.{is_timed_out}
use Rattle.mj_ask.specs.Started.{Started}
use Rattle.mj_ask.specs.declared.ask.Ask.{Ask}
use Rattle.mj_ask.specs.declared.ask.Ask.TheVariants as asks
use Rattle.mj_ask.specs.declared.ask.SharedAsk.{SharedAsk}
use Rattle.mj_ask.specs.declared.ask.SharedAsk.TheVariants as shared_asks
use Rattle.mj_ask.specs.declared.ask.Kind.{Kind}
use Rattle.mj_ask.specs.declared.ask.Reply.{Reply}
use Rattle.mj_ask.specs.declared.ask.Reply.TheVariants as replies
use Rattle.mj_dev.specs.Shelves.{principal}
use Rattle.mj_jobs.specs.Rows.{opened}
use Rattle.mj_locktab.specs.declared.taken.Taken.{Taken}
use Rattle.mj_locktab.specs.declared.taken.Taken.TheVariants as takes
use Rattle.mj_locktab.specs.Locks.{Locks}
use Rattle.mj_locktab.specs.Tries.{outcome_of as try_of, after_try}
use Rattle.mj_txlog.specs.Accesses.{Accesses, Transaction, is_write, is_full, writes_of, reply_in, with_reply}
use Rattle.mj_txlog.specs.declared.entry.Entry.{Entry}
use Rattle.mj_txlog.specs.declared.entry.Entry.TheVariants as entries
use Rattle.mj_txlog.specs.declared.entry.Unlock.{Unlock}
use Rattle.mj_txlog.specs.declared.entry.Unlock.TheVariants as unlocks
use Rattle.mj_sys.specs.Devices.{Device, device_at, with_device, opened_by}
use Rattle.mj_sys.specs.Transactions.{Transactions, transaction_of, with_transaction, with_access, with_names, with_waiting, begun_as}
use Rattle.mj_sys.specs.Shared.{Shared, open_of, busy, tried, open_free, open_known, has_room, answered, served}
use Rattle.mj_sys.specs.System.{changes_globals, change_globals}
use Rattle.mj_sys.specs.History.{left_by}

pub both_true : (a b : Bool) → (a && b) ≡ true → (a ≡ true) × (b ≡ true)
both_true true b e = (refl, e)
both_true false b e = absurd cc

pub and_true : (a b : Bool) → a ≡ true → b ≡ true → (a && b) ≡ true
and_true a b p q = λ i. p i && q i

-- ---- the transaction of a job

own_at : (ts : Transactions) (k : ℕ) → change_globals ts ≡ true → changes_globals (slice_index_or ts k None) ≡ true
own_at [] zero h = refl
own_at [] (suc k) h = refl
own_at (t ∷ ts) zero h = (both_true (changes_globals t) (change_globals ts) h).0
own_at (t ∷ ts) (suc k) h = own_at ts k (both_true (changes_globals t) (change_globals ts) h).1

pub open_own : (ts : Transactions) (job : ℕ) → change_globals ts ≡ true → changes_globals (transaction_of ts job) ≡ true
open_own ts zero h = refl
open_own ts (suc k) h = own_at ts k h

own_set : (ts : Transactions) (k : ℕ) (t : Option Transaction) → changes_globals t ≡ true → change_globals ts ≡ true → change_globals (slice_set ts k t) ≡ true
own_set [] zero t own h = refl
own_set [] (suc k) t own h = refl
own_set (x ∷ ts) zero t own h = and_true (changes_globals t) (change_globals ts) own (both_true (changes_globals x) (change_globals ts) h).1
own_set (x ∷ ts) (suc k) t own h =
    let b = both_true (changes_globals x) (change_globals ts) h in
    and_true (changes_globals x) (change_globals (slice_set ts k t)) b.0 (own_set ts k t own b.1)

own_with : (ts : Transactions) (job : ℕ) (t : Option Transaction) → changes_globals t ≡ true → change_globals ts ≡ true → change_globals (with_transaction ts job t) ≡ true
own_with ts zero t own h = h
own_with ts (suc k) t own h = own_set ts k t own h

own_more : (ts : Transactions) → change_globals ts ≡ true → change_globals (ts ++ None ∷ []) ≡ true
own_more [] h = refl
own_more (x ∷ ts) h =
    let b = both_true (changes_globals x) (change_globals ts) h in
    and_true (changes_globals x) (change_globals (ts ++ None ∷ [])) b.0 (own_more ts b.1)

-- ---- an access more

abbrev are_globals : List Access → Bool
are_globals changes = list_all (λ a. (name_of a).global) changes

writes_more : (xs : Accesses) (e : Entry) → are_globals (writes_of xs) ≡ true → are_globals (writes_of (e ∷ [])) ≡ true → are_globals (writes_of (xs ++ e ∷ [])) ≡ true
writes_more [] e h own = own
writes_more (entries.Access a r ∷ xs) e h own = by (is_write a) h (λ g. writes_more xs e g own) where
  by : (b : Bool) → are_globals (cond b (a ∷ writes_of xs) (writes_of xs)) ≡ true
      → (are_globals (writes_of xs) ≡ true → are_globals (writes_of (xs ++ e ∷ [])) ≡ true)
      → are_globals (cond b (a ∷ writes_of (xs ++ e ∷ [])) (writes_of (xs ++ e ∷ []))) ≡ true
  by true g next =
      let k = both_true ((name_of a).global) (are_globals (writes_of xs)) g in
      and_true ((name_of a).global) (are_globals (writes_of (xs ++ e ∷ []))) k.0 (next k.1)
  by false g next = next g
writes_more (entries.Unlock u ∷ xs) e h own = writes_more xs e h own

-- a change that isn't of a local name is of a global
one_write : (a : Access) (w g : Bool) → (w && not g) ≡ false → (name_of a).global ≡ g → are_globals (cond w (a ∷ []) []) ≡ true
one_write a true true e is = and_true ((name_of a).global) true is refl
one_write a true false e is = absurd (let wrong : true ≡ false = e in cc)
one_write a false g e is = refl

own_reply : (t : Transaction) (a : Access) (r : Answer) → are_globals (cond (is_write a) (a ∷ []) []) ≡ true → changes_globals (Some t) ≡ true
    → changes_globals (Some (with_reply t a r)) ≡ true
own_reply t a answers.Limit one h = h
own_reply t a (answers.Value v) one h = writes_more t.accesses (entries.Access a (answers.Value v)) h one
own_reply t a (answers.Data d) one h = writes_more t.accesses (entries.Access a (answers.Data d)) h one
own_reply t a (answers.Order o) one h = writes_more t.accesses (entries.Access a (answers.Order o)) h one
own_reply t a (answers.Query q) one h = writes_more t.accesses (entries.Access a (answers.Query q)) h one
own_reply t a (answers.Subtree n) one h = writes_more t.accesses (entries.Access a (answers.Subtree n)) h one
own_reply t a answers.Done one h = writes_more t.accesses (entries.Access a answers.Done) h one

own_told : (t : Transaction) (globals : Content) (a : Access) (b : Bool) → (is_write a && not (name_of a).global) ≡ b → changes_globals (Some t) ≡ true
    → changes_globals (Some (cond b t (with_reply t a (reply_in t globals a)))) ≡ true
own_told t globals a true is h = h
own_told t globals a false is h = own_reply t a (reply_in t globals a) (one_write a (is_write a) ((name_of a).global) is refl) h

own_access : (t : Option Transaction) (globals : Content) (a : Access) → changes_globals t ≡ true → changes_globals (with_access t globals a) ≡ true
own_access None globals a h = refl
own_access (Some t) globals a h = own_told t globals a (is_write a && not (name_of a).global) refl h

own_names : (t : Option Transaction) (names : List Name) → changes_globals t ≡ true → changes_globals (with_names t names) ≡ true
own_names None names h = refl
own_names (Some t) names h = h

own_full : (t : Transaction) (u : Unlock) (b : Bool) → changes_globals (Some t) ≡ true
    → changes_globals (Some (cond b t (record t { accesses = t.accesses ++ entries.Unlock u ∷ [] }))) ≡ true
own_full t u true h = h
own_full t u false h = writes_more t.accesses (entries.Unlock u) h refl

own_waiting : (t : Option Transaction) (u : Unlock) → changes_globals t ≡ true → changes_globals (with_waiting t u) ≡ true
own_waiting None u h = refl
own_waiting (Some t) u h = own_full t u (is_full t) h

own_begun : (t : Option Transaction) (kind : Kind) → changes_globals t ≡ true → changes_globals (begun_as t kind) ≡ true
own_begun None kind h = refl
own_begun (Some t) kind h = h

-- ---- what an ask leaves

module _ (s : Shared) (h : change_globals s.transactions ≡ true) where
  abbrev Stays : Option (Reply × Shared) → Type 0
  Stays o = change_globals (left_by s o).transactions ≡ true

  by_busy : (timeout : Option ℤ) → Stays (busy s timeout true)
  by_busy timeout = by (is_timed_out timeout true) where
    by : (b : Bool) → Stays (cond b (Some (replies.Late, s)) None)
    by true = h
    by false = h

  by_try : (job : ℕ) (names : List Name) (timeout : Option ℤ) (taken : Taken) (locks : Locks) → Stays (tried s job names timeout true taken locks)
  by_try job names timeout takes.Got locks =
      own_with s.transactions job (with_names (open_of s job) names) (own_names (open_of s job) names (open_own s.transactions job h)) h
  by_try job names timeout (takes.Busy holder name) locks = by_busy timeout
  by_try job names timeout takes.Limit locks = h

  by_free : (b : Bool) (job : ℕ) (name : List ℕ)
      → Stays (Some (cond b (replies.Got, record s { devices = with_device s.devices name (opened_by job) }) (replies.NoSession, s)))
  by_free true job name = h
  by_free false job name = h

  by_held : (b : Bool) (timeout : Option ℤ) → Stays (cond b (Some (replies.Got, s)) (busy s timeout true))
  by_held true timeout = h
  by_held false timeout = by_busy timeout

  by_known : (job : ℕ) (name : List ℕ) (timeout : Option ℤ) (d : Device) (holder : Option ℕ)
      → Stays (elim holder [ None ↦ Some (open_free s job name d) | Some k ↦ cond (k == job) (Some (replies.Got, s)) (busy s timeout true) ])
  by_known job name timeout d None = by_free (nat_lt d.taken d.sessions) job name
  by_known job name timeout d (Some k) = by_held (k == job) timeout

  by_found : (job : ℕ) (name : List ℕ) (timeout : Option ℤ) (found : Option Device)
      → Stays (elim found [ None ↦ Some (replies.NoSession, s) | Some d ↦ open_known s job name timeout true d ])
  by_found job name timeout None = h
  by_found job name timeout (Some d) = by_known job name timeout d d.holder

  by_name : (job : ℕ) (name : List ℕ) (timeout : Option ℤ) (b : Bool)
      → Stays (cond b (Some (replies.Got, s)) (elim (device_at s.devices name) [ None ↦ Some (replies.NoSession, s) | Some d ↦ open_known s job name timeout true d ]))
  by_name job name timeout true = h
  by_name job name timeout false = by_found job name timeout (device_at s.devices name)

  by_start : (b : Bool) (start : Started)
      → Stays (Some (cond b (replies.Job (length s.rows + 1), record s { rows = s.rows ++ opened start ∷ []; transactions = s.transactions ++ None ∷ [] }) (replies.Limit, s)))
  by_start true start = own_more s.transactions h
  by_start false start = h

  -- a transaction of the job in its place
  here : (job : ℕ) (t : Option Transaction) → changes_globals t ≡ true → change_globals (with_transaction s.transactions job t) ≡ true
  here job t own = own_with s.transactions job t own h

  given : (job : ℕ) (u : Unlock) → change_globals (with_transaction s.transactions job (with_waiting (open_of s job) u)) ≡ true
  given job u = here job (with_waiting (open_of s job) u) (own_waiting (open_of s job) u (open_own s.transactions job h))

  answered_waiting : (job : ℕ) (ask : SharedAsk) → Stays (answered s job ask true)
  answered_waiting job (shared_asks.Access a) =
      here job (with_access (open_of s job) s.globals a) (own_access (open_of s job) s.globals a (open_own s.transactions job h))
  answered_waiting job (shared_asks.Try names timeout) = by_try job names timeout (try_of s.locks job names) (after_try s.locks job names)
  answered_waiting job (shared_asks.Unlock names) = given job (unlocks.Names names)
  answered_waiting job shared_asks.UnlockAll = given job unlocks.All
  answered_waiting job (shared_asks.Open name timeout) = by_name job name timeout (bytes_eq name principal)
  answered_waiting job (shared_asks.Close name) = h
  answered_waiting job (shared_asks.Start start timeout) = by_start (has_room s) start
  answered_waiting job (shared_asks.Begin kind) = here job (begun_as (open_of s job) kind) (own_begun (open_of s job) kind (open_own s.transactions job h))
  answered_waiting job _ = here job None refl

  pub stays_waiting : (job : ℕ) (ask : Ask) → Stays (served s job ask true)
  stays_waiting job (asks.Shared ask) = answered_waiting job ask
  stays_waiting job _ = h

-- at first none is open
pub none_waiting : (n : ℕ) → change_globals (replicate n None) ≡ true
none_waiting zero = refl
none_waiting (suc n) = none_waiting n
