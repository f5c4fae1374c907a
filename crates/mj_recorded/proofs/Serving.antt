-- What is told can be written, and what is shared stays formed.
use Rattle.std.proofs.Common.{◌≡◌, ℕ, zero, suc, Bool, true, false, ◌+◌, ◌||◌, ◌&&◌, not, length, cond, List, [], ◌∷◌, ◌++◌, Option, Some, None, refl, subst, arith}
use Rattle.std.specs.Prelude.{⊤, ℤ, pos, int_le, nat_lt, ◌==◌, slice_get, slice_set}
use Rattle.std.specs.Str.{bytes_eq}
use Rattle.std.specs.Option.{option_or}
use Rattle.std.specs.List.{slice_index_or}
use Rattle.mj_subs.specs.Name.{Name}
use Rattle.mj_store.specs.Questions.{Content}
use Rattle.mj_store.specs.Runs.{name_of, answer_of, after_access, after_accesses}
use Rattle.mj_store.specs.declared.access.Access.{Access}
use Rattle.mj_store.specs.declared.access.Answer.{Answer}
use Rattle.mj_store.specs.declared.access.Answer.TheVariants as answers
use Rattle.mj_ask.specs.Keeping.{kept_of}
use Rattle.mj_ask.proofs.Keeping.{keeps}
use Rattle.mj_ask.proofs.Lists.{and_true}
use Rattle.mj_ask.specs.declared.ask.Kind.{Kind}
use Rattle.mj_ask.specs.declared.clash.Clash.{Clash}
use Rattle.mj_ask.specs.Started.{Started}
use Rattle.mj_ask.specs.declared.ask.Ask.{Ask}
use Rattle.mj_ask.specs.declared.ask.Ask.TheVariants as asks
use Rattle.mj_ask.specs.declared.ask.SharedAsk.TheVariants as shared_asks
use Rattle.mj_ask.specs.declared.ask.DeviceAsk.TheVariants as device_asks
use Rattle.mj_ask.specs.declared.ask.Reply.{Reply}
use Rattle.mj_ask.specs.declared.ask.Reply.TheVariants as replies
use Rattle.mj_ask.specs.Fits.{fits, is_shared}
use Rattle.mj_ask.specs.Formed.{is_access, is_answer, is_ask, is_clash, is_kept, is_reply}
use Rattle.mj_ask.specs.Fitting.{is_content}
use Rattle.mj_ask.proofs.Fitting.{served as access_served}
use Rattle.mj_rou.specs.Words.{Each}
use Rattle.mj_jobs.specs.Rows.{Row, opened, with_ended}
use Rattle.mj_locktab.specs.Locks.{Locks}
use Rattle.mj_locktab.specs.Tries.{outcome_of as try_of, after_try}
use Rattle.mj_locktab.specs.declared.taken.Taken.{Taken}
use Rattle.mj_locktab.specs.declared.taken.Taken.TheVariants as takes
use Rattle.mj_dev.specs.Shelves.{principal}
use Rattle.mj_sys.specs.Devices.{Device, device_at}
use Rattle.mj_txlog.specs.Accesses.{Accesses, Transaction, is_write, is_full, writes_of, seen, reply_in, with_reply}
use Rattle.mj_txlog.specs.declared.entry.Entry.{Entry}
use Rattle.mj_txlog.specs.declared.entry.Entry.TheVariants as entries
use Rattle.mj_txlog.specs.declared.entry.Unlock.{Unlock}
use Rattle.mj_txlog.specs.declared.entry.Unlock.TheVariants as unlocks
use Rattle.mj_txn.specs.Closing.{Closed, clash_of, commit_closed}
use Rattle.mj_txn.specs.Testing.{is_same_answer, changed_at, first_changed, outcome_by}
use Rattle.mj_txn.specs.declared.changed.Changed.{Changed}
use Rattle.mj_txn.specs.declared.committing.Outcome.TheVariants as outcomes
use Rattle.mj_sys.specs.Transactions.{Transactions, transaction_of, with_transaction, told_to, with_access, with_names, unlock_told, with_waiting, begun_as, closed_as}
use Rattle.mj_sys.specs.Shared.{Shared, open_of, globals_after, given_up, closed, tried, busy, has_room, started, open_free, open_known, served}
use Rattle.mj_sys.specs.History.{left_by}
use Rattle.mj_recorded.specs.Laws.{IsStarted, IsAccessFormed, AreAccessesFormed, IsFormed}

-- what is told can be written, and what is shared then is formed
abbrev pub Tells : Option (Reply × Shared) → Type 0
Tells None = ⊤
Tells (Some t) = (is_reply t.0 ≡ true) × IsFormed t.1

-- ---- rows

pub one_of : {X : Type 0} (P : X → Type 0) (xs : List X) (k : ℕ) (x : X) → Each P xs → slice_get xs k ≡ Some x → P x
one_of P [] k x h e = absurd cc
one_of {X} P (y ∷ xs) zero x h e = let p : y ≡ x = cc in let Q : X → Type 0 = P in subst Q p h.0
one_of P (y ∷ xs) (suc k) x h e = one_of P xs k x h.1 e

set_one : {X : Type 0} (P : X → Type 0) (xs : List X) (k : ℕ) (x : X) → Each P xs → P x → Each P (slice_set xs k x)
set_one P [] k x h p = tt
set_one P (y ∷ xs) zero x h p = (p, h.1)
set_one P (y ∷ xs) (suc k) x h p = (h.0, set_one P xs k x h.1 p)

pub joined : {X : Type 0} (P : X → Type 0) (xs ys : List X) → Each P xs → Each P ys → Each P (xs ++ ys)
joined P [] ys h i = i
joined P (x ∷ xs) ys h i = (h.0, joined P xs ys h.1 i)

ends : (rows : List Row) (job : ℕ) → Each IsStarted rows → Each IsStarted (with_ended rows job)
ends rows zero h = h
ends rows (suc k) h = by (slice_get rows k) refl
  where
    by : (o : Option Row) → slice_get rows k ≡ o → Each IsStarted (elim o [ None ↦ rows | Some row ↦ slice_set rows k (record row { ended = true }) ])
    by None e = h
    by (Some row) e = set_one IsStarted rows k (record row { ended = true }) h (one_of IsStarted rows k row h e)

-- ---- transactions

at_one : (ts : Transactions) (k : ℕ) → Each AreAccessesFormed ts → AreAccessesFormed (slice_index_or ts k None)
at_one [] zero h = tt
at_one [] (suc k) h = tt
at_one (t ∷ ts) zero h = h.0
at_one (t ∷ ts) (suc k) h = at_one ts k h.1

open_formed : (ts : Transactions) (job : ℕ) → Each AreAccessesFormed ts → AreAccessesFormed (transaction_of ts job)
open_formed ts zero h = tt
open_formed ts (suc k) h = at_one ts k h

with_formed : (ts : Transactions) (job : ℕ) (t : Option Transaction) → AreAccessesFormed t → Each AreAccessesFormed ts → Each AreAccessesFormed (with_transaction ts job t)
with_formed ts zero t own h = h
with_formed ts (suc k) t own h = set_one AreAccessesFormed ts k t h own

-- what a transaction sees can be written
seen_formed : (xs : Accesses) (globals : Content) → Each IsAccessFormed xs → is_content globals ≡ true → is_content (seen globals xs) ≡ true
seen_formed [] globals h g = g
seen_formed (entries.Access a r ∷ xs) globals h g = by (is_write a) (λ c i. seen_formed xs c h.1 i) where
  by : (b : Bool) → ((c : Content) → is_content c ≡ true → is_content (seen c xs) ≡ true)
      → is_content (after_accesses (cond b (a ∷ writes_of xs) (writes_of xs)) globals) ≡ true
  by true rest = rest (after_access a globals) ((access_served a h.0.0).content globals g)
  by false rest = rest globals g
seen_formed (entries.Unlock u ∷ xs) globals h g = seen_formed xs globals h.1 g

told_formed : (t : Option Transaction) (globals : Content) (a : Access) → is_access a ≡ true → AreAccessesFormed t → is_content globals ≡ true
    → is_answer (told_to t globals a) ≡ true
told_formed None globals a k h g = (access_served a k).formed globals g
told_formed (Some t) globals a k h g = by (is_write a && not (name_of a).global) (is_full t) where
  by : (local full : Bool) → is_answer (cond local (answer_of a globals) (cond full answers.Limit (answer_of a (seen globals t.accesses)))) ≡ true
  by true full = (access_served a k).formed globals g
  by false true = refl
  by false false = (access_served a k).formed (seen globals t.accesses) (seen_formed t.accesses globals h g)

reply_kept : (t : Transaction) (a : Access) (r : Answer) → is_access a ≡ true → is_answer r ≡ true → Each IsAccessFormed t.accesses
    → Each IsAccessFormed (with_reply t a r).accesses
reply_kept t a answers.Limit k f h = h
reply_kept t a (answers.Value v) k f h = joined IsAccessFormed t.accesses (entries.Access a (answers.Value v) ∷ []) h ((k, f), tt)
reply_kept t a (answers.Data d) k f h = joined IsAccessFormed t.accesses (entries.Access a (answers.Data d) ∷ []) h ((k, f), tt)
reply_kept t a (answers.Order o) k f h = joined IsAccessFormed t.accesses (entries.Access a (answers.Order o) ∷ []) h ((k, f), tt)
reply_kept t a (answers.Query q) k f h = joined IsAccessFormed t.accesses (entries.Access a (answers.Query q) ∷ []) h ((k, f), tt)
reply_kept t a (answers.Subtree n) k f h = joined IsAccessFormed t.accesses (entries.Access a (answers.Subtree n) ∷ []) h ((k, f), tt)
reply_kept t a answers.Done k f h = joined IsAccessFormed t.accesses (entries.Access a answers.Done ∷ []) h ((k, f), tt)

reply_formed : (t : Transaction) (globals : Content) (a : Access) → is_access a ≡ true → Each IsAccessFormed t.accesses → is_content globals ≡ true
    → is_answer (reply_in t globals a) ≡ true
reply_formed t globals a k h g = by (is_full t) where
  by : (full : Bool) → is_answer (cond full answers.Limit (answer_of a (seen globals t.accesses))) ≡ true
  by true = refl
  by false = (access_served a k).formed (seen globals t.accesses) (seen_formed t.accesses globals h g)

access_kept : (t : Option Transaction) (globals : Content) (a : Access) → is_access a ≡ true → AreAccessesFormed t → is_content globals ≡ true
    → AreAccessesFormed (with_access t globals a)
access_kept None globals a k h g = tt
access_kept (Some t) globals a k h g = by (is_write a && not (name_of a).global) where
  by : (local : Bool) → AreAccessesFormed (Some (cond local t (with_reply t a (reply_in t globals a))))
  by true = h
  by false = reply_kept t a (reply_in t globals a) k (reply_formed t globals a k h g) h

names_formed : (t : Option Transaction) (names : List Name) → AreAccessesFormed t → AreAccessesFormed (with_names t names)
names_formed None names h = tt
names_formed (Some t) names h = h

waiting_formed : (t : Option Transaction) (u : Unlock) → AreAccessesFormed t → AreAccessesFormed (with_waiting t u)
waiting_formed None u h = tt
waiting_formed (Some t) u h = by (is_full t) where
  by : (full : Bool) → AreAccessesFormed (Some (cond full t (record t { accesses = t.accesses ++ entries.Unlock u ∷ [] })))
  by true = h
  by false = joined IsAccessFormed t.accesses (entries.Unlock u ∷ []) h (tt, tt)

begun_formed : (t : Option Transaction) (kind : Kind) → AreAccessesFormed t → AreAccessesFormed (begun_as t kind)
begun_formed None kind h = tt
begun_formed (Some t) kind h = h

unlock_formed : (t : Option Transaction) → is_reply (unlock_told t) ≡ true
unlock_formed None = refl
unlock_formed (Some t) = by (is_full t) where
  by : (full : Bool) → is_reply (cond full replies.Limit replies.Done) ≡ true
  by true = refl
  by false = refl

-- ---- a commit

abbrev IsClashFormed : Option Changed → Type 0
IsClashFormed None = ⊤
IsClashFormed (Some c) = is_clash (clash_of c) ≡ true

one_clash : (n : ℕ) (x y : Answer) → is_answer x ≡ true → is_answer y ≡ true → is_clash (clash_of (record { place = n + 1; then = x; now = y })) ≡ true
one_clash n x y f g =
    let some : nat_lt 0 (n + 1) ≡ true = grind arith in
    and_true (nat_lt 0 (n + 1) && is_kept (kept_of x)) (is_kept (kept_of y)) (and_true (nat_lt 0 (n + 1)) (is_kept (kept_of x)) some ((keeps x (kept_of x) refl).formed f))
    ((keeps y (kept_of y) refl).formed g)

first_or : (one other : Option Changed) → IsClashFormed one → IsClashFormed other → IsClashFormed (option_or one other)
first_or None other a b = b
first_or (Some c) other a b = a

at_clash : (globals : Content) (earlier : Accesses) (e : Entry) → Each IsAccessFormed earlier → IsAccessFormed e → is_content globals ≡ true
    → IsClashFormed (changed_at globals earlier e)
at_clash globals earlier (entries.Unlock u) h own g = tt
at_clash globals earlier (entries.Access a r) h own g = by (is_write a || is_same_answer (answer_of a (seen globals earlier)) r) where
  by : (b : Bool) → IsClashFormed (cond b None (Some (record { place = length earlier + 1; then = r; now = answer_of a (seen globals earlier) })))
  by true = tt
  by false = one_clash (length earlier) r (answer_of a (seen globals earlier)) own.1 ((access_served a own.0).formed (seen globals earlier) (seen_formed earlier globals h g))

first_clash : (globals : Content) (earlier later : Accesses) → Each IsAccessFormed earlier → Each IsAccessFormed later → is_content globals ≡ true
    → IsClashFormed (first_changed globals earlier later)
first_clash globals earlier [] h l g = tt
first_clash globals earlier (e ∷ later) h l g =
    first_or (changed_at globals earlier e) (first_changed globals (earlier ++ e ∷ []) later) (at_clash globals earlier e h l.0 g)
    (first_clash globals (earlier ++ e ∷ []) later (joined IsAccessFormed earlier (e ∷ []) h (l.0, tt)) l.1 g)

-- what a commit is told can be written, and so can the globals that it leaves
abbrev IsClosedFormed : Closed → Type 0
IsClosedFormed c = (is_reply c.reply ≡ true) × (is_content c.globals ≡ true)

done_formed : (t : Transaction) (job : ℕ) (globals : Content) (locks : Locks) → AreAccessesFormed (Some t) → is_content globals ≡ true
    → IsClosedFormed (commit_closed t job globals locks outcomes.Done)
done_formed t job globals locks h g = (refl, seen_formed t.accesses globals h g)

by_clash : (t : Transaction) (job : ℕ) (globals : Content) (locks : Locks) (o : Option Changed) → AreAccessesFormed (Some t) → is_content globals ≡ true → IsClashFormed o
    → IsClosedFormed (commit_closed t job globals locks (outcome_by o))
by_clash t job globals locks None h g c = done_formed t job globals locks h g
by_clash t job globals locks (Some x) h g c = (c, g)

close_formed : (t : Option Transaction) (job : ℕ) (globals : Content) (locks : Locks) → AreAccessesFormed t → is_content globals ≡ true
    → IsClosedFormed (closed_as t job globals locks)
close_formed None job globals locks h g = (refl, g)
close_formed (Some t) job globals locks h g = by t.serial where
  by : (b : Bool) → IsClosedFormed (commit_closed t job globals locks (cond b (outcome_by (first_changed globals [] t.accesses)) outcomes.Done))
  by true = by_clash t job globals locks (first_changed globals [] t.accesses) h g (first_clash globals [] t.accesses tt h g)
  by false = done_formed t job globals locks h g

-- ---- service

changed_formed : (t : Option Transaction) (globals : Content) (a : Access) (b : Bool) → (name_of a).global ≡ b → is_access a ≡ true → is_content globals ≡ true
    → is_content (globals_after t a globals) ≡ true
changed_formed None globals a true e k g = rw e ((access_served a k).content globals g)
changed_formed None globals a false e k g = rw e g
changed_formed (Some t) globals a b e k g = g

late_tells : (s : Shared) (timeout : Option ℤ) (late : Bool) → IsFormed s → Tells (busy s timeout late)
late_tells s None late h = tt
late_tells s (Some t) late h = over (late || int_le t (pos 0))
  where
    over : (b : Bool) → Tells (cond b (Some (replies.Late, s)) None)
    over true = (refl, h)
    over false = tt

try_tells : (s : Shared) (job : ℕ) (names : List Name) (timeout : Option ℤ) (late : Bool) (taken : Taken) (locks : Locks) → IsFormed s
    → Tells (tried s job names timeout late taken locks)
try_tells s job names timeout late takes.Got locks h =
    let own = names_formed (open_of s job) names (open_formed s.transactions job h.transactions) in
    (refl, record { globals = h.globals; rows = h.rows; transactions = with_formed s.transactions job (with_names (open_of s job) names) own h.transactions })
try_tells s job names timeout late (takes.Busy holder name) locks h = late_tells s timeout late h
try_tells s job names timeout late takes.Limit locks h = (refl, h)

free_tells : (s : Shared) (job : ℕ) (name : List ℕ) (d : Device) (b : Bool) → nat_lt d.taken d.sessions ≡ b → IsFormed s → Tells (Some (open_free s job name d))
free_tells s job name d true e h = rw e (refl, record { globals = h.globals; rows = h.rows; transactions = h.transactions })
free_tells s job name d false e h = rw e (refl, h)

held_tells : (s : Shared) (timeout : Option ℤ) (late b : Bool) → IsFormed s → Tells (cond b (Some (replies.Got, s)) (busy s timeout late))
held_tells s timeout late true h = (refl, h)
held_tells s timeout late false h = late_tells s timeout late h

known_tells : (s : Shared) (job : ℕ) (name : List ℕ) (timeout : Option ℤ) (late : Bool) (d : Device) (holder : Option ℕ) → IsFormed s
    → Tells (elim holder [ None ↦ Some (open_free s job name d) | Some h ↦ cond (h == job) (Some (replies.Got, s)) (busy s timeout late) ])
known_tells s job name timeout late d None h = free_tells s job name d (nat_lt d.taken d.sessions) refl h
known_tells s job name timeout late d (Some k) h = held_tells s timeout late (k == job) h

found_tells : (s : Shared) (job : ℕ) (name : List ℕ) (timeout : Option ℤ) (late : Bool) (found : Option Device) → IsFormed s
    → Tells (elim found [ None ↦ Some (replies.NoSession, s) | Some d ↦ open_known s job name timeout late d ])
found_tells s job name timeout late None h = (refl, h)
found_tells s job name timeout late (Some d) h = known_tells s job name timeout late d d.holder h

open_tells : (s : Shared) (job : ℕ) (name : List ℕ) (timeout : Option ℤ) (late b : Bool) → IsFormed s
    → Tells (cond b (Some (replies.Got, s)) (elim (device_at s.devices name) [ None ↦ Some (replies.NoSession, s) | Some d ↦ open_known s job name timeout late d ]))
open_tells s job name timeout late true h = (refl, h)
open_tells s job name timeout late false h = found_tells s job name timeout late (device_at s.devices name) h

start_tells : (s : Shared) (start : Started) (b : Bool) → has_room s ≡ b → IsStarted (opened start) → IsFormed s → Tells (Some (started s start))
start_tells s start true e k h =
    rw e (
      refl,
      record {
        globals = h.globals;
        rows = joined IsStarted s.rows (opened start ∷ []) h.rows (k, tt);
        transactions = joined AreAccessesFormed s.transactions (None ∷ [])
            h.transactions (tt, tt);
      },
    )
start_tells s start false e k h = rw e (refl, h)

unlock_tells : (s : Shared) (job : ℕ) (u : Unlock) → IsFormed s → Tells (Some (given_up s job u (open_of s job)))
unlock_tells s job u h =
    let own = waiting_formed (open_of s job) u (open_formed s.transactions job h.transactions) in (
      unlock_formed (open_of s job),
      record { globals = h.globals; rows = h.rows; transactions = with_formed s.transactions job (with_waiting (open_of s job) u) own h.transactions },
    )

closes : (s : Shared) (job : ℕ) (c : Closed) → IsClosedFormed c → IsFormed s → Tells (Some (closed s job c))
closes s job c formed h =
    (formed.0, record { globals = formed.1; rows = h.rows; transactions = with_formed s.transactions job None tt h.transactions })

pub serves : (s : Shared) (job : ℕ) (ask : Ask) (late : Bool) → is_ask ask ≡ true → IsFormed s → Tells (served s job ask late)
serves s job (asks.Shared (shared_asks.Access a)) late k h =
    let own = open_formed s.transactions job h.transactions in (
      told_formed (open_of s job) s.globals a k own h.globals,
      record {
        globals = changed_formed (open_of s job) s.globals a (name_of a).global refl k h.globals;
        rows = h.rows;
        transactions = with_formed s.transactions job (with_access (open_of s job) s.globals a) (access_kept (open_of s job) s.globals a k own h.globals) h.transactions;
      },
    )
serves s job (asks.Shared (shared_asks.Try names timeout)) late k h = try_tells s job names timeout late (try_of s.locks job names) (after_try s.locks job names) h
serves s job (asks.Shared (shared_asks.Unlock names)) late k h = unlock_tells s job (unlocks.Names names) h
serves s job (asks.Shared shared_asks.UnlockAll) late k h = unlock_tells s job unlocks.All h
serves s job (asks.Shared (shared_asks.Begin kind)) late k h =
    let own = begun_formed (open_of s job) kind (open_formed s.transactions job h.transactions) in
    (refl, record { globals = h.globals; rows = h.rows; transactions = with_formed s.transactions job (begun_as (open_of s job) kind) own h.transactions })
serves s job (asks.Shared shared_asks.Commit) late k h =
    let c = close_formed (open_of s job) job s.globals s.locks (open_formed s.transactions job h.transactions) h.globals in
    closes s job (closed_as (open_of s job) job s.globals s.locks) c h
serves s job (asks.Shared shared_asks.Rollback) late k h = (refl, record { globals = h.globals; rows = h.rows; transactions = with_formed s.transactions job None tt h.transactions })
serves s job (asks.Shared (shared_asks.Open name timeout)) late k h = open_tells s job name timeout late (bytes_eq name principal) h
serves s job (asks.Shared (shared_asks.Close name)) late k h = (refl, record { globals = h.globals; rows = h.rows; transactions = h.transactions })
serves s job (asks.Shared (shared_asks.Start start timeout)) late k h = start_tells s start (has_room s) refl k h
serves s job (asks.Shared (shared_asks.Halt fault)) late k h =
    (refl, record { globals = h.globals; rows = ends s.rows job h.rows; transactions = with_formed s.transactions job None tt h.transactions })
serves s job _ late k h = tt

pub leaves : (s : Shared) (o : Option (Reply × Shared)) → IsFormed s → Tells o → IsFormed (left_by s o)
leaves s None h t = h
leaves s (Some told) h t = t.1

-- ---- what the shared state doesn't serve

-- neither an answer nor a clash is a reply to it
answers_none : (a : Ask) (y : Answer) → fits a (replies.Answer y) ≡ true → is_shared a ≡ false → is_reply (replies.Answer y) ≡ true
answers_none (asks.Shared a) y f p = absurd (let no : true ≡ false = p in cc)
answers_none (asks.Device d device_asks.Begin) y f p = absurd (let no : false ≡ true = f in cc)
answers_none _ y f p = absurd (let no : false ≡ true = f in cc)

clashes_none : (a : Ask) (y : Clash) → fits a (replies.Clash y) ≡ true → is_shared a ≡ false → is_reply (replies.Clash y) ≡ true
clashes_none (asks.Shared a) y f p = absurd (let no : true ≡ false = p in cc)
clashes_none (asks.Device d device_asks.Begin) y f p = absurd (let no : false ≡ true = f in cc)
clashes_none _ y f p = absurd (let no : false ≡ true = f in cc)

pub unshared : (a : Ask) (x : Reply) → fits a x ≡ true → is_shared a ≡ false → is_reply x ≡ true
unshared a (replies.Answer y) f p = answers_none a y f p
unshared a (replies.Clash y) f p = clashes_none a y f p
unshared a _ f p = refl
