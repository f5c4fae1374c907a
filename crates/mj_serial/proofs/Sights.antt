-- What is served is told by the rule of this system, and leaves what the rule's service leaves.
use Rattle.std.proofs.Common.{◌≡◌, ℕ, zero, suc, ◌+◌, ◌<◌, Bool, true, false, List, [], ◌∷◌, ◌++◌, length, get_or, Option, Some, None, refl, ap, sym, ◌∙◌, subst, arith, length-append, eqb-true, eq-eqb}
use Rattle.std.specs.Prelude.{ℤ, ⊤, ◌==◌, nat_lt, slice_get, slice_set, if◌then◌else◌}
use Rattle.std.specs.Str.{bytes_eq}
use Rattle.std.proofs.lemmas.List.{length-set, get_or-set_same, get_or-set_other}
use Rattle.std.proofs.lemmas.Option.{slice_get_within}
use Rattle.mj_subs.specs.Name.{Name}
use Rattle.mj_ask.specs.Started.{Started}
use Rattle.mj_ask.specs.Fits.{is_shared}
use Rattle.mj_ask.specs.Late.{is_timed_out}
use Rattle.mj_ask.specs.declared.ask.Ask.{Ask}
use Rattle.mj_ask.specs.declared.ask.Ask.TheVariants as asks
use Rattle.mj_ask.specs.declared.ask.SharedAsk.TheVariants as shared_asks
use Rattle.mj_ask.specs.declared.ask.Reply.{Reply}
use Rattle.mj_ask.specs.declared.ask.Reply.TheVariants as replies
use Rattle.mj_locktab.specs.Locks.{Locks}
use Rattle.mj_locktab.specs.Tries.{outcome_of as try_of, after_try}
use Rattle.mj_locktab.specs.declared.taken.Taken.{Taken}
use Rattle.mj_locktab.specs.declared.taken.Taken.TheVariants as takes
use Rattle.mj_jobs.specs.Rows.{Row, opened, with_ended, IsLive}
use Rattle.mj_dev.specs.Shelves.{principal}
use Rattle.mj_txlog.specs.Accesses.{Transaction}
use Rattle.mj_txn.specs.Closing.{commit_closed}
use Rattle.mj_txn.specs.Testing.{first_changed, outcome_by}
use Rattle.mj_txn.specs.declared.changed.Changed.{Changed}
use Rattle.mj_txn.specs.declared.committing.Outcome.TheVariants as outcome
use Rattle.mj_sys.specs.Transactions.{Transactions, transaction_of, with_transaction, with_access, with_names, unlock_of, begun_as, closed_as}
use Rattle.mj_sys.specs.Devices.{Device, Devices, device_at}
use Rattle.mj_sys.specs.Shared.{Shared, open_of, busy, tried, open_free, open_known, has_room, served}
use Rattle.mj_sys.specs.History.{left_by}
use Rattle.mj_serial.specs.Rules.{Exactly, IsKindTold, IsCommitTold, committed_as, IsToldByRule, after_unlock_of, transaction_after, globals_left}
use Rattle.mj_serial.proofs.Tests.{first_none, some_first}

-- there is a place for the transaction of each job
abbrev pub HasPlaces : Shared → Type 0
HasPlaces s = length s.transactions ≡ length s.rows

-- what an ask is told and leaves is what the rule says
pub record Obeys (s : Shared) (job : ℕ) (ask : Ask) (r : Reply) (t : Shared) : Type 0 where
  pub told : IsToldByRule Exactly (open_of s job) s.globals ask r
  pub globals : t.globals ≡ globals_left (open_of s job) s.globals ask r
  pub transactions : (j : ℕ) → open_of t j ≡ (if job == j then transaction_after (open_of s job) s.globals ask r else open_of s j)
  pub places : HasPlaces t

abbrev pub AllObeys : Shared → ℕ → Ask → Option (Reply × Shared) → Type 0
AllObeys s job ask None = ⊤
AllObeys s job ask (Some told) = Obeys s job ask told.0 told.1

-- ---- places

-- a job with a row has a place
place_of : (s : Shared) (job : ℕ) → HasPlaces s → IsLive s.rows job → (k : ℕ) × (job ≡ suc k) × (k < length s.transactions)
place_of s zero places live = absurd cc
place_of s (suc k) places live = (k, refl, (let within = slice_get_within s.rows k live.0 live.1 in omega (arith, within, places)))

-- what a job has open, where it is put there
put_at : (ts : Transactions) (k j : ℕ) (o : Option Transaction) (b : Bool) → (suc k == j) ≡ b → k < length ts
    → transaction_of (with_transaction ts (suc k) o) j ≡ (if b then o else transaction_of ts j)
put_at ts k zero o true q lt = let e : suc k ≡ zero = eqb-true (suc k) zero q in absurd (let f : suc k ≡ 0 = e in omega (arith, f))
put_at ts k zero o false q lt = refl
put_at ts k (suc j) o true q lt =
    let e : suc k ≡ suc j = eqb-true (suc k) (suc j) q in
    let is : k ≡ j = omega (arith, e) in
    ap (λ i. get_or (slice_set ts k o) i None) (sym is) ∙ get_or-set_same ts k o None lt
put_at ts k (suc j) o false q lt =
    get_or-set_other ts k j o None (λ e. let yes : (suc k == suc j) ≡ true = eq-eqb (suc k) (suc j) (ap suc (sym e)) in absurd cc)

put_in : (s : Shared) (job : ℕ) (o : Option Transaction) → HasPlaces s → IsLive s.rows job → (j : ℕ)
    → transaction_of (with_transaction s.transactions job o) j ≡ (if job == j then o else transaction_of s.transactions j)
put_in s job o places live j =
    let p = place_of s job places live in
    subst (λ n. transaction_of (with_transaction s.transactions n o) j ≡ (if n == j then o else transaction_of s.transactions j)) (sym p.1)
    (put_at s.transactions p.0 j o (suc p.0 == j) refl p.2)

put_places : (ts : Transactions) (job : ℕ) (o : Option Transaction) → length (with_transaction ts job o) ≡ length ts
put_places ts zero o = refl
put_places ts (suc k) o = length-set ts k o

-- what it has is what it has
same_open : (s : Shared) (job j : ℕ) (b : Bool) → (job == j) ≡ b → open_of s j ≡ (if b then open_of s job else open_of s j)
same_open s job j true q = ap (open_of s) (sym (eqb-true job j q))
same_open s job j false q = refl

ended_places : (rows : List Row) (job : ℕ) → length (with_ended rows job) ≡ length rows
ended_places rows zero = refl
ended_places rows (suc k) = by (slice_get rows k)
  where
    by : (o : Option Row) → length (elim o as (λ _. List Row) [ None ↦ rows | Some row ↦ slice_set rows k (record row { ended = true }) ]) ≡ length rows
    by None = refl
    by (Some row) = length-set rows k (record row { ended = true })

-- a place more, with nothing open
widened : (ts : Transactions) (k : ℕ) → get_or (ts ++ None ∷ []) k None ≡ get_or ts k None
widened [] zero = refl
widened [] (suc k) = nothing k
  where
    nothing : (k : ℕ) → get_or {A = Option Transaction} [] k None ≡ None
    nothing zero = refl
    nothing (suc k) = refl
widened (t ∷ ts) zero = refl
widened (t ∷ ts) (suc k) = widened ts k

widened_at : (ts : Transactions) (j : ℕ) → transaction_of (ts ++ None ∷ []) j ≡ transaction_of ts j
widened_at ts zero = refl
widened_at ts (suc k) = widened ts k

-- ---- one ask

module _ (s : Shared) (job : ℕ) (places : HasPlaces s) (live : IsLive s.rows job) where
  abbrev O : Option Transaction
  O = open_of s job

  put : (o : Option Transaction) (j : ℕ) → transaction_of (with_transaction s.transactions job o) j ≡ (if job == j then o else open_of s j)
  put o j = put_in s job o places live j

  still : (j : ℕ) → open_of s j ≡ (if job == j then O else open_of s j)
  still j = same_open s job j (job == j) refl

  put_room : (o : Option Transaction) → length (with_transaction s.transactions job o) ≡ length s.rows
  put_room o = put_places s.transactions job o ∙ places

  -- a try
  late_try : (names : List Name) (timeout : Option ℤ) (over : Bool) → AllObeys s job (asks.Shared (shared_asks.Try names timeout)) (if over then Some (replies.Late, s) else None)
  late_try names timeout true = record { told = tt; globals = refl; transactions = still; places = places }
  late_try names timeout false = tt

  by_try : (names : List Name) (timeout : Option ℤ) (late : Bool) (taken : Taken) (locks : Locks)
      → AllObeys s job (asks.Shared (shared_asks.Try names timeout)) (tried s job names timeout late taken locks)
  by_try names timeout late takes.Got locks = record { told = tt; globals = refl; transactions = put (with_names O names); places = put_room (with_names O names) }
  by_try names timeout late (takes.Busy holder name) locks = late_try names timeout (is_timed_out timeout late)
  by_try names timeout late takes.Limit locks = record { told = tt; globals = refl; transactions = still; places = places }

  -- OPEN
  opens : (name : List ℕ) (timeout : Option ℤ) (r : Reply) (devices : Devices) → Obeys s job (asks.Shared (shared_asks.Open name timeout)) r (record s { devices = devices })
  opens name timeout r devices = record { told = tt; globals = refl; transactions = still; places = places }

  late_open : (name : List ℕ) (timeout : Option ℤ) (over : Bool) → AllObeys s job (asks.Shared (shared_asks.Open name timeout)) (if over then Some (replies.Late, s) else None)
  late_open name timeout true = opens name timeout replies.Late s.devices
  late_open name timeout false = tt

  by_free : (name : List ℕ) (timeout : Option ℤ) (d : Device) (b : Bool) (devices : Devices)
      → AllObeys s job (asks.Shared (shared_asks.Open name timeout)) (Some (if b then (replies.Got, record s { devices = devices }) else (replies.NoSession, s)))
  by_free name timeout d true devices = opens name timeout replies.Got devices
  by_free name timeout d false devices = opens name timeout replies.NoSession s.devices

  by_held : (name : List ℕ) (timeout : Option ℤ) (late b : Bool)
      → AllObeys s job (asks.Shared (shared_asks.Open name timeout)) (if b then Some (replies.Got, s) else busy s timeout late)
  by_held name timeout late true = opens name timeout replies.Got s.devices
  by_held name timeout late false = late_open name timeout (is_timed_out timeout late)

  by_known : (name : List ℕ) (timeout : Option ℤ) (late : Bool) (d : Device) (holder : Option ℕ)
      → AllObeys s job (asks.Shared (shared_asks.Open name timeout)) (elim holder as
      (λ _. Option (Reply × Shared)) [ None ↦ Some (open_free s job name d) | Some h ↦ if h == job then Some (replies.Got, s) else busy s timeout late ])
  by_known name timeout late d None = by_free name timeout d (nat_lt d.taken d.sessions) _
  by_known name timeout late d (Some h) = by_held name timeout late (h == job)

  by_found : (name : List ℕ) (timeout : Option ℤ) (late : Bool) (found : Option Device)
      → AllObeys s job (asks.Shared (shared_asks.Open name timeout)) (elim found as
      (λ _. Option (Reply × Shared)) [ None ↦ Some (replies.NoSession, s) | Some d ↦ open_known s job name timeout late d ])
  by_found name timeout late None = opens name timeout replies.NoSession s.devices
  by_found name timeout late (Some d) = by_known name timeout late d d.holder

  by_name : (name : List ℕ) (timeout : Option ℤ) (late b : Bool)
      → AllObeys s job (asks.Shared (shared_asks.Open name timeout)) (if b then Some (replies.Got, s)
      else elim (device_at s.devices name) as (λ _. Option (Reply × Shared)) [ None ↦ Some (replies.NoSession, s) | Some d ↦ open_known s job name timeout late d ])
  by_name name timeout late true = opens name timeout replies.Got s.devices
  by_name name timeout late false = by_found name timeout late (device_at s.devices name)

  -- JOB
  by_room : (start : Started) (timeout : Option ℤ) (b : Bool) → AllObeys s job (asks.Shared (shared_asks.Start start timeout))
      (Some (if b then (replies.Job (length s.rows + 1), record s { rows = s.rows ++ opened start ∷ []; transactions = s.transactions ++ None ∷ [] }) else (replies.Limit, s)))
  by_room start timeout true = record {
    told = tt;
    globals = refl;
    transactions = λ j. widened_at s.transactions j ∙ still j;
    places = length-append s.transactions (None ∷ []) ∙ ap (λ n. n + 1) places ∙ sym (length-append s.rows (opened start ∷ []));
  }
  by_room start timeout false = record { told = tt; globals = refl; transactions = still; places = places }

  -- a commit
  by_changed : (t : Transaction) (found : Option Changed) → t.serial ≡ true → first_changed s.globals [] t.accesses ≡ found
      → IsKindTold Exactly t.serial s.globals t.accesses (commit_closed t job s.globals s.locks (outcome_by found)).reply
      × ((commit_closed t job s.globals s.locks (outcome_by found)).globals ≡ committed_as (Some t) s.globals (commit_closed t job s.globals s.locks (outcome_by found)).reply)
  by_changed t None serial is =
      (subst (λ b. IsKindTold Exactly b s.globals t.accesses replies.Done) (sym serial) (first_none s.globals [] t.accesses is), refl)
  by_changed t (Some c) serial is =
      (subst (λ b. IsKindTold Exactly b s.globals t.accesses (commit_closed t job s.globals s.locks (outcome.Clash c)).reply) (sym serial) (c, refl, some_first s.globals t.accesses c is), refl)

  by_kind : (t : Transaction) (serial : Bool) → t.serial ≡ serial
      → IsKindTold Exactly t.serial s.globals t.accesses (commit_closed t job s.globals s.locks (if serial then outcome_by (first_changed s.globals [] t.accesses) else outcome.Done)).reply
      × ((commit_closed t job s.globals s.locks (if serial then outcome_by (first_changed s.globals [] t.accesses) else outcome.Done)).globals
      ≡ committed_as (Some t) s.globals (commit_closed t job s.globals s.locks (if serial then outcome_by (first_changed s.globals [] t.accesses) else outcome.Done)).reply)
  by_kind t true is = by_changed t (first_changed s.globals [] t.accesses) is refl
  by_kind t false is = (subst (λ b. IsKindTold Exactly b s.globals t.accesses replies.Done) (sym is) refl, refl)

  by_commit : (o : Option Transaction) → IsCommitTold Exactly o s.globals (closed_as o job s.globals s.locks).reply
      × ((closed_as o job s.globals s.locks).globals ≡ committed_as o s.globals (closed_as o job s.globals s.locks).reply)
  by_commit None = (refl, refl)
  by_commit (Some t) = by_kind t t.serial refl

  pub obeys : (ask : Ask) (late : Bool) → AllObeys s job ask (served s job ask late)
  obeys (asks.Shared (shared_asks.Access a)) late =
      record { told = refl; globals = refl; transactions = put (with_access O s.globals a); places = put_room (with_access O s.globals a) }
  obeys (asks.Shared (shared_asks.Try names timeout)) late = by_try names timeout late (try_of s.locks job names) (after_try s.locks job names)
  obeys (asks.Shared (shared_asks.Open name timeout)) late = by_name name timeout late (bytes_eq name principal)
  obeys (asks.Shared (shared_asks.Close name)) late = record { told = tt; globals = refl; transactions = still; places = places }
  obeys (asks.Shared (shared_asks.Start start timeout)) late = by_room start timeout (has_room s)
  obeys (asks.Shared (shared_asks.Halt fault)) late =
      record { told = tt; globals = refl; transactions = put None; places = put_room None ∙ sym (ended_places s.rows job) }
  obeys (asks.Shared (shared_asks.Begin kind)) late = record { told = tt; globals = refl; transactions = put (begun_as O kind); places = put_room (begun_as O kind) }
  obeys (asks.Shared shared_asks.Commit) late = record { told = (by_commit O).0; globals = (by_commit O).1; transactions = put None; places = put_room None }
  obeys (asks.Shared shared_asks.Rollback) late = record { told = tt; globals = refl; transactions = put None; places = put_room None }
  -- what is left is an unlock
  obeys (asks.Shared a) late =
      record { told = refl; globals = refl; transactions = put (after_unlock_of O (unlock_of (asks.Shared a))); places = put_room (after_unlock_of O (unlock_of (asks.Shared a))) }
  obeys _ late = tt

  -- what isn't served changes nothing
  pub unshared : (ask : Ask) (r : Reply) → is_shared ask ≡ false → Obeys s job ask r (left_by s (served s job ask true))
  unshared (asks.Device device a) r e = record { told = tt; globals = refl; transactions = still; places = places }
  unshared (asks.Rest time) r e = record { told = tt; globals = refl; transactions = still; places = places }
  unshared ask r e = absurd cc
