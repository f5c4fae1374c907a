-- What an event leaves of who holds what: only what locks may give a job a name, and only the asks that may change it change it.
use Rattle.std.specs.Prelude.{ℤ, T, ◌==◌, ◌⊎◌, nat_lt, if◌then◌else◌}
use Rattle.std.specs.Str.{bytes_eq}
use Rattle.std.specs.List.{Contains}
use Rattle.std.proofs.Common.{◌≡◌, ℕ, zero, suc, ◌+◌, ◌<◌, ◌≤◌, Bool, true, false, cond, List, [], ◌∷◌, ◌++◌, length, Option, Some, None, refl, sym, ap, subst, inl, inr, arith, count_by, eqb→eq}
use Rattle.std.proofs.lemmas.List.Sums.{sum_by-cons}
use Rattle.std.proofs.lemmas.Option.{same_Some}
use Rattle.mj_subs.specs.Name.{Name, names_eq}
use Rattle.mj_subs.specs.Laws.Tests.{names_eq-Decides}
use Rattle.mj_store.specs.Questions.{Content}
use Rattle.mj_ask.specs.Started.{Started}
use Rattle.mj_ask.specs.declared.ask.Ask.{Ask}
use Rattle.mj_ask.specs.declared.ask.Ask.TheVariants as asks
use Rattle.mj_ask.specs.declared.ask.SharedAsk.{SharedAsk}
use Rattle.mj_ask.specs.declared.ask.SharedAsk.TheVariants as shared_asks
use Rattle.mj_ask.specs.declared.ask.Reply.{Reply}
use Rattle.mj_ask.specs.declared.ask.Reply.TheVariants as replies
use Rattle.mj_ask.specs.Fits.{is_shared}
use Rattle.mj_ask.specs.Late.{is_timed_out}
use Rattle.mj_dev.specs.Shelves.{principal}
use Rattle.mj_jobs.specs.Rows.{opened}
use Rattle.mj_locktab.specs.declared.hold.Hold.{Hold}
use Rattle.mj_locktab.specs.Locks.{Locks, count_of, is_past_limit}
use Rattle.mj_locktab.specs.Changes.{after_take, after_give, after_give_all, places_of}
use Rattle.mj_locktab.specs.Tries.{conflict_of, try_answer, left}
use Rattle.mj_locktab.proofs.Counts.{rises, falls, without}
use Rattle.mj_txlog.specs.Accesses.{Accesses, Transaction}
use Rattle.mj_txlog.specs.declared.entry.Entry.TheVariants as entries
use Rattle.mj_txlog.specs.declared.entry.Unlock.{Unlock}
use Rattle.mj_txlog.specs.declared.entry.Unlock.TheVariants as unlocks
use Rattle.mj_txn.specs.declared.committing.Outcome.{Outcome}
use Rattle.mj_txn.specs.declared.committing.Outcome.TheVariants as outcomes
use Rattle.mj_txn.specs.Testing.{outcome_of}
use Rattle.mj_txn.specs.Closing.{unlocked, unlocked_by, commit_closed}
use Rattle.mj_sys.specs.declared.event.Event.{Event}
use Rattle.mj_sys.specs.Devices.{Device, device_at, with_device, opened_by}
use Rattle.mj_sys.specs.Transactions.{unlock_of, after_unlock, closed_as, locks_back}
use Rattle.mj_sys.specs.Shared.{Shared, open_of, busy, tried, started, has_room, open_free, open_known, open_named, answered, served}
use Rattle.mj_sys.specs.History.{left_by, after}
use Rattle.mj_retrace.specs.Retraced.{locked_by}
use Rattle.mj_retrace.specs.Noted.{changes_locks}

-- ---- counts

-- no count is higher than it was
abbrev AreNoHigher : Locks → Locks → Type 0
AreNoHigher old new = (j : ℕ) (m : Name) → count_of new j m ≤ count_of old j m

same_no_higher : (locks : Locks) → AreNoHigher locks locks
same_no_higher locks j m = omega arith

no_higher_on : (one two three : Locks) → AreNoHigher one two → AreNoHigher two three → AreNoHigher one three
no_higher_on one two three a b j m = omega (arith, a j m, b j m)

given : (locks : Locks) (job : ℕ) (names : List Name) → AreNoHigher locks (after_give locks job names)
given locks job names j m = omega (arith, falls locks job names j m)

none_left : (b : Bool) (n : ℕ) → cond b 0 n ≤ n
none_left true n = omega arith
none_left false n = omega arith

given_all : (locks : Locks) (job : ℕ) → AreNoHigher locks (after_give_all locks job)
given_all locks job j m = subst (λ n. n ≤ count_of locks j m) (sym (without locks job j m)) (none_left (j == job) (count_of locks j m))

unlock : (locks : Locks) (job : ℕ) (u : Unlock) → AreNoHigher locks (unlocked_by locks job u)
unlock locks job (unlocks.Names names) = given locks job names
unlock locks job unlocks.All = given_all locks job

unlock_each : (locks : Locks) (job : ℕ) (accesses : Accesses) → AreNoHigher locks (unlocked locks job accesses)
unlock_each locks job [] = same_no_higher locks
unlock_each locks job (entries.Access a r ∷ rest) = unlock_each locks job rest
unlock_each locks job (entries.Unlock u ∷ rest) =
    no_higher_on locks (unlocked_by locks job u) (unlocked (unlocked_by locks job u) job rest) (unlock locks job u) (unlock_each (unlocked_by locks job u) job rest)

unlock_now : (t : Option Transaction) (job : ℕ) (locks : Locks) (u : Unlock) → AreNoHigher locks (after_unlock t job locks u)
unlock_now None job locks u = unlock locks job u
unlock_now (Some t) job locks u = same_no_higher locks

unlock_if : (t : Option Transaction) (job : ℕ) (locks : Locks) (o : Option Unlock) → AreNoHigher locks (elim o [ None ↦ locks | Some u ↦ after_unlock t job locks u ])
unlock_if t job locks None = same_no_higher locks
unlock_if t job locks (Some u) = unlock_now t job locks u

back : (t : Option Transaction) (job : ℕ) (locks : Locks) → AreNoHigher locks (locks_back t job locks)
back None job locks = same_no_higher locks
back (Some t) job locks = given locks job t.gained

commit : (t : Transaction) (job : ℕ) (globals : Content) (locks : Locks) (o : Outcome) → AreNoHigher locks (commit_closed t job globals locks o).locks
commit t job globals locks outcomes.Done = unlock_each locks job t.accesses
commit t job globals locks (outcomes.Clash c) = given locks job t.gained

close : (t : Option Transaction) (job : ℕ) (globals : Content) (locks : Locks) → AreNoHigher locks (closed_as t job globals locks).locks
close None job globals locks = same_no_higher locks
close (Some t) job globals locks = commit t job globals locks (outcome_of t globals)

equal_no_higher : (old new : Locks) → new ≡ old → AreNoHigher old new
equal_no_higher old new is j m = subst (λ (l : Locks). count_of l j m ≤ count_of old j m) (sym is) (omega arith)

-- ---- what a try of names takes

contained : (n m : Name) (names : List Name) → Contains names m → Contains (n ∷ names) m
contained n m names is = (suc is.0, omega (arith, is.1), is.2)

counted : (m : Name) (names : List Name) → 0 < count_by (names_eq m) names → Contains names m
counted m [] some = absurd (omega (arith, some))
counted m (n ∷ names) some = by (names_eq m n) refl (λ more. counted m names more)
  where
    by : (b : Bool) → names_eq m n ≡ b → (0 < count_by (names_eq m) names → Contains names m) → Contains (n ∷ names) m
    by true is rest = (0, omega arith, sym ((names_eq-Decides m n).0 is))
    by false is rest =
        let more : count_by (names_eq m) (n ∷ names) ≡ cond (names_eq m n) 1 0 + count_by (names_eq m) names = sum_by-cons (λ (x : Name). cond (names_eq m x) 1 0) n names in
        let none : ◌≡◌ {A = ℕ} (cond (names_eq m n) 1 0) 0 = ap (λ (b : Bool). cond b 1 0) is in
        contained n m names (rest (omega (arith, more, none, some)))

placed : (j : ℕ) (m : Name) (job : ℕ) (names : List Name) → 0 < places_of j m job names → (j ≡ job) × Contains names m
placed j m job names some = by (j == job) refl some
  where
    by : (b : Bool) → (j == job) ≡ b → 0 < cond b (count_by (names_eq m) names) 0 → (j ≡ job) × Contains names m
    by true is some = (eqb→eq j job (subst T (sym is) tt), counted m names some)
    by false is some = absurd (omega (arith, some))

-- a job holds a name behind it only where it held it, or takes it
abbrev pub Takes : Locks → ℕ → List Name → Locks → Type 0
Takes old job names new = (j : ℕ) (m : Name) → 0 < count_of new j m → (0 < count_of old j m) ⊎ ((j ≡ job) × Contains names m)

take_names : (locks : Locks) (job : ℕ) (names : List Name) → Takes locks job names (after_take locks job names)
take_names locks job names j m some = by (count_of locks j m) refl
  where
    by : (n : ℕ) → count_of locks j m ≡ n → (0 < count_of locks j m) ⊎ ((j ≡ job) × Contains names m)
    by (suc n) is = inl (omega (arith, is))
    by zero is = inr (placed j m job names (let more = rises locks job names j m in omega (arith, more, is, some)))

no_higher_takes : (old : Locks) (job : ℕ) (names : List Name) (new : Locks) → AreNoHigher old new → Takes old job names new
no_higher_takes old job names new less j m some = inl (let le = less j m in omega (arith, le, some))

-- ---- events

true_not : true ≡ false → ⊥
true_not e = cc

-- a choice of two that have these locks has them
pick : (locks : Locks) (b : Bool) (x y : Reply × Shared) → x.1.locks ≡ locks → y.1.locks ≡ locks → (if b then x else y).1.locks ≡ locks
pick locks true x y p q = p
pick locks false x y p q = q

-- what is told first
told_first : (one other : Reply) (s t : Shared) → ◌≡◌ {A = Option (Reply × Shared)} (Some (one, s)) (Some (other, t)) → one ≡ other
told_first one other s t is = ap (λ (p : Reply × Shared). p.0) (same_Some (one, s) (other, t) is)

module _ (s : Shared) (job : ℕ) where
  -- what is told leaves the locks
  abbrev Leaves : Option (Reply × Shared) → Type 0
  Leaves told = (left_by s told).locks ≡ s.locks

  pick_told : (b : Bool) (x y : Option (Reply × Shared)) → Leaves x → Leaves y → Leaves (if b then x else y)
  pick_told true x y p q = p
  pick_told false x y p q = q

  busy_leaves : (timeout : Option ℤ) → Leaves (busy s timeout true)
  busy_leaves timeout = pick_told (is_timed_out timeout true) (Some (replies.Late, s)) None refl refl

  free_leaves : (name : List ℕ) (d : Device) → Leaves (Some (open_free s job name d))
  free_leaves name d =
      pick s.locks (nat_lt d.taken d.sessions) (replies.Got, record s { devices = with_device s.devices name (opened_by job) }) (replies.NoSession, s) refl refl

  known_leaves : (name : List ℕ) (timeout : Option ℤ) (d : Device) → Leaves (open_known s job name timeout true d)
  known_leaves name timeout d = by d.holder
    where
      by : (o : Option ℕ) → Leaves (elim o [ None ↦ Some (open_free s job name d) | Some h ↦ if h == job then Some (replies.Got, s) else busy s timeout true ])
      by None = free_leaves name d
      by (Some h) = pick_told (h == job) (Some (replies.Got, s)) (busy s timeout true) refl (busy_leaves timeout)

  named_leaves : (name : List ℕ) (timeout : Option ℤ) → Leaves (open_named s job name timeout true)
  named_leaves name timeout =
      pick_told (bytes_eq name principal) (Some (replies.Got, s))
      (elim (device_at s.devices name) [ None ↦ Some (replies.NoSession, s) | Some d ↦ open_known s job name timeout true d ]) refl (by (device_at s.devices name))
    where
      by : (o : Option Device) → Leaves (elim o [ None ↦ Some (replies.NoSession, s) | Some d ↦ open_known s job name timeout true d ])
      by None = refl
      by (Some d) = known_leaves name timeout d

  start_leaves : (start : Started) → Leaves (Some (started s start))
  start_leaves start =
      pick s.locks (has_room s) (replies.Job (length s.rows + 1), record s { rows = s.rows ++ opened start ∷ []; transactions = s.transactions ++ None ∷ [] })
      (replies.Limit, s) refl refl

  -- an ask that changes nothing of who holds what
  same_locks : (a : SharedAsk) → changes_locks (asks.Shared a) ≡ false → Leaves (answered s job a true)
  same_locks (shared_asks.Access a) isnt = refl
  same_locks (shared_asks.Begin kind) isnt = refl
  same_locks (shared_asks.Open name timeout) isnt = named_leaves name timeout
  same_locks (shared_asks.Close name) isnt = refl
  same_locks (shared_asks.Start start timeout) isnt = start_leaves start
  same_locks _ isnt = absurd (true_not isnt)

  -- a try of names: by what is in their way, and by whether a limit is passed
  module _ (names : List Name) (timeout : Option ℤ) (reply : Reply) (t : Shared) where
    abbrev tried_by : Bool → Option (Hold × ℕ) → Bool → Option (Reply × Shared)
    tried_by late way over = tried s job names timeout late (try_answer way over) (left way over s.locks (after_take s.locks job names))

    got : replies.Got ≡ reply → Takes s.locks job (locked_by (asks.Shared (shared_asks.Try names timeout)) reply) (after_take s.locks job names)
    got is =
        let P : Reply → Type 0 = λ r. Takes s.locks job (locked_by (asks.Shared (shared_asks.Try names timeout)) r) (after_take s.locks job names) in
        subst P is (take_names s.locks job names)

    kept : (locks : Locks) → locks ≡ s.locks → Takes s.locks job (locked_by (asks.Shared (shared_asks.Try names timeout)) reply) locks
    kept locks is = no_higher_takes s.locks job (locked_by (asks.Shared (shared_asks.Try names timeout)) reply) locks (equal_no_higher s.locks locks is)

    try_by : (late : Bool) (way : Option (Hold × ℕ)) (over : Bool) → tried_by late way over ≡ Some (reply, t)
        → Takes s.locks job (locked_by (asks.Shared (shared_asks.Try names timeout)) reply) (left_by s (tried_by true way over)).locks
    try_by late (Some e) over is = kept (left_by s (busy s timeout true)).locks (busy_leaves timeout)
    try_by late None true is = kept s.locks refl
    try_by late None false is = got (told_first replies.Got reply _ t is)

  -- any other ask
  module _ (names : List Name) where
    lower : (locks : Locks) → AreNoHigher s.locks locks → Takes s.locks job names locks
    lower locks less = no_higher_takes s.locks job names locks less

    equal : (locks : Locks) → locks ≡ s.locks → Takes s.locks job names locks
    equal locks is = lower locks (equal_no_higher s.locks locks is)

  takes_by : (a : SharedAsk) (reply : Reply) (late : Bool) (t : Shared) → answered s job a late ≡ Some (reply, t)
      → Takes s.locks job (locked_by (asks.Shared a) reply) (left_by s (answered s job a true)).locks
  takes_by (shared_asks.Try names timeout) reply late t is =
      try_by names timeout reply t late (conflict_of s.locks job names) (is_past_limit (after_take s.locks job names) job) is
  takes_by shared_asks.Commit reply late t is = lower [] _ (close (open_of s job) job s.globals s.locks)
  takes_by shared_asks.Rollback reply late t is = lower [] _ (back (open_of s job) job s.locks)
  takes_by (shared_asks.Open name timeout) reply late t is = equal [] _ (named_leaves name timeout)
  takes_by (shared_asks.Start start timeout) reply late t is = equal [] _ (start_leaves start)
  takes_by (shared_asks.Halt fault) reply late t is =
      lower [] _ (
      let backed : Locks = locks_back (open_of s job) job s.locks in
      no_higher_on s.locks backed (after_give_all backed job) (back (open_of s job) job s.locks) (given_all backed job))
  -- any other gives up what it is an unlock of, if it is one
  takes_by a reply late t is = lower [] _ (unlock_if (open_of s job) job s.locks (unlock_of (asks.Shared a)))

-- an event that may not change who holds what doesn't
pub unchanged : (s : Shared) (e : Event) → changes_locks e.ask ≡ false → (after s e).locks ≡ s.locks
unchanged s e isnt = by e.ask isnt
  where
    by : (a : Ask) → changes_locks a ≡ false → (left_by s (served s e.job a true)).locks ≡ s.locks
    by (asks.Shared a) isnt = same_locks s e.job a isnt
    by (asks.Device device a) isnt = refl
    by (asks.Rest time) isnt = refl

-- the reply to an event is one that it is told, where it is one to what all jobs share
abbrev pub IsToldSo : Shared → Event → Type 0
IsToldSo s e = is_shared e.ask ≡ true → (late : Bool) × (t : Shared) × (served s e.job e.ask late ≡ Some (e.reply, t))

-- behind an event a job holds a name only where it held it before, or the event is its, and locks the name
pub takes : (s : Shared) (e : Event) → IsToldSo s e → Takes s.locks e.job (locked_by e.ask e.reply) (after s e).locks
takes s e told = by e.ask told
  where
    by : (a : Ask) → (is_shared a ≡ true → (late : Bool) × (t : Shared) × (served s e.job a late ≡ Some (e.reply, t)))
        → Takes s.locks e.job (locked_by a e.reply) (left_by s (served s e.job a true)).locks
    by (asks.Shared a) told = let so = told refl in takes_by s e.job a e.reply so.0 so.1 so.2
    by (asks.Device device a) told = no_higher_takes s.locks e.job [] s.locks (same_no_higher s.locks)
    by (asks.Rest time) told = no_higher_takes s.locks e.job [] s.locks (same_no_higher s.locks)
