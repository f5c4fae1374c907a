-- Only names of globals have texts in what is shared, whatever is served.
use Rattle.std.proofs.Common.{◌≡◌, ℕ, ◌==◌, Bool, true, false, cond, ◌&&◌, List, [], ◌∷◌, length, ◌+◌, ◌++◌, Option, Some, None, refl}
use Rattle.std.specs.Prelude.{ℤ, nat_lt}
use Rattle.std.specs.Str.{bytes_eq}
use Rattle.std.specs.Option.{is_none}
use Rattle.std.specs.List.{list_all}
use Rattle.std.specs.declared.cmp.Ordering.{Ordering}
use Rattle.std.specs.declared.cmp.Ordering.TheVariants.{Less, Equal, Greater}
use Rattle.std.specs.FinMap.{put}
use Rattle.std.specs.FinMap.Entries.{by_order}
use Rattle.mj_subs.specs.Name.{Name}
use Rattle.mj_subs.specs.Collation.{name_cmp}
use Rattle.mj_store.specs.Questions.{Content, Subtree, rest_of}
use Rattle.mj_store.specs.Changes.{after_set, after_kill, followed_by, after_put, is_too_deep}
use Rattle.mj_store.specs.Runs.{name_of, after_access, after_accesses}
use Rattle.mj_store.specs.declared.access.Access.{Access}
use Rattle.mj_store.specs.declared.access.Access.TheVariants as accesses
use Rattle.mj_ask.specs.Started.{Started}
use Rattle.mj_ask.specs.Late.{is_timed_out}
use Rattle.mj_ask.specs.declared.ask.Ask.{Ask}
use Rattle.mj_ask.specs.declared.ask.Ask.TheVariants as asks
use Rattle.mj_ask.specs.declared.ask.SharedAsk.{SharedAsk}
use Rattle.mj_ask.specs.declared.ask.SharedAsk.TheVariants as shared_asks
use Rattle.mj_ask.specs.declared.ask.Reply.{Reply}
use Rattle.mj_ask.specs.declared.ask.Reply.TheVariants as replies
use Rattle.mj_dev.specs.Shelves.{principal}
use Rattle.mj_jobs.specs.Rows.{opened}
use Rattle.mj_locktab.specs.declared.taken.Taken.{Taken}
use Rattle.mj_locktab.specs.declared.taken.Taken.TheVariants as takes
use Rattle.mj_locktab.specs.Locks.{Locks}
use Rattle.mj_locktab.specs.Tries.{outcome_of as try_of, after_try}
use Rattle.mj_txlog.specs.Accesses.{Transaction, writes_of}
use Rattle.mj_txn.specs.Closing.{commit_closed}
use Rattle.mj_txn.specs.Testing.{outcome_of}
use Rattle.mj_txn.specs.declared.committing.Outcome.{Outcome}
use Rattle.mj_txn.specs.declared.committing.Outcome.TheVariants as outcomes
use Rattle.mj_sys.specs.Devices.{Device, device_at, with_device, opened_by}
use Rattle.mj_sys.specs.Transactions.{closed_as}
use Rattle.mj_sys.specs.System.{changes_globals, change_globals}
use Rattle.mj_sys.proofs.Waiting.{both_true, and_true, open_own}
use Rattle.mj_sys.specs.Shared.{Shared, are_global, changed, open_of, globals_after, busy, tried, open_free, open_known, has_room, answered, served}
use Rattle.mj_sys.specs.History.{left_by}

-- ---- what an access to a global leaves

set_global : (n : Name) (text : List ℕ) (es : Content) → n.global ≡ true → are_global es ≡ true → are_global (put name_cmp n text es) ≡ true
set_global n text [] g h = and_true n.global true g refl
set_global n text (e ∷ es) g h =
    let k = both_true e.0.global (are_global es) h in
    by (name_cmp n e.0) k (set_global n text es g k.1)
  where
    by : (o : Ordering) → (e.0.global ≡ true) × (are_global es ≡ true) → are_global (put name_cmp n text es) ≡ true
        → are_global (by_order o ((n, text) ∷ e ∷ es) ((e.0, text) ∷ es) (e ∷ put name_cmp n text es)) ≡ true
    by Less k next = and_true n.global (e.0.global && are_global es) g (and_true e.0.global (are_global es) k.0 k.1)
    by Equal k next = and_true e.0.global (are_global es) k.0 k.1
    by Greater k next = and_true e.0.global (are_global (put name_cmp n text es)) k.0 next

kill_global : (n : Name) (es : Content) → are_global es ≡ true → are_global (after_kill es n) ≡ true
kill_global n [] h = refl
kill_global n (e ∷ es) h =
    let k = both_true e.0.global (are_global es) h in
    by (is_none (rest_of n e.0)) k.0 (kill_global n es k.1)
  where
    by : (b : Bool) → e.0.global ≡ true → are_global (after_kill es n) ≡ true → are_global (cond b (e ∷ after_kill es n) (after_kill es n)) ≡ true
    by true g next = and_true e.0.global (are_global (after_kill es n)) g next
    by false g next = next

put_global : (n : Name) (nodes : Subtree) (es : Content) → n.global ≡ true → are_global es ≡ true → are_global (after_put es n nodes) ≡ true
put_global n [] es g h = h
put_global n (e ∷ nodes) es g h = put_global n nodes (after_set es (followed_by n e.0) e.1) g (set_global (followed_by n e.0) e.1 es g h)

if_deep : (b : Bool) (n : Name) (nodes : Subtree) (es : Content) → n.global ≡ true → are_global es ≡ true → are_global (cond b es (after_put es n nodes)) ≡ true
if_deep true n nodes es g h = h
if_deep false n nodes es g h = put_global n nodes es g h

pub access_global : (a : Access) (es : Content) → (name_of a).global ≡ true → are_global es ≡ true → are_global (after_access a es) ≡ true
access_global (accesses.Value n) es g h = h
access_global (accesses.Data n) es g h = h
access_global (accesses.Order n way) es g h = h
access_global (accesses.Query n) es g h = h
access_global (accesses.Subtree n) es g h = h
access_global (accesses.Set n text) es g h = set_global n text es g h
access_global (accesses.Kill n) es g h = kill_global n es h
access_global (accesses.Put n nodes) es g h = if_deep (is_too_deep n nodes) n nodes es g h

-- and what a list of them leaves
accesses_global : (changes : List Access) (es : Content) → list_all (λ a. (name_of a).global) changes ≡ true → are_global es ≡ true → are_global (after_accesses changes es) ≡ true
accesses_global [] es g h = h
accesses_global (a ∷ changes) es g h =
    let k = both_true ((name_of a).global) (list_all (λ x. (name_of x).global) changes) g in
    accesses_global changes (after_access a es) k.1 (access_global a es k.0 h)

changed_global : (a : Access) (es : Content) → are_global es ≡ true → are_global (changed a es) ≡ true
changed_global a es h = by ((name_of a).global) refl where
  by : (b : Bool) → (name_of a).global ≡ b → are_global (cond b (after_access a es) es) ≡ true
  by true e = access_global a es e h
  by false e = h

-- ---- what an ask leaves

access_after : (t : Option Transaction) (a : Access) (es : Content) → are_global es ≡ true → are_global (globals_after t a es) ≡ true
access_after None a es h = changed_global a es h
access_after (Some t) a es h = h

-- a commit
outcome_global : (t : Transaction) (job : ℕ) (es : Content) (locks : Locks) (o : Outcome) → changes_globals (Some t) ≡ true → are_global es ≡ true
    → are_global (commit_closed t job es locks o).globals ≡ true
outcome_global t job es locks outcomes.Done own h = accesses_global (writes_of t.accesses) es own h
outcome_global t job es locks (outcomes.Clash c) own h = h

closed_global : (t : Option Transaction) (job : ℕ) (es : Content) (locks : Locks) → changes_globals t ≡ true → are_global es ≡ true
    → are_global (closed_as t job es locks).globals ≡ true
closed_global None job es locks own h = h
closed_global (Some t) job es locks own h = outcome_global t job es locks (outcome_of t es) own h

module _ (s : Shared) (h : are_global s.globals ≡ true) (own : change_globals s.transactions ≡ true) where
  abbrev Stays : Option (Reply × Shared) → Type 0
  Stays o = are_global (left_by s o).globals ≡ true

  by_busy : (timeout : Option ℤ) → Stays (busy s timeout true)
  by_busy timeout = by (is_timed_out timeout true) where
    by : (b : Bool) → Stays (cond b (Some (replies.Late, s)) None)
    by true = h
    by false = h

  by_try : (job : ℕ) (names : List Name) (timeout : Option ℤ) (taken : Taken) (locks : Locks) → Stays (tried s job names timeout true taken locks)
  by_try job names timeout takes.Got locks = h
  by_try job names timeout (takes.Busy holder name) locks = by_busy timeout
  by_try job names timeout takes.Limit locks = h

  by_free : (b : Bool) (job : ℕ) (name : List ℕ)
      → Stays (Some (cond b (replies.Got, record s { devices = with_device s.devices name (opened_by job) }) (replies.NoSession, s)))
  by_free true job name = h
  by_free false job name = h

  by_held : (b : Bool) (timeout : Option ℤ) → Stays (cond b (Some (replies.Got, s)) (busy s timeout true))
  by_held true timeout = h
  by_held false timeout = by_busy timeout

  by_known : (job : ℕ) (name : List ℕ) (timeout : Option ℤ) (d : Device) (holder : Option ℕ)
      → Stays (elim holder [ None ↦ Some (open_free s job name d) | Some k ↦ cond (k == job) (Some (replies.Got, s)) (busy s timeout true) ])
  by_known job name timeout d None = by_free (nat_lt d.taken d.sessions) job name
  by_known job name timeout d (Some k) = by_held (k == job) timeout

  by_found : (job : ℕ) (name : List ℕ) (timeout : Option ℤ) (found : Option Device)
      → Stays (elim found [ None ↦ Some (replies.NoSession, s) | Some d ↦ open_known s job name timeout true d ])
  by_found job name timeout None = h
  by_found job name timeout (Some d) = by_known job name timeout d d.holder

  by_name : (job : ℕ) (name : List ℕ) (timeout : Option ℤ) (b : Bool)
      → Stays (cond b (Some (replies.Got, s)) (elim (device_at s.devices name) [ None ↦ Some (replies.NoSession, s) | Some d ↦ open_known s job name timeout true d ]))
  by_name job name timeout true = h
  by_name job name timeout false = by_found job name timeout (device_at s.devices name)

  by_start : (b : Bool) (start : Started)
      → Stays (Some (cond b (replies.Job (length s.rows + 1), record s { rows = s.rows ++ opened start ∷ []; transactions = s.transactions ++ None ∷ [] })
      (replies.Limit, s)))
  by_start true start = h
  by_start false start = h

  answered_global : (job : ℕ) (ask : SharedAsk) → Stays (answered s job ask true)
  answered_global job (shared_asks.Access a) = access_after (open_of s job) a s.globals h
  answered_global job (shared_asks.Try names timeout) = by_try job names timeout (try_of s.locks job names) (after_try s.locks job names)
  answered_global job (shared_asks.Open name timeout) = by_name job name timeout (bytes_eq name principal)
  answered_global job (shared_asks.Start start timeout) = by_start (has_room s) start
  answered_global job shared_asks.Commit = closed_global (open_of s job) job s.globals s.locks (open_own s.transactions job own) h
  answered_global job _ = h

  pub stays_global : (job : ℕ) (ask : Ask) → Stays (served s job ask true)
  stays_global job (asks.Shared ask) = answered_global job ask
  stays_global job _ = h
