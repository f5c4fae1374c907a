-- What all jobs share, and how it answers.
use Rattle.std.specs.Prelude.{ℕ, ◌+◌, ℤ, nat_lt, ◌==◌, List, [], ◌∷◌, ◌++◌, Bool, true, false, ◌&&◌, Option, Some, None, length, is_none, if◌then◌else◌}
use Rattle.std.specs.Str.{bytes_eq}
use Rattle.std.specs.List.{list_all}
use Rattle.mj_store.specs.Questions.{Content}
use Rattle.mj_store.specs.Runs.{name_of, after_access}
use Rattle.mj_store.specs.declared.access.Access.{Access}
use Rattle.mj_subs.specs.Name.{Name}
use Rattle.mj_ask.specs.declared.ask.Kind.{Kind}
use Rattle.mj_ask.specs.Started.{Started}
use Rattle.mj_ask.specs.Late.{is_timed_out}
use Rattle.mj_ask.specs.declared.ask.Ask.{Ask}
use Rattle.mj_ask.specs.declared.ask.Ask.TheVariants as asks
use Rattle.mj_ask.specs.declared.ask.SharedAsk.{SharedAsk}
use Rattle.mj_ask.specs.declared.ask.SharedAsk.TheVariants as shared_asks
use Rattle.mj_ask.specs.declared.ask.Reply.{Reply}
use Rattle.mj_ask.specs.declared.ask.Reply.TheVariants as replies
use Rattle.mj_locktab.specs.declared.taken.Taken.{Taken}
use Rattle.mj_locktab.specs.declared.taken.Taken.TheVariants as takes
use Rattle.mj_locktab.specs.Locks.{Locks}
use Rattle.mj_locktab.specs.Changes.{after_give_all}
use Rattle.mj_locktab.specs.Tries.{outcome_of, after_try}
use Rattle.mj_jobs.specs.Rows.{Row, rows_limit, opened, with_ended}
use Rattle.mj_dev.specs.Shelves.{principal}
use Rattle.mj_txlog.specs.Accesses.{Transaction}
use Rattle.mj_txlog.specs.declared.entry.Unlock.{Unlock}
use Rattle.mj_txlog.specs.declared.entry.Unlock.TheVariants as unlocks
use Rattle.mj_txn.specs.Closing.{Closed}
use Rattle.mj_sys.specs.Transactions.{Transactions, transaction_of, with_transaction, told_to, with_access, with_names, unlock_told, after_unlock, with_waiting, begun_as, closed_as, locks_back}
use Rattle.mj_sys.specs.Devices.{Device, Devices, device_at, sessions_of, with_device, opened_by, released_by, freed}

-- the globals, which job holds which names and which devices, a row for each job, and the transactions that jobs have open
pub record Shared : Type 0 where
  pub globals : Content
  pub locks : Locks
  pub devices : Devices
  pub rows : List Row
  pub transactions : Transactions

-- the transaction that a job has open, if it has one
abbrev pub open_of : Shared → ℕ → Option Transaction
open_of s job = transaction_of s.transactions job

-- an ask that is busy is told that it is late where its timeout is over. Else it is told nothing yet
abbrev pub busy : Shared → Option ℤ → Bool → Option (Reply × Shared)
busy s timeout late = if is_timed_out timeout late then Some (replies.Late, s) else None

-- only names of globals have texts there. So a local name is absent from it
abbrev pub are_global : Content → Bool
are_global content = list_all (λ e. e.0.global) content

-- the globals after an access: only a global's name is changed
abbrev pub changed : Access → Content → Content
changed a globals = if (name_of a).global then after_access a globals else globals

-- the globals after it: a change in a transaction waits for the commit
abbrev pub globals_after : Option Transaction → Access → Content → Content
globals_after None a globals = changed a globals
globals_after (Some t) a globals = globals

-- A question is answered on the globals as they are, and a change is made (7.1.2.4; 8.2.18; 8.2.11; 8.2.13). In a transaction it is answered as that
-- sees the globals, and is one of its accesses
abbrev pub accessed : Shared → ℕ → Access → Option Transaction → Reply × Shared
accessed s job a t = (
  replies.Answer (told_to t s.globals a),
  record s { globals = globals_after t a s.globals; transactions = with_transaction s.transactions job (with_access t s.globals a) },
)

-- LOCK (8.2.12): all names of the list, or none, at once. A transaction gives back what it gained where it is rolled back
abbrev pub tried : Shared → ℕ → List Name → Option ℤ → Bool → Taken → Locks → Option (Reply × Shared)
tried s job names timeout late takes.Got locks =
    Some (replies.Got, record s { locks = locks; transactions = with_transaction s.transactions job (with_names (open_of s job) names) })
tried s job names timeout late (takes.Busy holder name) locks = busy s timeout late
tried s job names timeout late takes.Limit locks = Some (replies.Limit, s)

-- an unlock is done. In a transaction it waits for the commit
abbrev pub given_up : Shared → ℕ → Unlock → Option Transaction → Reply × Shared
given_up s job u t = (
  unlock_told t,
  record s { locks = after_unlock t job s.locks u; transactions = with_transaction s.transactions job (with_waiting t u) },
)

-- a transaction begins
abbrev pub transaction_begun : Shared → ℕ → Kind → Shared
transaction_begun s job kind = record s { transactions = with_transaction s.transactions job (begun_as (open_of s job) kind) }

-- a transaction is committed, or clashes, and isn't open any more
abbrev pub closed : Shared → ℕ → Closed → Reply × Shared
closed s job c = (c.reply, record s { globals = c.globals; locks = c.locks; transactions = with_transaction s.transactions job None })

-- a transaction is rolled back, and isn't open any more
abbrev pub undone : Shared → ℕ → Shared
undone s job = record s { locks = locks_back (open_of s job) job s.locks; transactions = with_transaction s.transactions job None }

-- CLOSE (8.2.2): the job doesn't hold the device of the name any more
abbrev pub device_closed : Shared → ℕ → List ℕ → Shared
device_closed s job name = record s { devices = with_device s.devices name (released_by job) }

-- the device of a name is free, and has a session left or none
abbrev pub open_free : Shared → ℕ → List ℕ → Device → Reply × Shared
open_free s job name d =
    if nat_lt d.taken d.sessions
    then (replies.Got, record s { devices = with_device s.devices name (opened_by job) })
    else (replies.NoSession, s)

-- OPEN (8.2.15) of a device that is known: busy where another job holds it; a device that the job has is got once more, without a session
abbrev pub open_known : Shared → ℕ → List ℕ → Option ℤ → Bool → Device → Option (Reply × Shared)
open_known s job name timeout late d = elim d.holder [
  | None ↦ Some (open_free s job name d)
  | Some holder ↦ if holder == job then Some (replies.Got, s) else busy s timeout late
]

-- OPEN of a name. Each job has its principal device
abbrev pub open_named : Shared → ℕ → List ℕ → Option ℤ → Bool → Option (Reply × Shared)
open_named s job name timeout late =
    if bytes_eq name principal then Some (replies.Got, s)
    else elim (device_at s.devices name) [ None ↦ Some (replies.NoSession, s) | Some d ↦ open_known s job name timeout late d ]

-- whether one more job may start: there is room for its row, and a principal session is left for it
abbrev pub has_room : Shared → Bool
has_room s = nat_lt (length s.rows) rows_limit && nat_lt (length s.rows) (sessions_of s.devices principal)

-- JOB (8.2.10): the new job's number is the next one
abbrev pub started : Shared → Started → Reply × Shared
started s start =
    if has_room s
    then (replies.Job (length s.rows + 1), record s { rows = s.rows ++ opened start ∷ []; transactions = s.transactions ++ None ∷ [] })
    else (replies.Limit, s)

-- a job is over (8.2.7), whose transaction was rolled back if one was open: it holds no name and no device any more
abbrev pub halted : Shared → ℕ → Shared
halted s job = record s { locks = after_give_all s.locks job; devices = freed s.devices job; rows = with_ended s.rows job }

-- What a job's ask to all that is shared is told, and what is shared then; none where it is busy. A busy ask with a timeout may be told that it
-- is late. To begin where a transaction is open, and to commit or roll back where none is, is done and changes nothing.
abbrev pub answered : Shared → ℕ → SharedAsk → Bool → Option (Reply × Shared)
answered s job (shared_asks.Access a) late = Some (accessed s job a (open_of s job))
answered s job (shared_asks.Try names timeout) late =
    tried s job names timeout late (outcome_of s.locks job names) (after_try s.locks job names)
answered s job (shared_asks.Unlock names) late = Some (given_up s job (unlocks.Names names) (open_of s job))
answered s job shared_asks.UnlockAll late = Some (given_up s job unlocks.All (open_of s job))
answered s job (shared_asks.Open name timeout) late = open_named s job name timeout late
answered s job (shared_asks.Close name) late = Some (replies.Done, device_closed s job name)
answered s job (shared_asks.Start start timeout) late = Some (started s start)
answered s job (shared_asks.Halt fault) late = Some (replies.Done, halted (undone s job) job)
answered s job (shared_asks.Begin kind) late = Some (replies.Done, transaction_begun s job kind)
answered s job shared_asks.Commit late = Some (closed s job (closed_as (open_of s job) job s.globals s.locks))
answered s job shared_asks.Rollback late = Some (replies.Done, undone s job)

-- What any ask of a job is told here. What a device session serves, or the clock, is told nothing here.
abbrev pub served : Shared → ℕ → Ask → Bool → Option (Reply × Shared)
served s job (asks.Shared ask) late = answered s job ask late
served s job _ late = None

-- whether a session of a known device goes to the job: no job holds it, and it has one left
abbrev pub has_session : Device → Bool
has_session d = is_none d.holder && nat_lt d.taken d.sessions

-- whether an ask is told that it has a device by a session that goes to the job. To open what the job has already moves none
abbrev pub moves_session : Shared → SharedAsk → Bool
moves_session s (shared_asks.Open name timeout) =
    if bytes_eq name principal then false else elim (device_at s.devices name) [ None ↦ false | Some d ↦ has_session d ]
moves_session s _ = false

-- whether no session goes to a job by an ask of this kind, whatever is shared: one goes by OPEN alone
abbrev pub moves_none : SharedAsk → Bool
moves_none (shared_asks.Open name timeout) = false
moves_none _ = true

-- and so of any ask
abbrev pub takes_session : Shared → Ask → Bool
takes_session s (asks.Shared ask) = moves_session s ask
takes_session s _ = false
