-- What is seen of the system, and what its type keeps.
use Rattle.std.specs.Prelude.{◌≡◌, ℕ, suc, ◌<◌, ◌≤◌, List, length, [], Bool, Option, Some, None, true}
use Rattle.std.specs.List.{slice_index_or, list_all}
use Rattle.mj_ask.specs.Started.{Started}
use Rattle.mj_ask.specs.declared.ask.Ask.{Ask}
use Rattle.mj_ask.specs.declared.ask.Ask.TheVariants as asks
use Rattle.mj_ask.specs.declared.ask.SharedAsk.{SharedAsk}
use Rattle.mj_ask.specs.declared.ask.SharedAsk.TheVariants as shared_asks
use Rattle.mj_jobs.specs.Rows.{Row, row_at}
use Rattle.mj_locktab.specs.Locks.{LocksApart}
use Rattle.mj_locktab.specs.Tries.{IsInTheWay}
use Rattle.mj_sys.specs.declared.served.Held.{Held}
use Rattle.mj_sys.specs.declared.served.Held.TheVariants as helds
use Rattle.mj_sys.specs.Devices.{holder_of}
use Rattle.mj_sys.specs.Shared.{Shared, are_global}
use Rattle.mj_sys.specs.Opening.{NoneIsOpen, NoneHasEnded}
use Rattle.mj_sys.specs.Transactions.{Transactions}
use Rattle.mj_txlog.specs.Accesses.{Transaction, writes_of}
use Rattle.mj_store.specs.Runs.{name_of}
use Rattle.mj_sys.specs.History.{History, state_of, AreServed, events_of, log_of}

-- the most events of any history (this profile); what a run of a program may have is for its bounds to say
abbrev pub history_limit : ℕ
history_limit = 4294967295

-- each change in the transaction is of a global
abbrev pub changes_globals : Option Transaction → Bool
changes_globals None = true
changes_globals (Some t) = list_all (λ a. (name_of a).global) (writes_of t.accesses)

-- and so in each of them
abbrev pub change_globals : Transactions → Bool
change_globals transactions = list_all changes_globals transactions

-- the history, and how many rows were claimed
pub record Recorded : Type 0 where
  pub history : History
  pub claimed : ℕ

-- a row that was claimed: its job, how the job starts, and how many events it has had
pub record Claimed : Type 0 where
  pub job : ℕ
  pub start : Started
  pub events : ℕ

-- What is shared is what the history leaves, each event of which was served; only names of globals have texts in it; no name of one job
-- overlaps a name of another; a row that isn't claimed has no events; and at the opening no transaction is open and no job has ended.
pub record MatchesHistory (opening state : Shared) (seen : Recorded) : Type 0 where
  pub replay : state ≡ state_of opening seen.history
  pub served : AreServed opening seen.history
  pub global : are_global state.globals ≡ true
  pub waiting : change_globals state.transactions ≡ true
  pub apart : LocksApart state.locks
  pub unclaimed : (job : ℕ) → seen.claimed < job → log_of job seen.history ≡ []
  pub within : length seen.history ≤ history_limit
  pub none_open : NoneIsOpen opening
  pub none_ended : NoneHasEnded opening.rows

-- for each row that was claimed, how many events its job has
pub record AreCounts (counts : List ℕ) (seen : Recorded) : Type 0 where
  pub all : length counts ≡ seen.claimed
  pub each : (k : ℕ) → k < length counts → slice_index_or counts k 0 ≡ events_of (suc k) seen.history

-- the rows go on: no row is gone, and none has another start
pub record KeepsRows (old new : List Row) : Type 0 where
  pub more : length old ≤ length new
  pub starts : (job : ℕ) (row : Row) → row_at old job ≡ Some row → (row' : Row) × (row_at new job ≡ Some row') × (row'.start ≡ row.start)

-- another job has what keeps the job from what it asks of all that is shared: a name that overlaps one of a lock, or the device
abbrev pub Blocks : Shared → ℕ → SharedAsk → ℕ → Held → Type 0
Blocks s job (shared_asks.Try names timeout) holder (helds.Name name) = IsInTheWay s.locks job names holder name
Blocks s job (shared_asks.Open device timeout) holder (helds.Device name) =
    (name ≡ device) × (holder ≡ job → ⊥) × (holder_of s.devices name ≡ Some holder)
Blocks s job _ holder held = ⊥

-- and from what it asks at all
abbrev pub KeepsBusy : Shared → ℕ → Ask → ℕ → Held → Type 0
KeepsBusy s job (asks.Shared ask) holder held = Blocks s job ask holder held
KeepsBusy s job _ holder held = ⊥
