-- The transactions that jobs have open, and what each kind of ask makes of one.
use Rattle.std.specs.Prelude.{ℕ, zero, suc, Bool, true, false, List, [], map, slice_set, Option, Some, None, option_map, if◌then◌else◌}
use Rattle.std.specs.List.{slice_index_or}
use Rattle.mj_subs.specs.Name.{Name}
use Rattle.mj_store.specs.Questions.{Content}
use Rattle.mj_store.specs.Runs.{answer_of}
use Rattle.mj_store.specs.declared.access.Access.{Access}
use Rattle.mj_store.specs.declared.access.Answer.{Answer}
use Rattle.mj_ask.specs.Fits.{GivenUp, gives_up}
use Rattle.mj_ask.specs.Fits as given
use Rattle.mj_ask.specs.declared.ask.Ask.{Ask}
use Rattle.mj_ask.specs.declared.ask.Kind.{Kind}
use Rattle.mj_ask.specs.declared.ask.Kind.TheVariants as kinds
use Rattle.mj_ask.specs.declared.ask.Reply.{Reply}
use Rattle.mj_ask.specs.declared.ask.Reply.TheVariants as replies
use Rattle.mj_locktab.specs.Locks.{Locks}
use Rattle.mj_txlog.specs.Accesses.{Transaction, is_full, with_unlock, with_gained}
use Rattle.mj_txlog.specs.Logged.{Logged}
use Rattle.mj_txlog.specs.declared.entry.Unlock.{Unlock}
use Rattle.mj_txlog.specs.declared.entry.Unlock.TheVariants as unlocks
use Rattle.mj_sys.specs.declared.passed.PassedWord.{PassedWord}
use Rattle.mj_txn.specs.Closing.{told_in, after_told, unlocked_by, rolled_back, Closed, committed}

-- for each job's row the transaction that the job has open, if it has one
abbrev pub Transactions : Type 0
Transactions = List (Option Transaction)

-- the globals, and the transactions that are open on them
pub record Transacted : Type 0 where
  pub globals : Content
  pub transactions : Transactions

-- the transaction that a job has open, if it has one
abbrev pub transaction_of : Transactions → ℕ → Option Transaction
transaction_of transactions zero = None
transaction_of transactions (suc k) = slice_index_or transactions k None

-- the transactions, where that of a job is this one, or none
abbrev pub with_transaction : Transactions → ℕ → Option Transaction → Transactions
with_transaction transactions zero t = transactions
with_transaction transactions (suc k) t = slice_set transactions k t

-- a transaction that a job has open: its log, and what its reads have passed over
pub record Ongoing : Type 0 where
  pub log : Logged
  pub passed : List PassedWord

-- the transaction of a row, if its job has one open, and those of all rows
abbrev pub logged : Option Ongoing → Option Transaction
logged None = None
logged (Some o) = Some o.log.transaction

abbrev pub all_logged : List (Option Ongoing) → Transactions
all_logged rows = map logged rows

-- of the globals and the transactions that of a job, and where it is this one, or none
abbrev pub own_of : Transacted → ℕ → Option Transaction
own_of s job = transaction_of s.transactions job

abbrev pub with_own : Transacted → ℕ → Option Transaction → Transacted
with_own s job t = record s { transactions = with_transaction s.transactions job t }

-- what is told is there twice, for the job and for the history
abbrev pub twice : {A : Type 0} → A → A × A
twice told = (told, told)

-- what an access is told on these globals: in a transaction, as that sees them
abbrev pub told_to : Option Transaction → Content → Access → Answer
told_to None globals a = answer_of a globals
told_to (Some t) globals a = told_in t globals a

-- the transaction after it, which has one access more
abbrev pub with_access : Option Transaction → Content → Access → Option Transaction
with_access None globals a = None
with_access (Some t) globals a = Some (after_told t globals a)

-- the transaction after a try that got these names
abbrev pub with_names : Option Transaction → List Name → Option Transaction
with_names None names = None
with_names (Some t) names = Some (with_gained t names)

-- what is given up, as a transaction keeps it
abbrev pub unlock_as : GivenUp → Unlock
unlock_as (given.TheNames names) = unlocks.Names names
unlock_as given.AllNames = unlocks.All

-- what an ask gives up, if it is an unlock
abbrev pub unlock_of : Ask → Option Unlock
unlock_of a = option_map unlock_as (gives_up a)

-- What an unlock is told: where a transaction is open it is one of its accesses, of which there may be no more than so many
abbrev pub unlock_told : Option Transaction → Reply
unlock_told None = replies.Done
unlock_told (Some t) = if is_full t then replies.Limit else replies.Done

-- the locks after it: in a transaction it waits for the commit
abbrev pub after_unlock : Option Transaction → ℕ → Locks → Unlock → Locks
after_unlock None job locks u = unlocked_by locks job u
after_unlock (Some t) job locks u = locks

-- the transaction after it
abbrev pub with_waiting : Option Transaction → Unlock → Option Transaction
with_waiting None u = None
with_waiting (Some t) u = Some (with_unlock t u)

-- whether the reads of a transaction of this kind must hold at its commit
abbrev pub is_serial : Kind → Bool
is_serial kinds.Serial = true
is_serial kinds.Plain = false

-- TSTART (8.2.22): a transaction without accesses. Where one is open it goes on
abbrev pub begun_as : Option Transaction → Kind → Option Transaction
begun_as None kind = Some (record { serial = is_serial kind; accesses = []; gained = [] })
begun_as (Some t) kind = Some t

-- TCOMMIT (8.2.19), on these globals and locks. Where none is open it is done, and changes nothing
abbrev pub closed_as : Option Transaction → ℕ → Content → Locks → Closed
closed_as None job globals locks = record { reply = replies.Done; globals = globals; locks = locks }
closed_as (Some t) job globals locks = committed t job globals locks

-- TROLLBACK (8.2.21): the locks after it, and nothing where none is open
abbrev pub locks_back : Option Transaction → ℕ → Locks → Locks
locks_back None job locks = locks
locks_back (Some t) job locks = rolled_back t job locks
