-- The blocks of a history, found by one scan.
use Rattle.std.specs.Prelude.{ℕ, suc, ◌==◌, Bool, false, not, ◌||◌, List, [], ◌∷◌, ◌++◌, Option, Some, None, if◌then◌else◌}
use Rattle.std.specs.List.{cons_option}
use Rattle.mj_store.specs.declared.access.Access.{Access}
use Rattle.mj_store.specs.declared.access.Answer.{Answer}
use Rattle.mj_ask.specs.Keeping.{is_limit}
use Rattle.mj_ask.specs.declared.ask.Kind.{Kind}
use Rattle.mj_ask.specs.declared.ask.Ask.{Ask}
use Rattle.mj_ask.specs.declared.ask.Ask.TheVariants as asks
use Rattle.mj_ask.specs.declared.ask.SharedAsk.TheVariants as shared_asks
use Rattle.mj_ask.specs.declared.ask.Reply.{Reply}
use Rattle.mj_ask.specs.declared.ask.Reply.TheVariants as replies
use Rattle.mj_txlog.specs.Accesses.{Accesses}
use Rattle.mj_txlog.specs.declared.entry.Entry.{Entry}
use Rattle.mj_txlog.specs.declared.entry.Entry.TheVariants as entry
use Rattle.mj_txlog.specs.declared.entry.Unlock.{Unlock}
use Rattle.mj_txn.specs.Closing.{is_local_write}
use Rattle.mj_sys.specs.Transactions.{is_serial, unlock_of}
use Rattle.mj_sys.specs.declared.event.Event.{Event}
use Rattle.mj_sys.specs.History.{History}
use Rattle.mj_serial.specs.Programs.{Log}

-- whether an access was taken that was answered so: what passes a limit isn't, nor is a change of a local name
abbrev pub is_taken : Access → Answer → Bool
is_taken a v = not (is_limit v || is_local_write a)

-- an access that was taken, with its answer
abbrev pub taken : Access → Answer → Option Entry
taken a v = if is_taken a v then Some (entry.Access a v) else None

-- an unlock that was done, of those that wait for the commit
abbrev pub unlock_entry : Option Unlock → Reply → Option Entry
unlock_entry (Some u) replies.Done = Some (entry.Unlock u)
unlock_entry _ _ = None

-- What an ask and its reply are among the accesses of a transaction, if they are one: a read, a write, or an unlock that waits for the commit. An ask is an
-- access, an unlock, or neither
abbrev pub entry_of : Ask → Reply → Option Entry
entry_of (asks.Shared (shared_asks.Access a)) (replies.Answer v) = taken a v
entry_of (asks.Shared (shared_asks.Access a)) _ = None
entry_of a r = unlock_entry (unlock_of a) r

-- the accesses of a log, with their answers
abbrev pub accesses_of : Log → Accesses
accesses_of [] = []
accesses_of (e ∷ log) = cons_option (entry_of e.0 e.1) (accesses_of log)

-- A committed transaction, or a single access: its job, whether it is SERIAL, the place in the history where it begins (the first event's is 1),
-- the job's log when it had begun, and its log since then
pub record Block : Type 0 where
  pub job : ℕ
  pub serial : Bool
  pub place : ℕ
  pub before : Log
  pub since : Log

-- a job in the scan: its log so far, and its open transaction, if it has one
pub record ScanStand : Type 0 where
  pub log : Log
  pub block : Option Block

-- a transaction that begins at a place
abbrev pub block_begun : ℕ → ℕ → Log → Kind → Reply → Block
block_begun job place log kind r = record { job = job; serial = is_serial kind; place = place; before = log ++ (asks.Shared (shared_asks.Begin kind), r) ∷ []; since = [] }

-- an ask more in it
abbrev pub longer : Block → Ask → Reply → Block
longer b a r = record b { since = b.since ++ (a, r) ∷ [] }

-- the job's open transaction after an ask: by the job, the event's place and the job's log before it
abbrev pub block_after : ℕ → ℕ → Log → Option Block → Ask → Reply → Option Block
block_after job place log None (asks.Shared (shared_asks.Begin kind)) r = Some (block_begun job place log kind r)
block_after job place log None _ r = None
block_after job place log (Some b) (asks.Shared shared_asks.Commit) r = None
block_after job place log (Some b) (asks.Shared shared_asks.Rollback) r = None
block_after job place log (Some b) (asks.Shared (shared_asks.Halt fault)) r = None
block_after job place log (Some b) a r = Some (longer b a r)

-- an access outside a transaction is a block of its own, if it was taken
abbrev pub single : ℕ → ℕ → Log → Ask → Reply → Option Entry → List Block
single job place log a r None = []
single job place log a r (Some e) = record { job = job; serial = false; place = place; before = log; since = (a, r) ∷ [] } ∷ []

-- a transaction is a block where its commit is done
abbrev pub ended : Block → Reply → List Block
ended b replies.Done = b ∷ []
ended b _ = []

-- the block that is over with an event. An unlock outside a transaction is none
abbrev pub done_at : ℕ → ℕ → Log → Option Block → Ask → Reply → List Block
done_at job place log None (asks.Shared (shared_asks.Access a)) r = single job place log (asks.Shared (shared_asks.Access a)) r (entry_of (asks.Shared (shared_asks.Access a)) r)
done_at job place log None _ r = []
done_at job place log (Some b) (asks.Shared shared_asks.Commit) r = ended b r
done_at job place log (Some b) _ r = []

-- where the jobs stand after an event
abbrev pub stand_after : ℕ → (ℕ → ScanStand) → Event → ℕ → ScanStand
stand_after place w e job =
    if e.job == job
    then record { log = (w e.job).log ++ (e.ask, e.reply) ∷ []; block = block_after e.job place (w e.job).log (w e.job).block e.ask e.reply }
    else w job

-- the blocks of a history that goes on from this place, where the jobs stand so
abbrev pub blocks_from : ℕ → (ℕ → ScanStand) → History → List Block
blocks_from place w [] = []
blocks_from place w (e ∷ h) = done_at e.job place (w e.job).log (w e.job).block e.ask e.reply ++ blocks_from (suc place) (stand_after place w e) h

-- before the first event
abbrev pub nowhere : ℕ → ScanStand
nowhere job = record { log = []; block = None }

-- the committed transactions and the single accesses of a history, in the order of their commits
abbrev pub blocks_of : History → List Block
blocks_of h = blocks_from 1 nowhere h

-- where the jobs stand after a history
abbrev pub stands_from : ℕ → (ℕ → ScanStand) → History → ℕ → ScanStand
stands_from place w [] = w
stands_from place w (e ∷ h) = stands_from (suc place) (stand_after place w e) h

-- the transaction that a job has open after a history, if it has one
abbrev pub open_after : History → ℕ → Option Block
open_after h job = (stands_from 1 nowhere h job).block
