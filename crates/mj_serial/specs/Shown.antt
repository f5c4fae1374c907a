-- The blocks of a history as a caller sees them, without the logs.
use Rattle.std.specs.Prelude.{ℕ, suc, ◌==◌, Bool, false, List, [], ◌∷◌, ◌++◌, Option, Some, None, if◌then◌else◌}
use Rattle.std.specs.List.{cons_option, slice_index_or}
use Rattle.mj_ask.specs.declared.ask.Ask.{Ask}
use Rattle.mj_ask.specs.declared.ask.Ask.TheVariants as asks
use Rattle.mj_ask.specs.declared.ask.SharedAsk.TheVariants as shared_asks
use Rattle.mj_ask.specs.declared.ask.Reply.{Reply}
use Rattle.mj_ask.specs.declared.ask.Reply.TheVariants as replies
use Rattle.mj_txlog.specs.Accesses.{Accesses}
use Rattle.mj_txlog.specs.declared.entry.Entry.{Entry}
use Rattle.mj_sys.specs.Transactions.{is_serial}
use Rattle.mj_sys.specs.History.{History}
use Rattle.mj_serial.specs.Blocks.{Block, entry_of, accesses_of}

-- a block: its job, whether it is SERIAL, the place where it begins, and its accesses with their answers
pub record Shown : Type 0 where
  pub job : ℕ
  pub serial : Bool
  pub place : ℕ
  pub accesses : Accesses

abbrev pub shown : Block → Shown
shown b = record { job = b.job; serial = b.serial; place = b.place; accesses = accesses_of b.since }

-- with an access more, if there is one
abbrev pub with_entry : Shown → Option Entry → Shown
with_entry b None = b
with_entry b (Some e) = record b { accesses = b.accesses ++ e ∷ [] }

-- what a job has open after an event
abbrev pub shown_after : ℕ → ℕ → Option Shown → Ask → Reply → Option Shown
shown_after job place None (asks.Shared (shared_asks.Begin kind)) r = Some (record { job = job; serial = is_serial kind; place = place; accesses = [] })
shown_after job place None _ r = None
shown_after job place (Some b) (asks.Shared shared_asks.Commit) r = None
shown_after job place (Some b) (asks.Shared shared_asks.Rollback) r = None
shown_after job place (Some b) (asks.Shared (shared_asks.Halt fault)) r = None
shown_after job place (Some b) a r = Some (with_entry b (entry_of a r))

-- a single access, if it was taken
abbrev pub shown_single : ℕ → ℕ → Option Entry → Option Shown
shown_single job place None = None
shown_single job place (Some e) = Some (record { job = job; serial = false; place = place; accesses = e ∷ [] })

-- the transaction, where its commit is done
abbrev pub shown_ended : Shown → Reply → Option Shown
shown_ended b replies.Done = Some b
shown_ended b _ = None

-- the block that is over with an event
abbrev pub shown_done : ℕ → ℕ → Option Shown → Ask → Reply → Option Shown
shown_done job place None (asks.Shared (shared_asks.Access a)) r = shown_single job place (entry_of (asks.Shared (shared_asks.Access a)) r)
shown_done job place None _ r = None
shown_done job place (Some b) (asks.Shared shared_asks.Commit) r = shown_ended b r
shown_done job place (Some b) _ r = None

-- the scan, where each job has this open
abbrev pub shown_from : ℕ → (ℕ → Option Shown) → History → List Shown
shown_from place w [] = []
shown_from place w (e ∷ h) = cons_option (shown_done e.job place (w e.job) e.ask e.reply)
    (shown_from (suc place) (λ job. if e.job == job then shown_after e.job place (w e.job) e.ask e.reply else w job) h)

-- the blocks that are over, and those that the rest of a history has, where a table has what each job has open
abbrev pub all_from : List Shown → List (Option Shown) → ℕ → History → List Shown
all_from done table place h = done ++ shown_from place (λ job. slice_index_or table job None) h
