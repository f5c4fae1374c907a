-- What holds of every run of many jobs.
use Rattle.std.specs.Prelude.{◌≡◌, true, List, Option, Some, None, ⊤}
use Rattle.mj_ask.specs.Written.{is_entry}
use Rattle.mj_ask.specs.Formed.{is_access, is_answer, is_ask, is_reply}
use Rattle.mj_ask.specs.Fitting.{is_content}
use Rattle.mj_ask.specs.Fits.{is_reply_to}
use Rattle.mj_semantics.specs.Program.{Program}
use Rattle.mj_rou.specs.Words.{Each, IsRoutineWorded}
use Rattle.mj_jobs.specs.Rows.{Row}
use Rattle.mj_txlog.specs.Accesses.{Transaction}
use Rattle.mj_txlog.specs.declared.entry.Entry.{Entry}
use Rattle.mj_txlog.specs.declared.entry.Entry.TheVariants as entries
use Rattle.mj_sys.specs.declared.event.Event.{Event}
use Rattle.mj_sys.specs.Shared.{Shared}
use Rattle.mj_sys.specs.History.{History, state_of}
use Rattle.mj_core.specs.Runs.{IsRun}

-- an event can be written: its ask can, and its reply, which stands in the table behind the ask
abbrev pub CanBeWritten : Event → Type 0
CanBeWritten e = (is_ask e.ask ≡ true) × (is_reply e.reply ≡ true) × (is_reply_to e.ask e.reply ≡ true)

-- a job starts at an entry that can be written
abbrev pub IsStarted : Row → Type 0
IsStarted row = is_entry row.start.entry ≡ true

-- an access of a transaction can be written, and so can what it was answered
abbrev pub IsAccessFormed : Entry → Type 0
IsAccessFormed (entries.Access a r) = (is_access a ≡ true) × (is_answer r ≡ true)
IsAccessFormed (entries.Unlock u) = ⊤

-- and so with all accesses of a transaction that is open, if one is
abbrev pub AreAccessesFormed : Option Transaction → Type 0
AreAccessesFormed None = ⊤
AreAccessesFormed (Some t) = Each IsAccessFormed t.accesses

-- What is shared is formed: the names of its globals rise, each that of a global, each job starts at an entry that can be written, and the
-- accesses of open transactions can be written, with what they were answered
pub record IsFormed (s : Shared) : Type 0 where
  pub globals : is_content s.globals ≡ true
  pub rows : Each IsStarted s.rows
  pub transactions : Each AreAccessesFormed s.transactions

-- Each event of a run of routines whose names are words, as they are in routines that were read, can be written, where what is shared at its
-- opening is formed; and so is what is shared behind it.
abbrev pub AreRecorded : Type 0
AreRecorded =
    (program : Program) (opening : Shared) (history : History) → Each IsRoutineWorded program.routines → IsFormed opening → IsRun program opening history
    → Each CanBeWritten history × IsFormed (state_of opening history)
