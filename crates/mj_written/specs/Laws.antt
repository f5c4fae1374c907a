-- What holds of every job of routines that were read.
use Rattle.std.specs.Prelude.{◌≡◌, ℕ, true, List}
use Rattle.std.specs.List.{list_all}
use Rattle.mj_ask.specs.declared.ask.Ask.{Ask}
use Rattle.mj_ask.specs.declared.ask.Reply.{Reply}
use Rattle.mj_ask.specs.Written.{is_entry}
use Rattle.mj_ask.specs.Formed.{is_ask, is_reply}
use Rattle.mj_rou.specs.Words.{Each, IsRoutineWorded}
use Rattle.mj_semantics.specs.State.{Locals, Place}
use Rattle.mj_semantics.specs.Outcome.{Needs}
use Rattle.mj_semantics.specs.Program.{Program}
use Rattle.mj_semantics.specs.Job.{Start, next}
use Rattle.mj_written.specs.Formed.{are_locals, IsLine}

-- Where the names in the routines of a program are words, as they are in routines that were read, a job that starts at an entry that can be written asks
-- after replies that can be written what can be written too, so that it is read back as it was made; the locals that it has there are formed, and its
-- frames stand at lines of routines whose names are words.
abbrev pub AreWritten : Type 0
AreWritten =
    (program : Program) (start : Start) (n : ℕ) (replies : List Reply) (a : Ask) (locals : Locals) (at : List Place)
    → Each IsRoutineWorded program.routines → is_entry start.entry ≡ true → list_all is_reply replies ≡ true
    → next program start n replies ≡ Needs a locals at → (is_ask a ≡ true) × (are_locals locals ≡ true) × Each IsLine at
