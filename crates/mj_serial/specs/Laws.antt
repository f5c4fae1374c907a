-- What holds of every run of many jobs.
use Rattle.std.specs.Prelude.{◌≡◌, ℕ, List, ◌∷◌, ◌++◌, Some, None}
use Rattle.mj_ask.specs.Started.{Started}
use Rattle.mj_ask.specs.declared.clash.Clash.{Clash}
use Rattle.mj_semantics.specs.Program as loaded
use Rattle.mj_semantics.specs.Outcome.{Ended}
use Rattle.mj_semantics.specs.Job.{next}
use Rattle.mj_store.specs.Questions.{Content}
use Rattle.mj_dev.specs.Shelves.{Shelf}
use Rattle.mj_jobs.specs.Rows.{Row, row_at}
use Rattle.mj_sys.specs.Shared.{Shared}
use Rattle.mj_sys.specs.Opening.{opening_of, NoneIsOpen}
use Rattle.mj_sys.specs.History.{History, state_of}
use Rattle.mj_core.specs.Runs.{IsRun, start_in}
use Rattle.mj_serial.specs.Programs.{Program}
use Rattle.mj_serial.specs.Serial.{AsAlone, MustClash}
use Rattle.mj_serial.specs.Rules.{clashes_at}

-- the program of a job that has a row: the private run of what is loaded from its start. A job without a row asks nothing
abbrev pub program_in : loaded.Program → List Row → ℕ → Program
program_in program rows job n replies = elim (row_at rows job) [ None ↦ Ended | Some row ↦ next program (start_in job row.start) n replies ]

-- no transaction is open at the opening of a system
abbrev pub OpensSo : Type 0
OpensSo = (globals : Content) (shelves : List Shelf) (starts : List Started) → NoneIsOpen (opening_of globals shelves starts)

-- A history is as its blocks run alone. The programs are those of the rows that it leaves, each of which has the start that it began with
abbrev pub IsAsAlone : loaded.Program → Shared → History → Type 0
IsAsAlone program opening history =
    AsAlone (program_in program (state_of opening history).rows) opening.globals (state_of opening history).globals history

-- Every run is as its blocks run alone: for all that is loaded, all openings and all histories
abbrev pub IsSerial : Type 0
IsSerial =
    (program : loaded.Program) (opening : Shared) (history : History) → NoneIsOpen opening → IsRun program opening history
    → IsAsAlone program opening history

-- In every run, a commit clashes only where it must
abbrev pub ClashesMust : Type 0
ClashesMust =
    (program : loaded.Program) (opening : Shared) (history later : History) (job : ℕ) (clash : Clash) → NoneIsOpen opening
    → IsRun program opening (history ++ clashes_at job clash ∷ later)
    → MustClash (program_in program (state_of opening (history ++ clashes_at job clash ∷ later)).rows) (state_of opening history).globals history job clash

-- each commit of a history that clashes, behind the events before it, has to
abbrev pub AllMustClash : loaded.Program → Shared → History → Type 0
AllMustClash program opening history =
    (earlier later : History) (job : ℕ) (clash : Clash) → history ≡ earlier ++ clashes_at job clash ∷ later
    → MustClash (program_in program (state_of opening history).rows) (state_of opening earlier).globals earlier job clash
