-- Where a job stands that is let go on by itself, and what is told of it.
use Rattle.std.specs.Prelude.{◌≡◌, ℕ, List, [], ◌∷◌, ◌++◌, Option, Some, None}
use Rattle.std.specs.Borrow.{Bor}
use Rattle.mj_ask.specs.Started.{Started}
use Rattle.mj_ask.specs.declared.ask.Ask.{Ask}
use Rattle.mj_ask.specs.declared.ask.Reply.{Reply}
use Rattle.mj_semantics.specs.Job.{Start}
use Rattle.mj_semantics.specs.Program.{Program}
use Rattle.mj_semantics.specs.State.{places, place_of}
use Rattle.mj_load.specs.Image.{Loaded, program_of}
use Rattle.mj_jobvm.specs.Run.{replies_of}
use Rattle.mj_jobvm.specs.Jobs.{Running, IsRunOf}
use Rattle.mj_jobvm.specs.declared.job.Turn.{Turn}
use Rattle.mj_jobvm.specs.declared.job.Turn.TheVariants as ends
use Rattle.mj_sys.specs.History.{History}
use Rattle.mj_core.specs.Runs.{start_in}
use Rattle.mj_inspect.specs.Waits.{waiting_line, runs_line, ComesTo, IsAtEnd, RunsFor, TellsAll}

-- the job that starts so
abbrev pub starts_of : Option (ℕ × Bor Started) → List Start
starts_of None = []
starts_of (Some of) = start_in of.0 of.1.now ∷ []

-- a job that started so was told these replies
pub record IsBehind (image : Loaded) (start : Start) (told : List Reply) (job : Running) : Type 0 where
  pub run : IsRunOf image start job
  pub replies : replies_of job.run.log ≡ told

-- it is the job of this number, and was told nothing yet
abbrev pub IsStarted : Loaded → ℕ → Running → Type 0
IsStarted image number job = (start : Started) × IsBehind image (start_in number start) [] job

-- so it stands where it was let go on for as many turns: at an ask, further on, or at its end
abbrev pub IsNext : ℕ → Program → Start → List Reply → Turn → Running → Type 0
IsNext turns program start told ends.Asks job =
    (a : Ask) × (job.run.pending ≡ Some a) × ComesTo program start told a (places job.run.at.state)
IsNext turns program start told ends.Ran job = RunsFor turns program start told
IsNext turns program start told ends.Ended job = IsAtEnd program start told

-- what is told of it there
abbrev pub turn_line : ℕ → Turn → Running → List ℕ
turn_line number ends.Asks job = waiting_line number (place_of job.run.at.state) job.run.pending
turn_line number ends.Ran job = runs_line number
turn_line number ends.Ended job = []

-- the lines of these jobs are put to the end
abbrev pub Puts : Loaded → History → ℕ → List Start → List ℕ → List ℕ → Type 0
Puts image history place starts old new = (lines : List ℕ) × TellsAll image history place starts lines × (new ≡ old ++ lines)

-- and are, as soon as those of the jobs that are left are put there too
abbrev pub PutsLeft : Loaded → History → ℕ → List Start → List Start → List ℕ → List ℕ → Type 0
PutsLeft image history place starts left old now =
    (more : List ℕ) → TellsAll image history place left more → (lines : List ℕ) × TellsAll image history place starts lines × (now ++ more ≡ old ++ lines)
