-- That the answers of a job's `advance` exclude each other.
use Rattle.std.specs.Prelude.{◌≡◌, ℕ, ◌+◌, ◌<◌, List, ◌∷◌, ◌++◌, Some, ⊤}
use Rattle.mj_ask.specs.declared.ask.Ask.{Ask}
use Rattle.mj_ask.specs.declared.ask.Reply.{Reply}
use Rattle.mj_semantics.specs.Program.{Program}
use Rattle.mj_semantics.specs.State.{places}
use Rattle.mj_semantics.specs.Outcome.{More}
use Rattle.mj_semantics.specs.Job.{Start, next}
use Rattle.mj_load.specs.Image.{Loaded, program_of}
use Rattle.mj_jobvm.specs.declared.job.Turn.{Turn}
use Rattle.mj_jobvm.specs.declared.job.Turn.TheVariants.{Asks, Ran, Ended}
use Rattle.mj_jobvm.specs.Run.{Log, Run, replies_of, TurnsBefore, IsTrace}
use Rattle.mj_jobvm.specs.Jobs.{Running, IsRunOf}
use Rattle.mj_jobvm.specs.Told.{AdvanceTells}

-- the run over a log asks, or is over, only with more turns than those before its last reply and so many behind it
abbrev pub IsLater : Program → Start → Log → ℕ → Type 0
IsLater program start log turns = (before n : ℕ) → TurnsBefore program start log before → (next program start n (replies_of log) ≡ More → ⊥) → before + turns < n

-- What one call tells of a job leaves this to what another tells of one with the same log: where both ask, it is the same ask, with the same locals
-- and the same places beside it; neither asks where the other has ended; and where one ran, the run asks or is over only later.
abbrev pub Agree : Program → Start → Turn → Run → Turn → Run → Type 0
Agree program start Asks one Asks other = (one.pending ≡ other.pending) × (one.at.state.locals ≡ other.at.state.locals) × (places one.at.state ≡ places other.at.state)
Agree program start Asks one Ended other = ⊥
Agree program start Asks one Ran other = IsLater program start other.log other.spent
Agree program start Ended one Asks other = ⊥
Agree program start Ended one Ended other = ⊤
Agree program start Ended one Ran other = IsLater program start other.log other.spent
Agree program start Ran one _ other = IsLater program start one.log one.spent

-- what is told of two jobs with one log agrees, be they one job at two calls
abbrev pub AnswersAgree : Type 0
AnswersAgree =
    (program : Program) (start : Start) (first second : Turn) (one other : Run) → one.log ≡ other.log
    → AdvanceTells program start first one → AdvanceTells program start second other → Agree program start first one second other

-- what a job shows that it asks, an answer tells: so it shows the one ask that is told with its log, and none where it has ended
abbrev pub AsksAreTold : Type 0
AsksAreTold =
    (image : Loaded) (start : Start) (job : Running) (a : Ask) → IsRunOf image start job → job.run.pending ≡ Some a
    → AdvanceTells (program_of image) start Asks job.run

-- how a log goes on of whose job this was told: with its ask, or not at all
abbrev pub LogGoesOn : Turn → Run → Ask → Type 0
LogGoesOn Asks job a = job.pending ≡ Some a
LogGoesOn Ended job a = ⊥
LogGoesOn Ran job a = ⊤

-- so the log of a job goes on in every trace, as a call tells of it
abbrev pub LogsFollow : Type 0
LogsFollow =
    (program : Program) (start : Start) (turn : Turn) (job : Run) (a : Ask) (reply : Reply) (later : Log) → AdvanceTells program start turn job
    → IsTrace program start (job.log ++ (a, reply) ∷ later) → LogGoesOn turn job a
