-- A job that stands at its ask.
use Rattle.std.specs.Prelude.{◌≡◌, ℕ, Some, None, Result, Ok, Err, if◌then◌else◌}
use Rattle.mj_ask.specs.declared.ask.Ask.{Ask}
use Rattle.mj_semantics.specs.State.{places}
use Rattle.mj_semantics.specs.Outcome as outcomes
use Rattle.mj_semantics.specs.Job.{next}
use Rattle.mj_load.specs.Image.{Loaded, program_of}
use Rattle.mj_jobs.specs.Rows.{Row, row_at}
use Rattle.mj_jobvm.specs.declared.job.Turn.{Turn}
use Rattle.mj_jobvm.specs.declared.job.Turn.TheVariants as turns
use Rattle.mj_jobvm.specs.Run.{Run, replies_of}
use Rattle.mj_jobvm.specs.Jobs.{Running, IsRunOf}
use Rattle.mj_sys.specs.Shared.{Shared}
use Rattle.mj_sys.specs.History.{History, state_of, log_of}
use Rattle.mj_steps.specs.declared.step.Refusal.{Refusal}
use Rattle.mj_core.specs.declared.seen.Ready.{Ready}
use Rattle.mj_core.specs.declared.seen.Ready.TheVariants as readies
use Rattle.mj_core.specs.Runs.{start_in}
use Rattle.mj_core.specs.Shown.{AtAsk}

-- how a job went, without what was seen of it
abbrev pub turn_of : {R : Type 0} → Result (Ready R) Refusal → Result Turn Refusal
turn_of (Ok (readies.Asks seen)) = Ok turns.Asks
turn_of (Ok readies.Ran) = Ok turns.Ran
turn_of (Ok readies.Ended) = Ok turns.Ended
turn_of (Err why) = Err why

-- where the job asks, this holds of what was seen of it
abbrev pub IfAsks : {R : Type 0} → Result (Ready R) Refusal → (R → Type 0) → Type 0
IfAsks (Ok (readies.Asks seen)) holds = holds seen
IfAsks (Ok readies.Ran) holds = Unit {0}
IfAsks (Ok readies.Ended) holds = Unit {0}
IfAsks (Err why) holds = Unit {0}

-- what is shown of a job at its ask is what it has there, and it waits where it isn't answered
abbrev pub IsSeenAt : Run → AtAsk → Type 0
IsSeenAt run at =
    (at.locals ≡ run.at.state.locals) × (at.places ≡ places run.at.state) × (run.pending ≡ (if at.answered then None else Some at.ask))

-- The job that is found is this one, and stands at its next ask: it runs from its row's start, with the log that the history has of it; it waits for
-- the reply to what its run asks behind that log; and its locals and its frames' places are those that stand beside that ask.
pub record IsAtAsk (image : Loaded) (opening : Shared) (history : History) (job : ℕ) (found : Running) : Type 0 where
  pub row : Row
  pub there : row_at (state_of opening history).rows job ≡ Some row
  pub run : IsRunOf image (start_in job row.start) found
  pub log : found.run.log ≡ log_of job history
  pub ask : Ask
  pub waits : found.run.pending ≡ Some ask
  pub needs : (n : ℕ) × (next (program_of image) (start_in job row.start) n (replies_of (log_of job history))
      ≡ outcomes.Needs ask found.run.at.state.locals (places found.run.at.state))
