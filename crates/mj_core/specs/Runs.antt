-- When a history of many jobs is a run.
use Rattle.std.specs.Prelude.{◌≡◌, ℕ, zero, suc, List, [], Option, Some, map, option_map, take, slice_get}
use Rattle.std.specs.Borrow.{Bor}
use Rattle.std.specs.List.{slice_index_or}
use Rattle.std.specs.Option.{unwrap_or}
use Rattle.mj_ask.specs.Started.{Started}
use Rattle.mj_semantics.specs.Program.{Program}
use Rattle.mj_semantics.specs.Job.{Start}
use Rattle.mj_jobs.specs.Rows.{Row, row_at}
use Rattle.mj_semantics.specs.State.{Place}
use Rattle.mj_jobvm.specs.Run.{IsTrace, replies_of}
use Rattle.mj_jobvm.specs.Places.{Asked, IsPlaceOf, ArePlaces}
use Rattle.mj_sessions.specs.Follow.{AreTalks, output_of_log}
use Rattle.mj_sys.specs.declared.event.Event.{Event}
use Rattle.mj_sys.specs.Shared.{Shared}
use Rattle.mj_sys.specs.History.{History, state_of, log_of}
use Rattle.mj_core.specs.Happen.{AllHappen}

-- how a job of a row starts
abbrev pub start_in : ℕ → Started → Start
start_in job start = record { job = job; entry = start.entry; values = start.values }

-- A history is a run of a program from an opening: its events come in order; what it has of each job is a trace of the job's private run
-- from its row's start, and the talks of that job with devices obey the device protocol.
pub record IsRun (program : Program) (opening : Shared) (history : History) : Type 0 where
  pub happen : AllHappen opening history
  pub traces : (job : ℕ) (row : Row) → row_at (state_of opening history).rows job ≡ Some row → IsTrace program (start_in job row.start) (log_of job history)
  pub talks : (job : ℕ) → AreTalks (log_of job history)

-- the places of the asks of each job: of each that has a row they are those where its private run made what the history has of it
abbrev pub ArePlacedIn : Program → Shared → History → (ℕ → List (Option Place)) → Type 0
ArePlacedIn program opening history places =
    (job : ℕ) (row : Row) → row_at (state_of opening history).rows job ≡ Some row
    → ArePlaces program (start_in job row.start) (replies_of (log_of job history)) (places job)

-- the ask of the event at a place of a history came from this place
abbrev pub IsAskedFrom : Program → Shared → History → ℕ → Option Place → Type 0
IsAskedFrom program opening history at place =
    (e : Event) → slice_get history at ≡ Some e → (row : Row) → row_at (state_of opening history).rows e.job ≡ Some row
    → IsPlaceOf program (start_in e.job row.start) (replies_of (log_of e.job (take at history))) place

-- places that are lent, of each job, the first job first: of one that has none there are no places
abbrev pub places_lent : List (Option (Bor Asked)) → List (List (Option Place))
places_lent list = map (λ (lent : Option (Bor Asked)). unwrap_or (option_map (λ (b : Bor Asked). b.now.places) lent) []) list

-- those of a job: of the first 1
abbrev pub places_at : List (List (Option Place)) → ℕ → List (Option Place)
places_at places zero = []
places_at places (suc k) = slice_index_or places k []

-- device output: the bytes that the session of a job took which it had under a name; the first is 1
abbrev pub out_of : History → ℕ → List ℕ → ℕ → List ℕ
out_of history job name k = output_of_log (log_of job history) name k
