-- What is known of a run that was made again: where its events come from, what its jobs ask at its end, and what they hold and held.
use Rattle.std.specs.Prelude.{◌≡◌, ℕ, suc, ◌<◌, ◌≤◌, List, [], ◌∷◌, length, take, slice_get, Option, Some, None, Contains, All}
use Rattle.std.specs.List.{AllZip}
use Rattle.mj_subs.specs.Name.{Name}
use Rattle.mj_ask.specs.declared.ask.Ask.{Ask}
use Rattle.mj_ask.specs.declared.ask.Ask.TheVariants as asks
use Rattle.mj_ask.specs.declared.ask.SharedAsk.TheVariants as shared_asks
use Rattle.mj_ask.specs.declared.ask.Reply.{Reply}
use Rattle.mj_ask.specs.declared.ask.Reply.TheVariants as replies
use Rattle.mj_semantics.specs.Program.{Program}
use Rattle.mj_semantics.specs.State.{Locals, Place}
use Rattle.mj_semantics.specs.Outcome as outcomes
use Rattle.mj_semantics.specs.Job.{next}
use Rattle.mj_locktab.specs.Locks.{count_of}
use Rattle.mj_jobs.specs.Rows.{Row, row_at}
use Rattle.mj_jobvm.specs.Run.{replies_of}
use Rattle.mj_sys.specs.declared.event.Event.{Event}
use Rattle.mj_sys.specs.Shared.{Shared}
use Rattle.mj_sys.specs.History.{History, state_of, log_of}
use Rattle.mj_core.specs.Runs.{IsRun, start_in}
use Rattle.mj_replica.specs.Replays.{IsFirstUnmade}
use Rattle.mj_retrace.specs.declared.retracing.Untraced.{Untraced}
use Rattle.mj_retrace.specs.declared.retracing.Untraced.TheVariants as untraced

-- ---- where asks come from

-- a routine and a line of it, or nowhere
abbrev pub Spot : Type 0
Spot = Option (List ℕ × ℕ)

-- the innermost of the lines of a job's frames, if it has a frame
abbrev pub innermost : List Place → Spot
innermost [] = None
innermost (p ∷ ps) = Some (p.routine, p.line)

-- Behind the history the job has a row, and asks this next. There its innermost frame stands on this line, or it has no frame, and there is no line.
pub record AsksFrom (program : Program) (opening : Shared) (history : History) (job : ℕ) (ask : Ask) (spot : Spot) : Type 0 where
  pub row : Row
  pub there : row_at (state_of opening history).rows job ≡ Some row
  pub turns : ℕ
  pub locals : Locals
  pub places : List Place
  pub asks : next program (start_in job row.start) turns (replies_of (log_of job history)) ≡ outcomes.Needs ask locals places
  pub line : spot ≡ innermost places

-- the event at a place of the history comes from this line: behind the events before it, its job asks from there what it asked by it
pub record IsSpot (program : Program) (opening : Shared) (history : History) (place : ℕ) (spot : Spot) : Type 0 where
  pub event : Event
  pub there : slice_get history place ≡ Some event
  pub asks : AsksFrom program opening (take place history) event.job event.ask spot

-- there is one for each event
pub record AreSpots (program : Program) (opening : Shared) (history : History) (spots : List Spot) : Type 0 where
  pub each : length spots ≡ length history
  pub are : (place : ℕ) (spot : Spot) → slice_get spots place ≡ Some spot → IsSpot program opening history place spot

-- behind the history each of these jobs asks that next, from the line with the same number
abbrev pub AreAsked : Program → Shared → History → List (ℕ × Ask) → List Spot → Type 0
AreAsked program opening history asked spots = AllZip (λ a spot. AsksFrom program opening history a.0 a.1 spot) asked spots

-- ---- what jobs hold

-- the names that are locked by an ask which is told this
abbrev pub locked_by : Ask → Reply → List Name
locked_by (asks.Shared (shared_asks.Try names timeout)) replies.Got = names
locked_by _ _ = []

-- By the event at a place of the history the job came to hold the name: it is a LOCK of the job that got the name, which the job didn't hold before it.
pub record IsTaken (opening : Shared) (history : History) (job : ℕ) (name : Name) (place : ℕ) : Type 0 where
  pub event : Event
  pub there : slice_get history place ≡ Some event
  pub of : event.job ≡ job
  pub takes : Contains (locked_by event.ask event.reply) name
  pub free : count_of (state_of opening (take place history)).locks job name ≡ 0

-- behind each event from one place on and before another the job holds the name
abbrev pub IsHeldFrom : Shared → History → ℕ → Name → ℕ → ℕ → Type 0
IsHeldFrom opening history job name from end = (m : ℕ) → from < m → m ≤ end → 0 < count_of (state_of opening (take m history)).locks job name

-- a job came to hold the name by the event at that place, and has held it ever since
pub record IsHeldSince (opening : Shared) (history : History) (hold : ℕ × Name × ℕ) : Type 0 where
  pub taken : IsTaken opening history hold.0 hold.1 hold.2
  pub held : IsHeldFrom opening history hold.0 hold.1 hold.2 (length history)

-- a job came to hold the name by the event at the first place, has held it up to that at the second, and doesn't hold it behind that
pub record WasHeld (opening : Shared) (history : History) (past : ℕ × Name × ℕ × ℕ) : Type 0 where
  pub taken : IsTaken opening history past.0 past.1 past.2
  pub held : IsHeldFrom opening history past.0 past.1 past.2 past.3
  pub within : past.3 < length history
  pub ends : count_of (state_of opening (take (suc past.3) history)).locks past.0 past.1 ≡ 0

-- that is all that jobs hold: each name that one holds is there
abbrev pub AreAllHeld : Shared → History → List (ℕ × Name × ℕ) → Type 0
AreAllHeld opening history holds =
    (job : ℕ) (name : Name) → 0 < count_of (state_of opening history).locks job name → (place : ℕ) × Contains holds (job, name, place)

-- ---- all

-- The history is a run of its opening. Each event comes from its line; each job asks that next, from that line; each name is held since that event, and no
-- other is held; and others were held.
pub record IsRetraced (program : Program) (opening : Shared) (history : History) (spots : List Spot) (asked : List (ℕ × Ask)) (stands : List Spot)
    (holds : List (ℕ × Name × ℕ)) (past : List (ℕ × Name × ℕ × ℕ)) : Type 0 where
  pub run : IsRun program opening history
  pub come : AreSpots program opening history spots
  pub ask : AreAsked program opening history asked stands
  pub hold : All (IsHeldSince opening history) holds
  pub all : AreAllHeld opening history holds
  pub held : All (WasHeld opening history) past

-- why it isn't made again: memory was refused; or the event at that place is the first that isn't made
abbrev pub IsUntraced : Program → Shared → History → Untraced → Type 0
IsUntraced program opening history untraced.Memory = Unit {0}
IsUntraced program opening history (untraced.Differs at) = IsFirstUnmade program opening history at
