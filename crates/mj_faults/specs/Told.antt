-- What is told of a history: of each job that ended by a fault, in the order in which they ended.
use Rattle.std.specs.Prelude.{◌≡◌, ℕ, zero, suc, ◌==◌, List, [], ◌∷◌, ◌++◌, length, Option, Some, None, slice_get, if◌then◌else◌}
use Rattle.mj_text.specs.declared.fault.Fault.{Fault}
use Rattle.mj_ask.specs.declared.ask.Ask.{Ask}
use Rattle.mj_ask.specs.declared.ask.Ask.TheVariants as asks
use Rattle.mj_ask.specs.declared.ask.SharedAsk.TheVariants as shared_asks
use Rattle.mj_ask.specs.declared.ask.Reply.{Reply}
use Rattle.mj_ask.specs.declared.ask.Reply.TheVariants as replies
use Rattle.mj_ask.specs.Started.{Started}
use Rattle.mj_load.specs.Image.{Loaded}
use Rattle.mj_jobvm.specs.Run.{replies_of}
use Rattle.mj_sys.specs.declared.event.Event.{Event}
use Rattle.mj_sys.specs.History.{History, log_of}
use Rattle.mj_faulted.specs.Stories.{lost_text}
use Rattle.mj_faulted.specs.Told.{AddsStory}

-- the reply of an event, if it is one of this job
abbrev pub reply_in : ℕ → Option Event → List Reply
reply_in job None = []
reply_in job (Some e) = if e.job == job then e.reply ∷ [] else []

-- the fault by which a job ended that asks this
abbrev pub fault_by : Ask → Option Fault
fault_by (asks.Shared (shared_asks.Halt fault)) = fault
fault_by _ = None

-- how the job of this number starts that an ask started which was told this
abbrev pub started_by : ℕ → Ask → Reply → Option Started
started_by job (asks.Shared (shared_asks.Start start timeout)) (replies.Job made) = if made == job then Some start else None
started_by job _ _ = None

-- how the job of this number starts, if this event started it
abbrev pub started_there : ℕ → Option Event → Option Started
started_there job None = None
started_there job (Some e) = started_by job e.ask e.reply

-- how a job starts that an event of the history started
abbrev pub started_in : ℕ → History → Option Started
started_in job [] = None
started_in job (e ∷ history) = elim (started_by job e.ask e.reply) [ None ↦ started_in job history | Some start ↦ Some start ]

-- how a job starts: one of those that the run began with, or one that another job started
abbrev pub start_told : List Started → History → ℕ → Option Started
start_told starts history zero = None
start_told starts history (suc k) = elim (slice_get starts k) [ None ↦ started_in (suc k) history | Some start ↦ Some start ]

-- what is told of one that starts so is put to the end of some bytes; of one of which that isn't known, which fault it ended by
abbrev pub AddsJob : Loaded → List (List ℕ × List ℕ) → Option Started → History → ℕ → Fault → List ℕ → List ℕ → Type 0
AddsJob image sources None history job fault old new = new ≡ old ++ lost_text job fault
AddsJob image sources (Some start) history job fault old new = AddsStory image sources start (replies_of (log_of job history)) job fault old new

-- an event of the history tells something, or nothing
abbrev pub AddsOf : Loaded → List (List ℕ × List ℕ) → List Started → History → ℕ → Option Fault → List ℕ → List ℕ → Type 0
AddsOf image sources starts history job None old new = new ≡ old
AddsOf image sources starts history job (Some fault) old new = AddsJob image sources (start_told starts history job) history job fault old new

abbrev pub AddsEvent : Loaded → List (List ℕ × List ℕ) → List Started → History → Option Event → List ℕ → List ℕ → Type 0
AddsEvent image sources starts history None old new = new ≡ old
AddsEvent image sources starts history (Some e) old new = AddsOf image sources starts history e.job (fault_by e.ask) old new

-- what is told of the first events of the history, so many of them, is put to the end of some bytes
abbrev pub AddsFirst : Loaded → List (List ℕ × List ℕ) → List Started → History → ℕ → List ℕ → List ℕ → Type 0
AddsFirst image sources starts history zero old new = new ≡ old
AddsFirst image sources starts history (suc k) old new =
    (mid : List ℕ) × AddsFirst image sources starts history k old mid × AddsEvent image sources starts history (slice_get history k) mid new

-- what is told of all of it
abbrev pub AddsAll : Loaded → List (List ℕ × List ℕ) → List Started → History → List ℕ → List ℕ → Type 0
AddsAll image sources starts history old new = AddsFirst image sources starts history (length history) old new
