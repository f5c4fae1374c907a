-- What each job asks next. Byte 32 is a blank, 45 is `-`, 58 is `:`.
use Rattle.std.specs.Prelude.{◌≡◌, ℕ, ◌+◌, ◌<◌, ◌≤◌, ◌==◌, Bool, true, false, ◌&&◌, List, [], ◌∷◌, ◌++◌, take, slice_get, Option, Some, None, decimal, codes, ◌⊎◌, if◌then◌else◌}
use Rattle.mj_text.specs.declared.limit.Limit.{Limit}
use Rattle.mj_ask.specs.Started.{Started}
use Rattle.mj_ask.specs.declared.ask.Ask.{Ask}
use Rattle.mj_ask.specs.declared.ask.Ask.TheVariants as asks
use Rattle.mj_ask.specs.declared.ask.SharedAsk.TheVariants as shared
use Rattle.mj_ask.specs.declared.ask.Reply.{Reply}
use Rattle.mj_ask.specs.declared.ask.Reply.TheVariants as replies
use Rattle.mj_ask.specs.Fits.{fits}
use Rattle.mj_ask.specs.Within.{is_reply_within}
use Rattle.mj_semantics.specs.Job.{Start, next}
use Rattle.mj_semantics.specs.Outcome as outcomes
use Rattle.mj_semantics.specs.Program.{Program}
use Rattle.mj_semantics.specs.State.{Locals, Place}
use Rattle.mj_load.specs.Image.{Loaded, program_of}
use Rattle.mj_jobvm.specs.Run.{Log, replies_of, GoesOn}
use Rattle.mj_trace.specs.Spelling.{ask_text}
use Rattle.mj_sys.specs.declared.event.Event.{Event}
use Rattle.mj_sys.specs.History.{History, log_of}
use Rattle.mj_core.specs.Runs.{start_in}
use Rattle.mj_replica.specs.Replays.{turns_limit}
use Rattle.mj_dialogue.specs.Lines.{lined}
use Rattle.mj_inspect.specs.Listed.{or_nothing}
use Rattle.mj_inspect.specs.Own.{own_event}

-- ---- one job at its next ask

-- the line that the ask comes from; none of a job without a frame
abbrev pub place_text : Option Place → List ℕ
place_text None = 45 ∷ []
place_text (Some place) = place.routine ++ 58 ∷ decimal place.line

-- what is asked, as a trace has it
abbrev pub asked_text : Option Ask → List ℕ
asked_text None = []
asked_text (Some a) = 32 ∷ ask_text a

-- the job, the line that its ask comes from, and the ask
abbrev pub waiting_line : ℕ → Option Place → Option Ask → List ℕ
waiting_line job place a = lined (decimal job ++ 32 ∷ place_text place ++ asked_text a)

-- the job, which asks nothing for as many turns as it is let go on for
abbrev pub runs_line : ℕ → List ℕ
runs_line job = lined (decimal job ++ codes " runs")

-- the innermost of a job's frames, which stand at these lines, stands there
abbrev pub innermost : List Place → Option Place
innermost [] = None
innermost (place ∷ places) = Some place

-- this is asked, and a reply fits it, with texts of this limit
abbrev pub is_due : Limit → Option Ask → Reply → Bool
is_due limit None reply = false
is_due limit (Some a) reply = fits a reply && is_reply_within limit reply

-- an event ends its job
abbrev pub is_over : Ask → Bool
is_over (asks.Shared (shared.Halt fault)) = true
is_over _ = false

-- ---- the private run of a job behind replies

-- its run comes to this ask there, with its frames at these lines, the innermost first
pub record ComesTo (program : Program) (start : Start) (told : List Reply) (a : Ask) (at : List Place) : Type 0 where
  pub locals : Locals
  pub turns : ℕ
  pub needs : next program start turns told ≡ outcomes.Needs a locals at

-- it is over there
pub record IsAtEnd (program : Program) (start : Start) (told : List Reply) : Type 0 where
  pub turns : ℕ
  pub ended : next program start turns told ≡ outcomes.Ended

-- it asks nothing there for as many turns, or more
pub record RunsFor (least : ℕ) (program : Program) (start : Start) (told : List Reply) : Type 0 where
  pub log : Log
  pub replies : replies_of log ≡ told
  pub turns : ℕ
  pub enough : least ≤ turns
  pub going : GoesOn program start log turns

-- the turns that a job is let go on for to see what it asks next
abbrev pub looks : ℕ
looks = 1000000

-- What is told of a job behind the replies that it had: what it asks next; that it asks nothing for as many turns; nothing where it is over.
abbrev pub TellsNext : Program → Start → List Reply → List ℕ → Type 0
TellsNext program start told bytes =
    ((a : Ask) × (at : List Place) × ComesTo program start told a at × (bytes ≡ waiting_line start.job (innermost at) (Some a)))
    ⊎ ((RunsFor looks program start told × (bytes ≡ runs_line start.job)) ⊎ (IsAtEnd program start told × (bytes ≡ [])))

-- ---- the replies that a record has of a job

-- the reply of an event of its own
abbrev pub reply_in : Option (Ask × Reply) → List Reply
reply_in None = []
reply_in (Some own) = own.1 ∷ []

-- the replies of the events before a place
abbrev pub told_before : ℕ → History → ℕ → List Reply
told_before job history place = replies_of (log_of job (take place history))

-- A reply can't be told to a job behind these: it asks nothing for 10,000,000,000 turns, or is over, or asks what this reply doesn't fit. (Of a record that
-- is a run only the first can be.)
abbrev pub IsLost : Loaded → Start → List Reply → Reply → Type 0
IsLost image start told reply =
    RunsFor turns_limit (program_of image) start told
    ⊎ (IsAtEnd (program_of image) start told
    ⊎ ((a : Ask) × (at : List Place) × ComesTo (program_of image) start told a at × (is_due image.bounds.limit (Some a) reply ≡ false)))

-- by this the job has ended, or it isn't followed behind it
abbrev pub IsCut : Loaded → Start → List Reply → Option (Ask × Reply) → Type 0
IsCut image start told None = ⊥
IsCut image start told (Some own) = (is_over own.0 ≡ true) ⊎ IsLost image start told own.1

-- and so by one of the events before a place
abbrev pub IsCutBefore : Loaded → Start → History → ℕ → Type 0
IsCutBefore image start history place =
    (at : ℕ) × (at < place) × IsCut image start (told_before start.job history at) (own_event start.job (slice_get history at))

-- ---- all jobs

-- what is told of a job that started so, at a place of a history; nothing of one that has ended there
abbrev pub TellsOf : Loaded → History → ℕ → Start → List ℕ → Type 0
TellsOf image history place start bytes =
    (IsCutBefore image start history place × (bytes ≡ [])) ⊎ TellsNext (program_of image) start (told_before start.job history place) bytes

-- of several, in order
abbrev pub TellsAll : Loaded → History → ℕ → List Start → List ℕ → Type 0
TellsAll image history place [] bytes = bytes ≡ []
TellsAll image history place (start ∷ starts) bytes =
    (line rest : List ℕ) × TellsOf image history place start line × TellsAll image history place starts rest × (bytes ≡ line ++ rest)

-- jobs that start so, numbered from this one on
abbrev pub numbered : ℕ → List Started → List Start
numbered job [] = []
numbered job (start ∷ starts) = start_in job start ∷ numbered (job + 1) starts

-- the job that is started by what is asked and told
abbrev pub started_by : Ask → Reply → List Start
started_by (asks.Shared (shared.Start start timeout)) (replies.Job job) = start_in job start ∷ []
started_by _ _ = []

-- by an event, if there is one
abbrev pub started_at : Option Event → List Start
started_at None = []
started_at (Some e) = started_by e.ask e.reply

-- by these events
abbrev pub started_in : History → List Start
started_in [] = []
started_in (e ∷ history) = started_by e.ask e.reply ++ started_in history

-- What is told of all jobs at a place of a history, of which the first started so: of these, then of those that were started before the place; or that
-- there is nothing to tell.
abbrev pub TellsWaits : Loaded → List Started → History → ℕ → List ℕ → Type 0
TellsWaits image starts history place bytes =
    (lines : List ℕ) × TellsAll image history place (numbered 1 starts ++ started_in (take place history)) lines × (bytes ≡ or_nothing lines)
