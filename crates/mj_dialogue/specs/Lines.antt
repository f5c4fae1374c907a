-- The lines that the debugger answers. Byte 10 ends a line, 32 is a blank, and 58 is `:`.
use Rattle.std.specs.Prelude.{◌≡◌, ℕ, List, [], ◌∷◌, ◌++◌, slice_get, Option, None, Some, decimal, codes}
use Rattle.mj_gfile.specs.Spelling.{listed_name, listed_text}
use Rattle.mj_semantics.specs.State.{Place}
use Rattle.mj_subs.specs.Name.{Name}
use Rattle.mj_locktab.specs.Locks.{Locks, job_of, name_of}
use Rattle.mj_text.specs.declared.limit.Limit.TheVariants.{V2}
use Rattle.mj_trace.specs.declared.form.Form.TheVariants.{Second}
use Rattle.mj_trace.specs.Spelling.{event_text}
use Rattle.mj_sys.specs.declared.event.Event.{Event}
use Rattle.mj_sys.specs.declared.served.Held.{Held}
use Rattle.mj_sys.specs.declared.served.Held.TheVariants as helds
use Rattle.mj_sys.specs.Shared.{Shared}
use Rattle.mj_load.specs.Image.{program_of}
use Rattle.mj_core.specs.Shown.{Shown}
use Rattle.mj_core.specs.Runs.{IsAskedFrom}
use Rattle.mj_replica.specs.Placed.{spot_for}
use Rattle.mj_core.specs.declared.seen.Seen.{Seen}
use Rattle.mj_core.specs.declared.seen.Seen.TheVariants as seen
use Rattle.mj_steps.specs.declared.step.Refusal.{Refusal}
use Rattle.mj_steps.specs.declared.step.Refusal.TheVariants as refusals

-- these bytes, and a line's end
abbrev pub lined : List ℕ → List ℕ
lined bytes = bytes ++ 10 ∷ []

-- the line of an event, as a trace of today's form has it, with the place of its ask; none where there is no event
abbrev pub line_of_event : Option Event → Option Place → List ℕ
line_of_event None place = []
line_of_event (Some e) place = lined (event_text (Second V2) (record { job = e.job; spot = spot_for place; ask = e.ask; reply = e.reply }))

-- the line of the event at a place of the record, from 0, with the place where its ask came from
abbrev pub IsEventLine : Shared → Shown → ℕ → List ℕ → Type 0
IsEventLine opening core at bytes =
    (place : Option Place) × IsAskedFrom (program_of core.image) opening core.history at place × (bytes ≡ line_of_event (slice_get core.history at) place)

-- what another job has: a name as a listing has it, or a device's name in listing quotes
abbrev pub held_text : Held → List ℕ
held_text (helds.Name name) = listed_name name
held_text (helds.Device device) = listed_text device

-- that this job has what is asked for
abbrev pub busy_line : ℕ → Held → List ℕ
busy_line holder held = lined (codes "busy " ++ decimal holder ++ 32 ∷ held_text held)

-- a line of a routine
abbrev pub spot_line : List ℕ → ℕ → List ℕ
spot_line routine line = lined (routine ++ 58 ∷ decimal line)

-- several
abbrev pub spot_lines : List Place → List ℕ
spot_lines [] = []
spot_lines (place ∷ places) = spot_line place.routine place.line ++ spot_lines places

-- that a job stops at a line of a routine
abbrev pub stop_line : ℕ → List ℕ → ℕ → List ℕ
stop_line job routine line = codes "at " ++ decimal job ++ 32 ∷ spot_line routine line

-- a name that a job holds, as a listing has it, and how often it does
abbrev pub held_line : ℕ → Name → ℕ → List ℕ
held_line job name count = lined (decimal job ++ 32 ∷ listed_name name ++ 32 ∷ decimal count)

-- all that are held
abbrev pub held_lines : Locks → List ℕ
held_lines [] = []
held_lines (held ∷ locks) = held_line (job_of held.0) (name_of held.0) held.1 ++ held_lines locks

-- what came of a step that was made
abbrev pub TellsSeen : Shared → Shown → Seen → List ℕ → Type 0
TellsSeen opening core (seen.Event at) bytes = IsEventLine opening core at bytes
TellsSeen opening core (seen.Busy holder held) bytes = bytes ≡ busy_line holder held
TellsSeen opening core seen.NotYet bytes = bytes ≡ lined (codes "notyet")
TellsSeen opening core seen.Unfit bytes = bytes ≡ lined (codes "unfit")
TellsSeen opening core seen.Ran bytes = bytes ≡ lined (codes "ran")
TellsSeen opening core seen.Ended bytes = bytes ≡ lined (codes "C3")

-- why a step isn't made; want of memory has no line
abbrev pub TellsRefusal : Refusal → List ℕ → Type 0
TellsRefusal refusals.NoJob bytes = bytes ≡ lined (codes "C1")
TellsRefusal refusals.NotTimed bytes = bytes ≡ lined (codes "C2")
TellsRefusal refusals.Ended bytes = bytes ≡ lined (codes "C3")
TellsRefusal refusals.Full bytes = bytes ≡ lined (codes "C4")
TellsRefusal refusals.Memory bytes = ⊥
