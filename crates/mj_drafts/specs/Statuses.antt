-- The exit statuses of the program.
use Rattle.std.specs.Prelude.{ℕ, Option, Some, None}
use Rattle.mj_steps.specs.declared.drive.Ending.{Ending}
use Rattle.mj_steps.specs.declared.drive.Ending.TheVariants as endings
use Rattle.mj_steps.specs.declared.step.Refusal.{Refusal}
use Rattle.mj_steps.specs.declared.step.Refusal.TheVariants as refusals
use Rattle.mj_drafts.specs.declared.choice.Choice.{Choice}
use Rattle.mj_drafts.specs.declared.stop.ProgramError.{ProgramError}
use Rattle.mj_drafts.specs.declared.stop.ProgramError.TheVariants as stops

-- the status where it stops before its end: 2 where a routine, a listing, a trace, a file of steps or a step is refused, 3 where the command line is
-- wrong, 4 where memory or a file fails, where another run has a file, where all jobs wait, where they
-- go on for too long, or where what workers did isn't one run
abbrev pub status_of : ProgramError → ℕ
status_of (stops.Value value) = 3
status_of (stops.Chosen option value) = 3
status_of (stops.File file) = 4
status_of (stops.Busy file) = 4
status_of (stops.Name file) = 2
status_of (stops.Routine refusal) = 2
status_of (stops.Twice name) = 2
status_of (stops.Listing refusal) = 2
status_of (stops.Trace refusal) = 2
status_of (stops.Steps refusal) = 2
status_of (stops.Step why step) = 2
status_of stops.Stuck = 4
status_of stops.Full = 4
status_of stops.Long = 4
status_of (stops.Differs job) = 4
status_of stops.Memory = 4

-- the same, and of a value that isn't of its form, that it is the one of this option
abbrev pub chosen : ProgramError → Choice → ProgramError
chosen (stops.Value value) option = stops.Chosen option value
chosen stop option = stop

-- why the program stops where a step isn't made: an event too many, refused memory, or the step of this number
abbrev pub stop_at : Refusal → ℕ → ProgramError
stop_at refusals.Full step = stops.Full
stop_at refusals.Memory step = stops.Memory
stop_at why step = stops.Step why step

-- why it stops where stepping ends so, if it does
abbrev pub stop_of : Ending → Option ProgramError
stop_of endings.Over = None
stop_of endings.Stuck = Some stops.Stuck
stop_of endings.Full = Some stops.Full
stop_of (endings.Refused why step) = Some (stop_at why step)

-- the status of a reason to stop, if there is one
abbrev pub ending_status : Option ProgramError → ℕ
ending_status None = 0
ending_status (Some stop) = status_of stop
