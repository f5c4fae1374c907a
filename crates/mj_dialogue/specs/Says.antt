-- What the debugger answers to a command.
use Rattle.std.specs.Prelude.{◌≡◌, ◌==◌, ℕ, zero, suc, ◌<◌, List, [], ◌++◌, Bool, true, false, Option, None, Some, Result, Ok, Err, codes, ◌⊎◌}
use Rattle.mj_semantics.specs.State.{Locals, Place}
use Rattle.mj_gfile.specs.Spelling.{listed_lines}
use Rattle.mj_load.specs.Image.{program_of}
use Rattle.mj_jobs.specs.Rows.{row_at}
use Rattle.mj_sys.specs.Shared.{Shared}
use Rattle.mj_sys.specs.History.{state_of}
use Rattle.mj_core.specs.Shown.{Shown}
use Rattle.mj_steps.specs.declared.step.Step.{Step}
use Rattle.mj_core.specs.declared.seen.Seen.{Seen}
use Rattle.mj_steps.specs.declared.step.Refusal.{Refusal}
use Rattle.mj_steps.specs.declared.step.Refusal.TheVariants as refusals
use Rattle.mj_replica.specs.Shows.{HasStood}
use Rattle.mj_debug.specs.declared.debugger.WalkRefusal.{WalkRefusal}
use Rattle.mj_debug.specs.declared.debugger.WalkRefusal.TheVariants as refused
use Rattle.mj_debug.specs.declared.debugger.Gone.{Gone}
use Rattle.mj_debug.specs.declared.debugger.Gone.TheVariants as gones
use Rattle.mj_debug.specs.Breaks.{AreMarked}
use Rattle.mj_debug.specs.Goes.{GoGives}
use Rattle.mj_debug.specs.Walks.{Walk, front, walk_answer, StepGives, GoesBack, GoesForth}
use Rattle.mj_dialogue.specs.declared.command.Command.{Command}
use Rattle.mj_dialogue.specs.declared.command.Command.TheVariants as commands
use Rattle.mj_dialogue.specs.Lines.{lined, IsEventLine, TellsSeen, TellsRefusal, stop_line, spot_lines, held_lines}

-- what is told of a step: what came of it; why it isn't made; or that the place isn't the record's end
abbrev pub TellsStep : Shared → Shown → Result Seen WalkRefusal → List ℕ → Type 0
TellsStep opening core (Ok seen) bytes = TellsSeen opening core seen bytes
TellsStep opening core (Err (refused.Step why)) bytes = TellsRefusal why bytes
TellsStep opening core (Err refused.NotAtEnd) bytes = bytes ≡ lined (codes "not at end")

-- whether a step isn't made since the record is full
abbrev pub is_full : Result Seen WalkRefusal → Bool
is_full (Err (refused.Step refusals.Full)) = true
is_full _ = false

-- what is told of one step of many in turn: of all jobs having ended, nothing
abbrev pub TellsGone : Shared → Shown → Gone → List ℕ → Type 0
TellsGone opening core gones.NotAtEnd bytes = bytes ≡ lined (codes "not at end")
TellsGone opening core gones.Over bytes = bytes ≡ []
TellsGone opening core (gones.At job routine line) bytes = bytes ≡ stop_line job routine line
TellsGone opening core (gones.Step job answer) bytes = TellsStep opening core (walk_answer answer) bytes

-- whether it isn't made since the record is full
abbrev pub is_full_at : Gone → Bool
is_full_at (gones.Step job answer) = is_full (walk_answer answer)
is_full_at _ = false

-- whether it was made, so that others follow it
abbrev pub is_made : Gone → Bool
is_made (gones.Step job (Ok seen)) = true
is_made _ = false

-- what comes of the next of many steps in turn, and what is told of it
abbrev pub GoTells : Shared → Walk → Bool → Gone → List ℕ → Walk → Type 0
GoTells opening old first gone line new = GoGives opening old first gone new × TellsGone opening new.core gone line

-- So many steps in turn were made, each told behind the one before it.
abbrev pub AreMade : Shared → ℕ → Walk → List ℕ → Walk → Type 0
AreMade opening zero old bytes new = (bytes ≡ []) × (new ≡ old)
AreMade opening (suc made) old bytes new =
    (mid : Walk) × (told : List ℕ) × AreMade opening made old told mid
    × ((gone : Gone) × (line : List ℕ) × GoTells opening mid (made == 0) gone line new × (is_made gone ≡ true) × (bytes ≡ told ++ line))

-- Up to so many steps in turn: all were made; or fewer were, and the next one isn't made, which is told behind them.
abbrev pub AnswersGo : Shared → ℕ → Walk → List ℕ → Bool → Walk → Type 0
AnswersGo opening count old bytes full new =
    (AreMade opening count old bytes new × (full ≡ false))
    ⊎ ((made : ℕ) × (made < count)
    × ((mid : Walk) × (told : List ℕ) × AreMade opening made old told mid
    × ((gone : Gone) × (line : List ℕ) × GoTells opening mid (made == 0) gone line new × (is_made gone ≡ false)
    × (bytes ≡ told ++ line) × (full ≡ is_full_at gone))))

-- the event that was gone over, or that there is none
abbrev pub TellsWalk : Shared → Shown → Option ℕ → List ℕ → Type 0
TellsWalk opening core None bytes = bytes ≡ lined (codes "none")
TellsWalk opening core (Some at) bytes = IsEventLine opening core at bytes

-- no job has this number at the place
abbrev pub IsNoJob : Shared → Walk → ℕ → List ℕ → Type 0
IsNoJob opening walk job bytes = (row_at (state_of opening (front walk)).rows job ≡ None) × (bytes ≡ lined (codes "C1"))

-- the lines of a job's frames, the innermost first, as it stood at the ask of its last event before the place
abbrev pub ShowsFrames : Shared → Walk → ℕ → List ℕ → Type 0
ShowsFrames opening walk job bytes =
    IsNoJob opening walk job bytes
    ⊎ ((locals : Locals) × (places : List Place) × HasStood (program_of walk.core.image) opening (front walk) job locals places × (bytes ≡ spot_lines places))

-- the lines of its locals there
abbrev pub ShowsLocals : Shared → Walk → ℕ → List ℕ → Type 0
ShowsLocals opening walk job bytes =
    IsNoJob opening walk job bytes
    ⊎ ((locals : Locals) × (places : List Place) × HasStood (program_of walk.core.image) opening (front walk) job locals places × (bytes ≡ listed_lines locals))

-- nothing changes but what is at hand
abbrev pub ChangesNothing : Walk → Walk → Type 0
ChangesNothing old new = new ≡ record old { ready = new.ready }

-- What is answered to a command, whether it is told that the record is full, and what is left then.
abbrev pub Says : Shared → Walk → Command → List ℕ → Bool → Walk → Type 0
Says opening old (commands.Step step) bytes full new =
    (answer : Result Seen WalkRefusal) × StepGives opening old step answer new × TellsStep opening new.core answer bytes × (full ≡ is_full answer)
Says opening old (commands.Go count) bytes full new = AnswersGo opening count old bytes full new
Says opening old (commands.Set routine line) bytes full new =
    AreMarked old.core.image (record { routine = routine; line = line }) true old.marks new.marks
    × (new ≡ record old { marks = new.marks }) × (bytes ≡ lined (codes "ok")) × (full ≡ false)
Says opening old (commands.Clear routine line) bytes full new =
    AreMarked old.core.image (record { routine = routine; line = line }) false old.marks new.marks
    × (new ≡ record old { marks = new.marks }) × (bytes ≡ lined (codes "ok")) × (full ≡ false)
Says opening old commands.Back bytes full new = (at : Option ℕ) × GoesBack old at new × TellsWalk opening old.core at bytes × (full ≡ false)
Says opening old commands.Forward bytes full new = (at : Option ℕ) × GoesForth old at new × TellsWalk opening old.core at bytes × (full ≡ false)
Says opening old (commands.Frames job) bytes full new = ChangesNothing old new × ShowsFrames opening old job bytes × (full ≡ false)
Says opening old (commands.Locals job) bytes full new = ChangesNothing old new × ShowsLocals opening old job bytes × (full ≡ false)
Says opening old commands.Locks bytes full new = ChangesNothing old new × (bytes ≡ held_lines (state_of opening (front old)).locks) × (full ≡ false)
Says opening old commands.Globals bytes full new = ChangesNothing old new × (bytes ≡ listed_lines (state_of opening (front old)).globals) × (full ≡ false)
Says opening old commands.Quit bytes full new = (new ≡ old) × (bytes ≡ []) × (full ≡ false)
