-- Why a command isn't answered, or not to its end, and what is left then.
use Rattle.std.specs.Prelude.{◌≡◌, ◌==◌, ℕ, ◌<◌, List, [], Bool, true, false, Option, Result, ◌⊎◌}
use Rattle.std.specs.Io.KnownBytes.{Appends}
use Rattle.mj_semantics.specs.State.{Place}
use Rattle.mj_sys.specs.Shared.{Shared}
use Rattle.mj_core.specs.declared.seen.Seen.{Seen}
use Rattle.mj_replica.specs.declared.replica.Unshown.{Unshown}
use Rattle.mj_replica.specs.declared.replica.Unshown.TheVariants as unshown
use Rattle.mj_replica.specs.Replicas.{IsUnshown}
use Rattle.mj_debug.specs.declared.debugger.WalkRefusal.{WalkRefusal}
use Rattle.mj_debug.specs.declared.debugger.Gone.{Gone}
use Rattle.mj_debug.specs.Breaks.{AreMarked}
use Rattle.mj_debug.specs.Goes.{GoGives, IsLeftUnmade}
use Rattle.mj_debug.specs.Walks.{Walk, StepGives, GoesBack, GoesForth}
use Rattle.mj_dialogue.specs.declared.command.Command.{Command}
use Rattle.mj_dialogue.specs.declared.command.Command.TheVariants as commands
use Rattle.mj_dialogue.specs.declared.answering.Unanswered.{Unanswered}
use Rattle.mj_dialogue.specs.declared.answering.Unanswered.TheVariants as unanswered
use Rattle.mj_dialogue.specs.Says.{Says, ChangesNothing, GoTells, AreMade}

-- why a command is unanswered where what stands at the place is unshown
abbrev pub unanswered_of : Unshown → Unanswered
unanswered_of unshown.Memory = unanswered.Memory
unanswered_of unshown.Long = unanswered.Long

-- What stands at the place isn't shown: memory was wanting, or a job went on for too long before one of the events there. Nothing changes but what
-- is at hand.
abbrev pub IsHidden : Shared → Walk → Unshown → Walk → Type 0
IsHidden opening old why new = ChangesNothing old new × IsUnshown old.core.image opening old.core.history old.place why

-- Why the next of many steps in turn isn't told. Memory was wanting: before the step, so that it isn't made, though its job may have come to its ask; or
-- behind what came of it. Or what stands at the record's end isn't shown, and so no step is made. Or what is told of what came of it isn't written.
abbrev pub IsCut : Shared → Walk → Bool → Unanswered → Walk → Type 0
IsCut opening old first unanswered.Memory new = IsLeftUnmade opening old first unshown.Memory new ⊎ ((gone : Gone) × GoGives opening old first gone new)
IsCut opening old first unanswered.Long new =
    IsLeftUnmade opening old first unshown.Long new × IsUnshown old.core.image opening old.core.history old.place unshown.Long
IsCut opening old first unanswered.Unwritten new = (gone : Gone) × (line : List ℕ) × GoTells opening old first gone line new

-- the line is marked so, or no line is marked anew; nothing else changes
abbrev pub MayMark : Walk → Place → Bool → Walk → Type 0
MayMark old line on new =
    (new ≡ record old { marks = new.marks }) × ((new.marks ≡ old.marks) ⊎ AreMarked old.core.image line on old.marks new.marks)

-- What is left where memory was wanting for the answer to a command other than `go`: what it does was done, but for marks, which may be those that
-- were. `q` always has an answer.
abbrev pub IsDone : Shared → Walk → Command → Walk → Type 0
IsDone opening old (commands.Step step) new = (answer : Result Seen WalkRefusal) × StepGives opening old step answer new
IsDone opening old (commands.Go count) new = ⊥
IsDone opening old (commands.Set routine line) new = MayMark old (record { routine = routine; line = line }) true new
IsDone opening old (commands.Clear routine line) new = MayMark old (record { routine = routine; line = line }) false new
IsDone opening old commands.Back new = (at : Option ℕ) × GoesBack old at new
IsDone opening old commands.Forward new = (at : Option ℕ) × GoesForth old at new
IsDone opening old (commands.Frames job) new = ChangesNothing old new
IsDone opening old (commands.Locals job) new = ChangesNothing old new
IsDone opening old commands.Locks new = ChangesNothing old new
IsDone opening old commands.Globals new = ChangesNothing old new
IsDone opening old commands.Quit new = ⊥

-- whether a command shows what stands at the place
abbrev pub is_show : Command → Bool
is_show (commands.Frames job) = true
is_show (commands.Locals job) = true
is_show commands.Locks = true
is_show commands.Globals = true
is_show _ = false

-- A command other than `go` isn't answered: memory was wanting; what it should show isn't shown; or its answer isn't written.
abbrev pub IsUnanswered : Shared → Walk → Command → Unanswered → Walk → Type 0
IsUnanswered opening old command unanswered.Memory new = IsDone opening old command new
IsUnanswered opening old command unanswered.Long new = (is_show command ≡ true) × IsHidden opening old unshown.Long new
IsUnanswered opening old command unanswered.Unwritten new = (bytes : List ℕ) × (full : Bool) × Says opening old command bytes full new

-- Why a command isn't answered to its end, what was told of it before, and what is left. Of a `go` some steps were made and told, fewer than it should
-- make, and the next is cut off; of another command nothing was told; and `q` is always answered.
abbrev pub Fails : Shared → Walk → Command → List ℕ → Unanswered → Walk → Type 0
Fails opening old (commands.Go count) bytes why new =
    (made : ℕ) × (made < count) × ((mid : Walk) × AreMade opening made old bytes mid × IsCut opening mid (made == 0) why new)
Fails opening old commands.Quit bytes why new = ⊥
Fails opening old command bytes why new = (bytes ≡ []) × IsUnanswered opening old command why new

-- What was told before was written, and nothing else; but where the output fails, how much it took isn't known.
abbrev pub IsOutputWritten : Unanswered → Option (List ℕ) → Option (List ℕ) → List ℕ → Type 0
IsOutputWritten unanswered.Unwritten old new bytes = Unit {0}
IsOutputWritten why old new bytes = Appends old new bytes
