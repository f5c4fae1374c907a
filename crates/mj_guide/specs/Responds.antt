-- What is answered to a request at a prompt.
use Rattle.std.specs.Prelude.{◌≡◌, ℕ, Bool, true, false, List, [], ◌++◌, Option, Some, None, Result, codes}
use Rattle.std.specs.Io.KnownBytes.{Appends}
use Rattle.mj_subs.specs.Name.{Name}
use Rattle.mj_steps.specs.declared.step.Step.{Step}
use Rattle.mj_sys.specs.Shared.{Shared}
use Rattle.mj_core.specs.declared.seen.Seen.{Seen}
use Rattle.mj_debug.specs.declared.debugger.WalkRefusal.{WalkRefusal}
use Rattle.mj_debug.specs.Walks.{Walk, StepGives}
use Rattle.mj_dialogue.specs.declared.command.Command.{Command}
use Rattle.mj_dialogue.specs.declared.command.Command.TheVariants as commands
use Rattle.mj_dialogue.specs.Lines.{lined}
use Rattle.mj_dialogue.specs.Says.{Says, ChangesNothing, TellsStep, is_full}
use Rattle.mj_inspect.specs.declared.source.Source.{Source}
use Rattle.mj_inspect.specs.Asks.{is_asking}
use Rattle.mj_inspect.specs.Listed.{or_nothing}
use Rattle.mj_inspect.specs.Shows.{ShowsVariable}
use Rattle.mj_inspect.specs.Source.{IsSource, shown_around, source_lines}
use Rattle.mj_inspect.specs.Specials.{ShowsSpecial}
use Rattle.mj_inspect.specs.Spots.{asker, break_lines, entry_line}
use Rattle.mj_inspect.specs.Waits.{TellsWaits}
use Rattle.mj_guide.specs.declared.request.Request.{Request}
use Rattle.mj_guide.specs.declared.request.Request.TheVariants as requests
use Rattle.mj_guide.specs.Goes.{GoesOn, GoesUntil}
use Rattle.mj_guide.specs.Marks.{Marks, MarksEntry, silence_text}
use Rattle.mj_guide.specs.Notes.{Situation, kept_of, watched_lines, with_name, without_name}

-- what comes of a step, and what is told of it: it is kept, if it did something
abbrev pub StepsOn : Shared → Situation → Step → Bool → Situation → Type 0
StepsOn opening old step full new =
    (answer : Result Seen WalkRefusal) × (bytes : List ℕ) × StepGives opening old.walk step answer new.walk × TellsStep opening new.walk.core answer bytes
    × (full ≡ is_full answer) × Appends old.written new.written bytes × (new.steps ≡ old.steps ++ kept_of step answer) × (new.watched ≡ old.watched)
    × (new.starts ≡ old.starts)

-- what is answered to a command that stands without a prompt too, and makes no step
abbrev pub SaysPlainly : Shared → Walk → Command → List ℕ → Bool → Walk → Type 0
SaysPlainly opening old (commands.Set routine line) bytes full new =
    Marks true old routine line new × (bytes ≡ lined (codes "ok") ++ silence_text (is_asking old.core.image.units routine line)) × (full ≡ false)
SaysPlainly opening old command bytes full new = Says opening old command bytes full new

-- what is left of such a command, whether it makes steps or none
abbrev pub RespondsPlainly : Shared → Situation → Command → Bool → Situation → Type 0
RespondsPlainly opening old (commands.Step step) full new = StepsOn opening old step full new
RespondsPlainly opening old (commands.Go count) full new = GoesOn opening None count old full new
RespondsPlainly opening old command full new =
    (bytes : List ℕ) × SaysPlainly opening old.walk command bytes full new.walk × Appends old.written new.written bytes
    × (new.steps ≡ old.steps) × (new.watched ≡ old.watched) × (new.starts ≡ old.starts)

-- the job of the event before a place; 0, which is none, where there is none
abbrev pub job_or_none : Option ℕ → ℕ
job_or_none None = 0
job_or_none (Some job) = job

-- what is answered to any other request; of `help`, `keep` and `branch` nothing, which are the caller's
abbrev pub Answers : Shared → List Source → Situation → Request → List ℕ → Walk → Type 0
Answers opening sources old (requests.Show name) bytes new =
    ChangesNothing old.walk new × ShowsVariable opening old.walk (job_or_none (asker old.walk.core.history old.walk.place)) name bytes
Answers opening sources old (requests.ShowOf job name) bytes new = ChangesNothing old.walk new × ShowsVariable opening old.walk job name bytes
Answers opening sources old (requests.Special special) bytes new =
    (new ≡ old.walk)
    × ShowsSpecial old.walk.core.image old.starts old.walk.core.history old.walk.place (job_or_none (asker old.walk.core.history old.walk.place)) special bytes
Answers opening sources old (requests.SpecialOf job special) bytes new =
    (new ≡ old.walk) × ShowsSpecial old.walk.core.image old.starts old.walk.core.history old.walk.place job special bytes
Answers opening sources old requests.Waits bytes new =
    (new ≡ old.walk) × TellsWaits old.walk.core.image old.starts old.walk.core.history old.walk.place bytes
Answers opening sources old requests.Breaks bytes new = (new ≡ old.walk) × (bytes ≡ break_lines old.walk.core.image old.walk.marks)
Answers opening sources old (requests.SetAt entry) bytes new = MarksEntry true old.walk entry bytes new
Answers opening sources old (requests.ClearAt entry) bytes new = MarksEntry false old.walk entry bytes new
Answers opening sources old requests.Source bytes new = (new ≡ old.walk) × IsSource opening sources old.walk bytes
Answers opening sources old (requests.SourceAt routine line) bytes new = (new ≡ old.walk) × (bytes ≡ shown_around sources routine line)
Answers opening sources old (requests.SourceOf entry) bytes new =
    (new ≡ old.walk) × (bytes ≡ source_lines sources entry.routine (entry_line old.walk.core.image.routines entry))
Answers opening sources old requests.Watched bytes new = (new ≡ old.walk) × (bytes ≡ or_nothing (watched_lines old.watched))
Answers opening sources old (requests.Watch name) bytes new = (new ≡ old.walk) × (bytes ≡ lined (codes "ok"))
Answers opening sources old (requests.Unwatch name) bytes new = (new ≡ old.walk) × (bytes ≡ lined (codes "ok"))
Answers opening sources old _ bytes new = (new ≡ old.walk) × (bytes ≡ [])

-- the names that are watched behind a request
abbrev pub watched_behind : List Name → Request → List Name
watched_behind names (requests.Watch name) = with_name names name
watched_behind names (requests.Unwatch name) = without_name names name
watched_behind names _ = names

-- What is written as the answer to a request, whether it is told that the record is full, and what is left then.
abbrev pub Responds : Shared → List Source → Situation → Request → Bool → Situation → Type 0
Responds opening sources old (requests.Plain command) full new = RespondsPlainly opening old command full new
Responds opening sources old (requests.Until goal) full new = GoesUntil opening goal old full new
Responds opening sources old request full new =
    (bytes : List ℕ) × Answers opening sources old request bytes new.walk × (full ≡ false) × Appends old.written new.written bytes
    × (new.steps ≡ old.steps) × (new.watched ≡ watched_behind old.watched request) × (new.starts ≡ old.starts)
