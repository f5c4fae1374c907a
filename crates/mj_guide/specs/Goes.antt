-- Jobs that go on in turn, and what is told of it.
use Rattle.std.specs.Prelude.{◌≡◌, ◌<◌, ◌==◌, Bool, true, false, List, ℕ, zero, suc, ◌++◌, Option, Some, None, ◌⊎◌}
use Rattle.std.specs.Io.KnownBytes.{Appends}
use Rattle.mj_sys.specs.Shared.{Shared}
use Rattle.mj_debug.specs.declared.debugger.Gone.{Gone}
use Rattle.mj_debug.specs.Breaks.{is_breakpoint}
use Rattle.mj_dialogue.specs.Says.{GoTells, is_full_at}
use Rattle.mj_guide.specs.Ends.{ending, waited_behind}
use Rattle.mj_guide.specs.Marks.{Marks}
use Rattle.mj_guide.specs.Notes.{Situation, kept_in_turn}
use Rattle.mj_guide.specs.declared.request.Goal.{Goal}
use Rattle.mj_guide.specs.declared.request.Goal.TheVariants as goals
use Rattle.mj_guide.specs.declared.responding.TheConstants.{MOST}

-- What comes of the next step in turn, and what is told of it. It is kept, if it did something.
abbrev pub Turns : Shared → Bool → Situation → Gone → Situation → Type 0
Turns opening first old gone new =
    (line : List ℕ) × GoTells opening old.walk first gone line new.walk × Appends old.written new.written line
    × (new.steps ≡ old.steps ++ kept_in_turn gone) × (new.watched ≡ old.watched) × (new.starts ≡ old.starts)

-- It is made, and others follow it. So many of the last ones waited before it, one after the other, and so many behind it.
abbrev pub GoesPast : Shared → Option Goal → Bool → Situation → ℕ → Situation → ℕ → Type 0
GoesPast opening goal first old before new waited =
    (gone : Gone) × Turns opening first old gone new × (waited ≡ waited_behind before gone)
    × (ending opening new.watched goal waited gone new.walk.core.history ≡ None)

-- It is the last, and this is told behind it.
abbrev pub EndsAt : Shared → Option Goal → Bool → Situation → ℕ → Bool → Situation → Type 0
EndsAt opening goal first old before full new =
    (gone : Gone) × (last : Situation) × (behind : List ℕ) × Turns opening first old gone last
    × (ending opening last.watched goal (waited_behind before gone) gone last.walk.core.history ≡ Some behind)
    × Appends last.written new.written behind × (new ≡ record last { written = new.written }) × (full ≡ is_full_at gone)

-- So many steps in turn were made, each behind the one before it, and none was the last. Of the last ones so many waited, one after the other.
abbrev pub ArePassed : Shared → Option Goal → ℕ → Situation → Situation → ℕ → Type 0
ArePassed opening goal zero old new waited = (new ≡ old) × (waited ≡ 0)
ArePassed opening goal (suc made) old new waited =
    (mid : Situation) × (before : ℕ) × ArePassed opening goal made old mid before × GoesPast opening goal (made == 0) mid before new waited

-- Up to so many steps in turn: all were made; or fewer were, and the next one is the last.
abbrev pub GoesOn : Shared → Option Goal → ℕ → Situation → Bool → Situation → Type 0
GoesOn opening goal count old full new =
    ((made : ℕ) × (waited : ℕ) × (made ≡ count) × ArePassed opening goal made old new waited × (full ≡ false))
    ⊎ ((made : ℕ) × (mid : Situation) × (waited : ℕ) × (made < count) × ArePassed opening goal made old mid waited
    × EndsAt opening goal (made == 0) mid waited full new)

-- a line of a routine is a breakpoint from now on, or none; nothing else changes
abbrev pub MarksIn : Bool → Situation → List ℕ → ℕ → Situation → Type 0
MarksIn on old routine line new = Marks on old.walk routine line new.walk × (new ≡ record old { walk = new.walk })

-- Up to a line, jobs go on with it as a breakpoint. If it was none before, it is none behind.
abbrev pub GoesToLine : Shared → List ℕ → ℕ → Situation → Bool → Situation → Type 0
GoesToLine opening routine line old full new =
    ((is_breakpoint old.walk.core.image old.walk.marks (record { routine = routine; line = line }) ≡ true) × GoesOn opening None MOST old full new)
    ⊎ ((is_breakpoint old.walk.core.image old.walk.marks (record { routine = routine; line = line }) ≡ false)
    × ((marked gone : Situation) × MarksIn true old routine line marked × GoesOn opening None MOST marked full gone × MarksIn false gone routine line new))

-- up to a goal
abbrev pub GoesUntil : Shared → Goal → Situation → Bool → Situation → Type 0
GoesUntil opening (goals.Line routine line) old full new = GoesToLine opening routine line old full new
GoesUntil opening goals.Clash old full new = GoesOn opening (Some goals.Clash) MOST old full new
GoesUntil opening goals.Busy old full new = GoesOn opening (Some goals.Busy) MOST old full new
GoesUntil opening goals.Fault old full new = GoesOn opening (Some goals.Fault) MOST old full new
