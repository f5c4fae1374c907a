-- Breakpoints at a prompt: what is told where one is set or deleted.
use Rattle.std.specs.Prelude.{◌≡◌, ℕ, Bool, true, false, List, [], ◌++◌, Option, Some, None, codes}
use Rattle.mj_ask.specs.declared.entry.Entry.{Entry}
use Rattle.mj_debug.specs.Breaks.{AreMarked}
use Rattle.mj_debug.specs.Walks.{Walk}
use Rattle.mj_dialogue.specs.Lines.{lined, spot_line}
use Rattle.mj_inspect.specs.Asks.{is_asking}
use Rattle.mj_inspect.specs.Spots.{entry_line}

-- what is told of a line from which an ask may come, or from which none comes
abbrev pub silence_text : Bool → List ℕ
silence_text true = []
silence_text false = lined (codes "no ask comes from there")

-- what is told behind the line: of a breakpoint that is set, whether an ask may come from there
abbrev pub marked_text : Bool → Bool → List ℕ
marked_text true asking = silence_text asking
marked_text false asking = []

-- a line of a routine is a breakpoint from now on, or none; nothing else changes
abbrev pub Marks : Bool → Walk → List ℕ → ℕ → Walk → Type 0
Marks on old routine line new =
    AreMarked old.core.image (record { routine = routine; line = line }) on old.marks new.marks × (new ≡ record old { marks = new.marks })

-- it is, and which line it is is told
abbrev pub MarksLine : Bool → Walk → List ℕ → ℕ → List ℕ → Walk → Type 0
MarksLine on old routine line bytes new =
    Marks on old routine line new
    × (bytes ≡ codes "ok " ++ spot_line routine line ++ marked_text on (is_asking old.core.image.units routine line))

-- that line of its routine, if there is one; else that there is none is told, and nothing changes
abbrev pub MarksAt : Bool → Walk → List ℕ → Option ℕ → List ℕ → Walk → Type 0
MarksAt on old routine None bytes new = (bytes ≡ lined (codes "none")) × (new ≡ old)
MarksAt on old routine (Some line) bytes new = MarksLine on old routine line bytes new

-- the line at which an entry enters its routine
abbrev pub MarksEntry : Bool → Walk → Entry → List ℕ → Walk → Type 0
MarksEntry on old entry bytes new = MarksAt on old entry.routine (entry_line old.core.image.routines entry) bytes new
