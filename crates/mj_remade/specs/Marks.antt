-- Breakpoints that go over to jobs that begin again.
use Rattle.std.specs.Prelude.{◌≡◌, ℕ, ◌+◌, ◌<◌, ◌≤◌, List, [], ◌∷◌, ◌++◌, Bool, true, false, not, Some, length, slice_get, if◌then◌else◌}
use Rattle.mj_ast.specs.declared.routine.Line.{Line}
use Rattle.mj_ast.specs.declared.routine.Routine.{Routine}
use Rattle.mj_semantics.specs.State.{Place}
use Rattle.mj_load.specs.Image.{Loaded}
use Rattle.mj_load.specs.Breaks.{has_break}
use Rattle.mj_debug.specs.declared.breaks.BreakMark.{BreakMark}
use Rattle.mj_debug.specs.Breaks.{is_same, is_breakpoint}
use Rattle.mj_remade.specs.declared.marks.Mark.{Mark}

-- the line of a mark
abbrev pub spot_of : Mark → Place
spot_of mark = record { routine = mark.routine; line = mark.line }

-- whether a line is a breakpoint behind a mark: as this says where it is of the line, else as it was
abbrev pub put_over : (Place → Bool) → Mark → Place → Bool
put_over was mark line = if is_same (spot_of mark) line then mark.on else was line

-- and so behind many, one after the other
abbrev pub all_over : (Place → Bool) → List Mark → Place → Bool
all_over was [] line = was line
all_over was (mark ∷ marks) line = all_over (put_over was mark) marks line

-- the line holds BREAK, so jobs stop there by themselves
abbrev pub holds_break : Loaded → Place → Bool
holds_break image line = has_break image line.routine line.line

-- one is true, and the other isn't
abbrev pub differs : Bool → Bool → Bool
differs true b = not b
differs false b = b

-- the mark of a line that is a breakpoint and holds no BREAK, or that holds one and is none
abbrev pub mark_of : Loaded → List BreakMark → Place → List Mark
mark_of image marks line =
    if differs (is_breakpoint image marks line) (holds_break image line)
    then record { routine = line.routine; line = line.line; on = is_breakpoint image marks line } ∷ [] else []

-- those of lines of a routine, which are numbered from this one on
abbrev pub marks_from : Loaded → List BreakMark → List ℕ → ℕ → List Line → List Mark
marks_from image marks routine number [] = []
marks_from image marks routine number (line ∷ lines) =
    mark_of image marks (record { routine = routine; line = number }) ++ marks_from image marks routine (number + 1) lines

-- those of all lines of some routines
abbrev pub marks_in : Loaded → List BreakMark → List Routine → List Mark
marks_in image marks [] = []
marks_in image marks (routine ∷ routines) = marks_from image marks routine.name 1 routine.lines.items ++ marks_in image marks routines

-- a line of one of these routines
pub record IsLineOf (routines : List Routine) (line : Place) : Type 0 where
  pub at : ℕ
  pub routine : Routine
  pub there : slice_get routines at ≡ Some routine
  pub named : line.routine ≡ routine.name
  pub some : 1 ≤ line.line
  pub within : line.line ≤ length routine.lines.items

-- over what lines hold, these marks make each line of the routines a breakpoint that is one, and no other
abbrev pub AreMarksOf : Loaded → List BreakMark → List Mark → Type 0
AreMarksOf image old marks =
    (line : Place) → IsLineOf image.routines line → all_over (holds_break image) marks line ≡ is_breakpoint image old line
