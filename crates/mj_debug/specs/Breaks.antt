-- Breakpoints.
use Rattle.std.specs.Prelude.{◌≡◌, ◌==◌, List, [], ◌∷◌, Bool, false, Option, Some, None, not, ◌&&◌, if◌then◌else◌}
use Rattle.std.specs.Str.{bytes_eq}
use Rattle.mj_semantics.specs.State.{Place}
use Rattle.mj_load.specs.Image.{Loaded}
use Rattle.mj_load.specs.Breaks.{has_break}
use Rattle.mj_debug.specs.declared.breaks.BreakMark.{BreakMark}

-- two lines are one
abbrev pub is_same : Place → Place → Bool
is_same p q = bytes_eq p.routine q.routine && p.line == q.line

-- the line of a mark
abbrev pub line_of : BreakMark → Place
line_of mark = record { routine = mark.routine; line = mark.line }

-- whether a line is a breakpoint: as its mark says; one without a mark where it holds BREAK
abbrev pub is_breakpoint : Loaded → List BreakMark → Place → Bool
is_breakpoint image [] line = has_break image line.routine line.line
is_breakpoint image (mark ∷ marks) line = if is_same (line_of mark) line then mark.on else is_breakpoint image marks line

-- this line is a breakpoint now, or none; every other line is what it was
abbrev pub AreMarked : Loaded → Place → Bool → List BreakMark → List BreakMark → Type 0
AreMarked image line on old new = (other : Place) → is_breakpoint image new other ≡ (if is_same line other then on else is_breakpoint image old other)

-- this is that line
abbrev pub is_there : Place → Option Place → Bool
is_there line None = false
is_there line (Some place) = is_same place line

-- An ask comes from a breakpoint, from which the ask before it didn't come. Each comes from the line of its job's innermost frame; one without a
-- frame from none.
abbrev pub stops : Loaded → List BreakMark → Option Place → Option Place → Bool
stops image marks before None = false
stops image marks before (Some line) = is_breakpoint image marks line && not (is_there line before)
