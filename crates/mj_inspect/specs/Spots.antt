-- Lines of routines: those of entries, those that jobs stop at, and that of the last ask.
use Rattle.std.specs.Prelude.{◌≡◌, ℕ, zero, suc, ◌+◌, ◌-◌, ◌==◌, Bool, false, List, [], ◌∷◌, ◌++◌, Option, Some, None, position, option_map, slice_get, if◌then◌else◌}
use Rattle.std.specs.Str.{bytes_eq}
use Rattle.mj_ask.specs.declared.entry.Entry.{Entry}
use Rattle.mj_ast.specs.declared.routine.Line.{Line}
use Rattle.mj_ast.specs.declared.routine.Routine.{Routine}
use Rattle.mj_semantics.specs.Program.{Program}
use Rattle.mj_semantics.specs.State.{Place}
use Rattle.mj_load.specs.Image.{Loaded}
use Rattle.mj_sys.specs.Shared.{Shared}
use Rattle.mj_sys.specs.History.{History}
use Rattle.mj_core.specs.Runs.{IsAskedFrom}
use Rattle.mj_debug.specs.declared.breaks.BreakMark.{BreakMark}
use Rattle.mj_debug.specs.Breaks.{is_breakpoint}
use Rattle.mj_dialogue.specs.Lines.{spot_line}
use Rattle.mj_inspect.specs.Listed.{or_nothing}

-- the label is this
abbrev pub is_label : List ℕ → Option (List ℕ) → Bool
is_label label None = false
is_label label (Some own) = bytes_eq own label

-- the number of the first line, from 1
abbrev pub first_line : List Line → Option ℕ
first_line [] = None
first_line (line ∷ lines) = Some 1

-- the number of the first line with this label, or of the first line of all where no label is given
abbrev pub labelled_line : List Line → Option (List ℕ) → Option ℕ
labelled_line lines None = first_line lines
labelled_line lines (Some label) = option_map (λ at. at + 1) (position (λ line. is_label label line.label) lines)

-- the number of the line at which an entry enters the first routine of its name
abbrev pub entry_line : List Routine → Entry → Option ℕ
entry_line [] entry = None
entry_line (routine ∷ routines) entry =
    if bytes_eq routine.name entry.routine then labelled_line routine.lines.items entry.label else entry_line routines entry

-- of these lines of a routine, which are numbered from this one on, those at which jobs stop
abbrev pub break_lines_from : Loaded → List BreakMark → List ℕ → ℕ → List Line → List ℕ
break_lines_from image marks routine number [] = []
break_lines_from image marks routine number (line ∷ lines) =
    (if is_breakpoint image marks (record { routine = routine; line = number }) then spot_line routine number else [])
    ++ break_lines_from image marks routine (number + 1) lines

-- those of some routines
abbrev pub break_lines_in : Loaded → List BreakMark → List Routine → List ℕ
break_lines_in image marks [] = []
break_lines_in image marks (routine ∷ routines) =
    break_lines_from image marks routine.name 1 routine.lines.items ++ break_lines_in image marks routines

-- those of all, or that there are none
abbrev pub break_lines : Loaded → List BreakMark → List ℕ
break_lines image marks = or_nothing (break_lines_in image marks image.routines)

-- the line that the last ask before a place of a history came from; none where there is no such ask
abbrev pub CameFrom : Program → Shared → History → ℕ → Option Place → Type 0
CameFrom program opening history zero at = at ≡ None
CameFrom program opening history (suc last) at = IsAskedFrom program opening history last at

-- the job of the last event before a place of a history, if there is one
abbrev pub asker : History → ℕ → Option ℕ
asker history place = if place == 0 then None else option_map (λ e. e.job) (slice_get history (place - 1))
