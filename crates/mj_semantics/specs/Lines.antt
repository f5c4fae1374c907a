-- Where lines stand, and what an entry names.
use Rattle.std.specs.Prelude.{ℕ, ◌+◌, ◌-◌, List, [], ◌∷◌, map, Option, Some, None, Bool, false, slice_get, if◌then◌else◌}
use Rattle.std.specs.Str.{bytes_eq}
use Rattle.mj_ask.specs.declared.entry.Entry.{Entry}
use Rattle.mj_ast.specs.Syntax.{Target, Line, Routine}
use Rattle.mj_semantics.specs.State.{Place}

-- a place in the text of the routines
pub record Here : Type 0 where
  pub routine : List ℕ
  pub line : ℕ

abbrev pub place_at : Here → Place
place_at here = record { routine = here.routine; line = here.line }

abbrev pub next_line : Here → Here
next_line here = record here { line = here.line + 1 }

abbrev pub line_before : Here → Here
line_before here = record here { line = here.line - 1 }

-- the lines of a routine, none where there is no such routine
abbrev pub lines_of : List Routine → List ℕ → List Line
lines_of [] r = []
lines_of (routine ∷ image) r = if bytes_eq routine.name r then routine.lines else lines_of image r

-- line k, from 1 on
abbrev pub line_at : List Routine → Here → Option Line
line_at image here = slice_get (lines_of image here.routine) (here.line - 1)

abbrev pub has_label : List ℕ → Line → Bool
has_label l line = elim line.label [ None ↦ false | Some k ↦ bytes_eq k l ]

-- the number of the first line with a label, from k on; the number after the last line where there is none
abbrev pub labelled : List ℕ → ℕ → List Line → ℕ
labelled l k [] = k
labelled l k (line ∷ lines) = if has_label l line then k else labelled l (k + 1) lines

-- the line number that an entry names, the first without a label
abbrev pub line_number : List Routine → Entry → ℕ
line_number image entry = elim entry.label [ None ↦ 1 | Some l ↦ labelled l 1 (lines_of image entry.routine) ]

-- the line that an entry names, with its place, if there is such a line (8.1.6, entry reference)
abbrev pub entered : List Routine → Entry → Option (Here × Line)
entered image entry =
    let here : Here = record { routine = entry.routine; line = line_number image entry } in
    elim (line_at image here) [ None ↦ None | Some line ↦ Some (here, line) ]

-- the entry that a target names, in this routine where it names none
abbrev pub entry_in : List ℕ → Target → Entry
entry_in routine t = record { label = t.label; routine = elim t.routine [ None ↦ routine | Some r ↦ r ] }

-- the entry that an argument of DO or GOTO names, or a function, in a line that stands here
abbrev pub entry_of : Here → Target → Entry
entry_of here t = entry_in here.routine t

-- the levels of a routine's lines
abbrev pub levels_of : List Routine → List ℕ → List ℕ
levels_of image r = map (λ line. line.level) (lines_of image r)
