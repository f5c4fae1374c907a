-- What is told of a job that ended by a fault (this profile). Byte 10 ends a line.
use Rattle.std.specs.Prelude.{ℕ, zero, suc, ◌+◌, ◌-◌, ◌==◌, List, [], ◌∷◌, ◌++◌, length, take, reverse, decimal, codes, Option, Some, None, if◌then◌else◌}
use Rattle.std.specs.Str.{bytes_eq}
use Rattle.mj_text.specs.declared.fault.Fault.{Fault}
use Rattle.mj_text.specs.Fault.{name_of}
use Rattle.mj_ask.specs.Written.{entry_text}
use Rattle.mj_ask.specs.declared.entry.Entry.{Entry}
use Rattle.mj_ast.specs.declared.routine.Line.{Line}
use Rattle.mj_ast.specs.declared.routine.Routine.{Routine}
use Rattle.mj_hints.specs.Refusals.{line_at}
use Rattle.mj_hints.specs.Shown.{source_line}
use Rattle.mj_semantics.specs.State.{Place, places}
use Rattle.mj_load.specs.Image.{Loaded}
use Rattle.mj_machine.specs.Standing.{Standing}
use Rattle.mj_faulted.specs.Meanings.{meaning_of, help_of}
use Rattle.mj_faulted.specs.Subjects.{subject_of}

-- ---- places

-- of lines, the last of which comes first, the first label, behind so many lines
abbrev pub first_label : List Line → ℕ → Option (List ℕ × ℕ)
first_label [] behind = None
first_label (l ∷ lines) behind = elim l.label [ None ↦ first_label lines (behind + 1) | Some label ↦ Some (label, behind) ]

-- the last label up to a line, and how many lines that one stands behind it
abbrev pub label_above : List Line → ℕ → Option (List ℕ × ℕ)
label_above lines line = first_label (reverse (take line lines)) 0

-- a line by the label above it, or by its number where there is none: `SUB`, `SUB+1`, `+3`
abbrev pub line_text : Option (List ℕ × ℕ) → ℕ → List ℕ
line_text None line = 43 ∷ decimal line
line_text (Some found) line = found.0 ++ (if found.1 == 0 then [] else 43 ∷ decimal found.1)

-- the lines of the routine of this name
abbrev pub lines_in : List Routine → List ℕ → List Line
lines_in [] name = []
lines_in (r ∷ routines) name = if bytes_eq r.name name then r.lines.items else lines_in routines name

-- a place, as `SUB+1^U`
abbrev pub spot_text : List Routine → Place → List ℕ
spot_text routines p = line_text (label_above (lines_in routines p.routine) p.line) p.line ++ 94 ∷ p.routine

-- ---- lines of the source

-- the bytes of the routine of this name, if they are known
abbrev pub source_in : List (List ℕ × List ℕ) → List ℕ → Option (List ℕ)
source_in [] name = None
source_in (s ∷ sources) name = if bytes_eq s.0 name then Some s.1 else source_in sources name

-- the line at a place, as it stands in the source
abbrev pub shown_in : Option (List ℕ) → ℕ → List ℕ
shown_in None line = []
shown_in (Some bytes) line = source_line 0 (line_at (line - 1) bytes)

abbrev pub shown_at : List (List ℕ × List ℕ) → Place → List ℕ
shown_at sources p = shown_in (source_in sources p.routine) p.line

-- ---- calls

-- so many calls are told
abbrev pub calls_most : ℕ
calls_most = 20

-- the calls that aren't told
abbrev pub more_text : ℕ → List ℕ
more_text count = codes "  and " ++ (decimal count ++ codes " more\n")

-- where a frame goes on once the one above it is over
abbrev pub call_text : List Routine → List (List ℕ × List ℕ) → Place → List ℕ
call_text routines sources p = codes "  called at " ++ (spot_text routines p ++ 10 ∷ shown_at sources p)

-- the frames below the innermost one, the innermost of them first
abbrev pub calls_text : List Routine → List (List ℕ × List ℕ) → ℕ → List Place → List ℕ
calls_text routines sources most [] = []
calls_text routines sources zero (p ∷ ps) = more_text (length (p ∷ ps))
calls_text routines sources (suc most) (p ∷ ps) = call_text routines sources p ++ calls_text routines sources most ps

-- ---- the whole

-- what the fault is about, behind what it means
abbrev pub about_text : List ℕ → List ℕ
about_text [] = []
about_text (b ∷ bytes) = codes ": " ++ b ∷ bytes

-- where the innermost frame stands, if there is one
abbrev pub at_text : List Routine → List Place → List ℕ
at_text routines [] = []
at_text routines (p ∷ ps) = codes " at " ++ spot_text routines p

-- its line
abbrev pub line_shown : List (List ℕ × List ℕ) → List Place → List ℕ
line_shown sources [] = []
line_shown sources (p ∷ ps) = shown_at sources p

-- the frames below
abbrev pub calls_below : List Routine → List (List ℕ × List ℕ) → List Place → List ℕ
calls_below routines sources [] = []
calls_below routines sources (p ∷ ps) = calls_text routines sources calls_most ps

-- which job ended by which fault
abbrev pub front_text : ℕ → Fault → List ℕ
front_text job fault = codes "job " ++ (decimal job ++ (codes ": " ++ name_of fault))

-- the first line
abbrev pub head_text : List Routine → ℕ → Fault → List Place → List ℕ → List ℕ
head_text routines job fault ps subject =
    front_text job fault ++ (at_text routines ps ++ (codes ", " ++ (meaning_of fault ++ (about_text subject ++ 10 ∷ []))))

-- what helps
abbrev pub help_text : Fault → List ℕ
help_text fault = codes "    " ++ (help_of fault ++ 10 ∷ [])

-- where the job started
abbrev pub start_text : Entry → List ℕ
start_text entry = codes "  started at " ++ (entry_text entry ++ 10 ∷ [])

-- What is told of a job that started there and comes to the fault from here. The turn that ends a frame moves its place first, so places are those where the
-- run stands then.
abbrev pub story_text : Loaded → List (List ℕ × List ℕ) → ℕ → Fault → Entry → Standing → Standing → List ℕ
story_text image sources job fault entry at fallen =
    head_text image.routines job fault (places fallen.state) (subject_of image.units entry fault at)
    ++ (line_shown sources (places fallen.state) ++ (help_text fault ++ (calls_below image.routines sources (places fallen.state) ++ start_text entry)))

-- what is told where the fault isn't found again
abbrev pub lost_text : ℕ → Fault → List ℕ
lost_text job fault = front_text job fault ++ (codes ", " ++ (meaning_of fault ++ codes ", but its place isn't found again\n"))
