-- The source of routines, as it is shown. Byte 32 is a blank, and 62 is `>`.
use Rattle.std.specs.Prelude.{◌≡◌, ℕ, ◌+◌, ◌==◌, Bool, ◌&&◌, nat_le, List, [], ◌∷◌, ◌++◌, Option, Some, None, decimal, codes, if◌then◌else◌}
use Rattle.std.specs.Str.{bytes_eq}
use Rattle.mj_ast.specs.Routines.{lines_of}
use Rattle.mj_semantics.specs.State.{Place}
use Rattle.mj_load.specs.Image.{program_of}
use Rattle.mj_sys.specs.Shared.{Shared}
use Rattle.mj_debug.specs.Walks.{Walk}
use Rattle.mj_dialogue.specs.Lines.{lined}
use Rattle.mj_inspect.specs.Listed.{or_nothing}
use Rattle.mj_inspect.specs.Spots.{CameFrom}
use Rattle.mj_inspect.specs.declared.source.Source.{Source}

-- a line with its number, and a mark or a blank before it
abbrev pub shown_line : Bool → ℕ → List ℕ → List ℕ
shown_line marked number line = lined ((if marked then 62 else 32) ∷ decimal number ++ codes ": " ++ line)

-- the line of one number is one of those round the line of another, five before it and five behind
abbrev pub is_near : ℕ → ℕ → Bool
is_near at number = nat_le number (at + 5) && nat_le at (number + 5)

-- a line, if it is one of those round the line of this number
abbrev pub near_line : ℕ → ℕ → List ℕ → List ℕ
near_line number at line = if is_near at number then shown_line (at == number) at line else []

-- of these lines, which are numbered from `at` on, those round the line of this number
abbrev pub near_lines : ℕ → ℕ → List (List ℕ) → List ℕ
near_lines number at [] = []
near_lines number at (line ∷ lines) = near_line number at line ++ near_lines number (at + 1) lines

-- those of a routine; none of a routine that isn't one of these
abbrev pub around_lines : List Source → List ℕ → ℕ → List ℕ
around_lines [] routine number = []
around_lines (source ∷ sources) routine number =
    (if bytes_eq source.name.items routine then near_lines number 1 (lines_of source.bytes.items) else []) ++ around_lines sources routine number

-- they, or that there are none
abbrev pub shown_around : List Source → List ℕ → ℕ → List ℕ
shown_around sources routine number = or_nothing (around_lines sources routine number)

-- those round a line of a routine, if there is one; else that there is none
abbrev pub source_lines : List Source → List ℕ → Option ℕ → List ℕ
source_lines sources routine None = lined (codes "none")
source_lines sources routine (Some line) = shown_around sources routine line

-- those round a place, if there is one; else that there is none
abbrev pub source_at : List Source → Option Place → List ℕ
source_at sources None = lined (codes "none")
source_at sources (Some place) = shown_around sources place.routine place.line

-- those round the line that the last ask before the place came from
abbrev pub IsSource : Shared → List Source → Walk → List ℕ → Type 0
IsSource opening sources walk bytes =
    (at : Option Place) × CameFrom (program_of walk.core.image) opening walk.core.history walk.place at × (bytes ≡ source_at sources at)
