-- All that is refused of a text, a line at a time (this profile).
--
-- A routine is refused for its first line that no routine may have. Behind that the text is read once more, with this line empty, which every routine may have,
-- and so on. So each refusal is the first one of the text in which the lines that were refused before are empty.
use Rattle.std.specs.Prelude.{ℕ, zero, suc, ◌-◌, ◌≡◌, ◌≢◌, nat_le, List, [], ◌∷◌, ◌++◌, length, Option, Some, None, if◌then◌else◌, slice_set, slice_index_or}
use Rattle.mj_ast.specs.Syntax.{Routine}
use Rattle.mj_ast.specs.Routines.{lines_of, routine_limit}
use Rattle.mj_rou.specs.File.{without_return}
use Rattle.mj_rou.specs.Read.{IsRoutineRead, IsRoutineRefused}
use Rattle.mj_rou.specs.declared.error.LoadError.{LoadError}
use Rattle.mj_rou.specs.declared.error.LoadError.TheVariants as load

-- ---- lines

-- the bytes are these lines, whatever stands behind them
abbrev pub AreWholeLines : List ℕ → List (List ℕ) → Type 0
AreWholeLines front lines = (behind : List ℕ) → lines_of (front ++ behind) ≡ lines ++ lines_of behind

-- the bytes, and an end behind them, are one line: the bytes without a byte 13 at their end
abbrev pub IsOneLine : List ℕ → Type 0
IsOneLine line = AreWholeLines (line ++ 10 ∷ []) (without_return line ∷ [])

-- bytes without an end are one line, or none
abbrev pub only_line : List ℕ → List (List ℕ)
only_line [] = []
only_line (b ∷ bs) = (b ∷ bs) ∷ []

-- the bytes are these front and rest, and so many lines are the front
pub record IsCutBehind (place : ℕ) (bytes front rest : List ℕ) : Type 0 where
  pub cut : bytes ≡ front ++ rest
  pub lines : List (List ℕ)
  pub whole : AreWholeLines front lines
  pub count : length lines ≡ place

-- the line at the place, or nothing where there are fewer
abbrev pub line_at : ℕ → List ℕ → List ℕ
line_at place bytes = slice_index_or (lines_of bytes) place []

-- the new text is the old one, but that the line at this place, which counts from 0, is empty
abbrev pub IsEmptied : ℕ → List ℕ → List ℕ → Type 0
IsEmptied place old new = lines_of new ≡ slice_set (lines_of old) place []

-- ---- refusals

-- the number of the line that is refused, which counts from 1: none where the name of the routine is
abbrev pub line_refused : LoadError → Option ℕ
line_refused load.Name = None
line_refused (load.Stuck routine line column) = Some line
line_refused (load.Twice routine line) = Some line
line_refused (load.Long routine line) = Some line
line_refused (load.Deep routine line column) = Some line
line_refused (load.LeftOut routine line column construct) = Some line
line_refused load.Memory = None

-- the number, unless it is that of a line too many
abbrev pub unless_many : Option ℕ → Option ℕ
unless_many None = None
unless_many (Some line) = if nat_le line routine_limit then Some line else None

-- the line that is made empty behind the refusal. Behind a name that is no word, and behind a line too many, nothing more is told
abbrev pub line_emptied : LoadError → Option ℕ
line_emptied e = unless_many (line_refused e)

-- what is refused first of the text, or that nothing is
abbrev pub IsRefusedFirst : List ℕ → List ℕ → Option LoadError → Type 0
IsRefusedFirst name bytes None = (r : Routine) × IsRoutineRead name bytes r
IsRefusedFirst name bytes (Some e) = (e ≢ load.Memory) × IsRoutineRefused name bytes e

-- What is refused of the text, at most so many lines of it: what is refused of the text as it stands, and then what is refused of the one in which that line is
-- empty. If there are fewer, of the last text nothing is refused, or nothing more is told.
abbrev pub AreRefusals : ℕ → List ℕ → List ℕ → List LoadError → Type 0
AreRefusals zero name bytes es = es ≡ []
AreRefusals (suc n) name bytes [] = (r : Routine) × IsRoutineRead name bytes r
AreRefusals (suc n) name bytes (e ∷ es) =
    (e ≢ load.Memory) × IsRoutineRefused name bytes e
    × elim (line_emptied e) [ None ↦ es ≡ [] | Some line ↦ (rest : List ℕ) × IsEmptied (line - 1) bytes rest × AreRefusals n name rest es ]
