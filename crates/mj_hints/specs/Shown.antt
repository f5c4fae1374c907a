-- What is shown of a refusal, behind the line that says it (this profile): the line of the source, a caret under the column, the word that stands there, and what
-- helps.
use Rattle.std.specs.Prelude.{ℕ, ◌+◌, ◌-◌, ◌==◌, nat_le, nat_lt, not, ◌&&◌, ◌||◌, if◌then◌else◌, List, [], ◌∷◌, ◌++◌, length, map, take, drop, Option, Some, None, codes}
use Rattle.std.specs.List.{flat_map}
use Rattle.mj_ast.specs.Lines.{line_limit}
use Rattle.mj_ast.specs.Routines.{routine_limit}
use Rattle.mj_ast.specs.declared.construct.Construct.{Construct}
use Rattle.mj_rou.specs.declared.error.LoadError.{LoadError}
use Rattle.mj_rou.specs.declared.error.LoadError.TheVariants as load
use Rattle.mj_hints.specs.Hints.{Help, Nearly, Said, help_at, front_there, slice_of, begins_blank}
use Rattle.mj_hints.specs.Phrases.{phrase_of}
use Rattle.mj_hints.specs.Refusals.{line_at}
use Rattle.mj_hints.specs.declared.phrases.Hint.{Hint}
use Rattle.mj_hints.specs.declared.phrases.Hint.TheVariants as hint

-- ---- the line

-- a byte as it is shown: a control character that is no tab as `?`
abbrev pub shown_byte : ℕ → ℕ
shown_byte b = if (nat_lt b 32 && not (b == 9)) || b == 127 then 63 else b

abbrev pub shown_bytes : List ℕ → List ℕ
shown_bytes bytes = map shown_byte bytes

-- what stands under a byte, before the caret: a tab under a tab, nothing under one that goes on with a character of several bytes, else a space
abbrev pub under : ℕ → List ℕ
under b = if b == 9 then 9 ∷ [] else if nat_le 128 b && nat_lt b 192 then [] else 32 ∷ []

abbrev pub under_bytes : List ℕ → List ℕ
under_bytes bytes = flat_map under bytes

-- of a long line what is shown begins so many bytes behind its beginning, so that the column is among its first hundred
abbrev pub start_of : ℕ → ℕ
start_of column = column - 100

-- and it has so many bytes at most
abbrev pub shown_most : ℕ
shown_most = 150

-- the margin, which shows where a line is cut in front
abbrev pub margin : ℕ → List ℕ
margin start = if start == 0 then codes "    " else codes " .. "

-- the end, which shows where it is cut behind
abbrev pub tail : ℕ → List ℕ → List ℕ
tail start line = if nat_lt (start + shown_most) (length line) then codes " .." else []

-- the line of the source
abbrev pub source_line : ℕ → List ℕ → List ℕ
source_line start line = margin start ++ shown_bytes (take shown_most (drop start line)) ++ tail start line ++ 10 ∷ []

-- what stands before the caret
abbrev pub caret_front : ℕ → ℕ → List ℕ → List ℕ
caret_front start column line = codes "    " ++ under_bytes (take (column - 1 - start) (drop start line))

-- ---- what is said

-- the word that stands there, as far as forty bytes show it
abbrev pub word_shown : List ℕ → List ℕ
word_shown [] = codes "the line's end"
word_shown (b ∷ bs) = if begins_blank (b ∷ bs) then codes "a blank" else shown_bytes (take 40 (b ∷ bs))

-- what helps
abbrev pub help_text : Help → List ℕ
help_text (Nearly name) = codes "did you mean `" ++ name ++ codes "`?"
help_text (Said h) = phrase_of h

abbrev pub help_behind : Option Help → List ℕ
help_behind None = []
help_behind (Some h) = codes ": " ++ help_text h

-- the line of the caret: the word that stands there, and what helps
abbrev pub caret_line : ℕ → List ℕ → Option Help → List ℕ
caret_line column line help =
    caret_front (start_of column) column line ++ codes "^ " ++ word_shown (slice_of (front_there (drop (column - 1) line))) ++ help_behind help ++ 10 ∷ []

-- both lines
abbrev pub shown_at : ℕ → List ℕ → Option Help → List ℕ
shown_at column line help = source_line (start_of column) line ++ caret_line column line help

-- of a line that can't go on at the column
abbrev pub stuck_text : Option Construct → ℕ → List ℕ → List ℕ
stuck_text c column line = shown_at column line (help_at c (take (column - 1) line) (drop (column - 1) line))

-- a line without a caret
abbrev pub plain_line : Hint → List ℕ
plain_line h = codes "    " ++ phrase_of h ++ 10 ∷ []

-- which limit it is
abbrev pub limit_case : ℕ → List ℕ → Hint
limit_case number line =
    if nat_lt routine_limit number then hint.LongRoutine else if nat_lt line_limit (length line) then hint.LongLine else hint.LongWord

-- what is shown of a refusal of the text
abbrev pub refusal_text : List ℕ → LoadError → List ℕ
refusal_text text load.Name = plain_line hint.Named
refusal_text text (load.Stuck routine number column) = stuck_text None column (line_at (number - 1) text)
refusal_text text (load.LeftOut routine number column construct) = stuck_text (Some construct) column (line_at (number - 1) text)
refusal_text text (load.Deep routine number column) = shown_at column (line_at (number - 1) text) (Some (Said hint.Deep))
refusal_text text (load.Twice routine number) = shown_at 1 (line_at (number - 1) text) (Some (Said hint.Again))
refusal_text text (load.Long routine number) = source_line 0 (line_at (number - 1) text) ++ plain_line (limit_case number (line_at (number - 1) text))
refusal_text text load.Memory = []
