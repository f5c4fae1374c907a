-- The grammar of routines, as the spelling of trees by bytes, and which refusal is given (this profile).
use Rattle.std.specs.Prelude.{◌≡◌, ℕ, zero, suc, ◌≤◌, ◌==◌, Bool, true, false, ◌&&◌, List, [], ◌∷◌, length, Some, None}
use Rattle.mj_ast.specs.Syntax.{Line, Routine}
use Rattle.mj_ast.specs.Tokens.{IsWord, tokens}
use Rattle.mj_ast.specs.Expressions.{name_limit}
use Rattle.mj_ast.specs.Lines.{SpellsLine, IsLong, IsDeepAt, HasLabelOf, label_of}
use Rattle.mj_ast.specs.LeftOut.{IsStuckOn}
use Rattle.mj_ast.specs.declared.construct.Construct.{Construct}
use Rattle.mj_ast.specs.declared.limits.TheConstants.{ROUTINE_LIMIT}

-- ---- lines of a file

-- with a byte in front of the first line
abbrev pub with_front : ℕ → List (List ℕ) → List (List ℕ)
with_front b [] = (b ∷ []) ∷ []
with_front b (l ∷ ls) = (b ∷ l) ∷ ls

-- the bytes go on with a line's end
abbrev pub ends_here : List ℕ → Bool
ends_here [] = false
ends_here (b ∷ bs) = b == 10

-- The lines of a file. A byte 10 ends a line, and the last one may lack it. One byte 13 directly before a byte 10 belongs to
-- the line's end. A file of no bytes has no line.
abbrev pub lines_of : List ℕ → List (List ℕ)
lines_of [] = []
lines_of (b ∷ bs) =
    elim (b == 10) [
      | true ↦ [] ∷ lines_of bs
      | false ↦ elim (b == 13 && ends_here bs) [ true ↦ lines_of bs | false ↦ with_front b (lines_of bs) ]
    ]

-- ---- spelling

-- a word of a length that a name may have
pub record IsName (word : List ℕ) : Type 0 where
  pub spelled : IsWord word
  pub short : length word ≤ name_limit

-- each line is spelled
abbrev pub SpellsLines : List (List ℕ) → List Line → Type 0
SpellsLines [] [] = Unit {0}
SpellsLines (b ∷ bs) (l ∷ ls) = SpellsLine (tokens b) l × SpellsLines bs ls
SpellsLines _ _ = ⊥

-- the labels of the lines before the place k
abbrev pub labels_before : List (List ℕ) → ℕ → List (List ℕ)
labels_before [] k = []
labels_before (l ∷ ls) zero = []
labels_before (l ∷ ls) (suc k) = elim (label_of (tokens l)) [ None ↦ labels_before ls k | Some w ↦ w ∷ labels_before ls k ]

-- the most lines of a routine
abbrev pub routine_limit : ℕ
routine_limit = ROUTINE_LIMIT

-- the bytes spell the routine
pub record SpellsRoutine (name bytes : List ℕ) (r : Routine) : Type 0 where
  pub named : r.name ≡ name
  pub spelled : SpellsLines (lines_of bytes) r.lines

-- ---- refusals

-- Why a line is refused. A line that is too long comes first, then a label that stands twice, then the least column. Where the
-- line can't go on it is refused by the name of what stands there, if that is left out by a name.
pub data LineRefusal : Type 0 where
  Long : LineRefusal
  Twice : LineRefusal
  StuckAt : (column : ℕ) → LineRefusal
  LeftOutAt : (column : ℕ) (construct : Construct) → LineRefusal
  DeepAt : (column : ℕ) → LineRefusal

-- why the line, of which the earlier labels are given, is refused
abbrev pub IsRefusalOfLine : List (List ℕ) → List ℕ → LineRefusal → Type 0
IsRefusalOfLine labels line Long = IsLong line
IsRefusalOfLine labels line Twice = (IsLong line → ⊥) × HasLabelOf labels (tokens line)
IsRefusalOfLine labels line (StuckAt c) = (IsLong line → ⊥) × (HasLabelOf labels (tokens line) → ⊥) × IsStuckOn line c None
IsRefusalOfLine labels line (LeftOutAt c x) = (IsLong line → ⊥) × (HasLabelOf labels (tokens line) → ⊥) × IsStuckOn line c (Some x)
IsRefusalOfLine labels line (DeepAt c) = (IsLong line → ⊥) × (HasLabelOf labels (tokens line) → ⊥) × IsDeepAt line c
