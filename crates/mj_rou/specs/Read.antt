-- What is said of a routine that was read, and of one that was refused.
use Rattle.std.specs.Prelude.{ℕ, ◌≡◌, ◌≤◌, ◌+◌, ◌⊎◌, ◌↔◌, nat_le, Bool, true, false, ◌&&◌, List, [], ◌∷◌, ◌++◌, length, Contains, Option, Some, None}
use Rattle.std.specs.List.{list_all}
use Rattle.std.specs.Ordering.{nat_cmp}
use Rattle.std.specs.Cmp.Lexicographic.{slice_cmp}
use Rattle.std.specs.BTreeSet.{BTreeSet, contains_by}
use denote.Ref.{Bor}
use Rattle.mj_ast.specs.Syntax.{Line, Routine}
use Rattle.mj_ast.specs.Tokens.{Token, tokens, begins_word, continues_word}
use Rattle.mj_ast.specs.Expressions.{depth_limit, width_limit, name_limit}
use Rattle.mj_ast.specs.Lines.{SpellsLine, IsLineWithin, IsLong, IsDeepAt, HasLabelOf}
use Rattle.mj_ast.specs.LeftOut.{IsStuckOn}
use Rattle.mj_ast.specs.Routines.{lines_of, labels_before, SpellsRoutine, IsName, IsRefusalOfLine, routine_limit}
use Rattle.mj_ast.specs.Routines as grammar
use Rattle.mj_rou.specs.declared.error.LineError.{LineError}
use Rattle.mj_rou.specs.declared.error.LineError.TheVariants as refusal
use Rattle.mj_rou.specs.declared.error.LoadError.{LoadError}
use Rattle.mj_rou.specs.declared.error.LoadError.TheVariants as load

-- ---- lines

-- The bytes spell the line within the limits, and no other line. Nothing is over its limit.
pub record IsLineRead (bytes : List ℕ) (l : Line) : Type 0 where
  pub short : IsLong bytes → ⊥
  pub spells : SpellsLine (tokens bytes) l
  pub within : IsLineWithin depth_limit width_limit l
  pub only : (o : Line) → SpellsLine (tokens bytes) o → o ≡ l

-- Why the line would be refused, whatever its label. Want of memory says nothing.
abbrev pub IsRefusedAlone : List ℕ → LineError → Type 0
IsRefusedAlone bytes (refusal.Stuck column) = (IsLong bytes → ⊥) × IsStuckOn bytes column None
IsRefusedAlone bytes (refusal.LeftOut column construct) = (IsLong bytes → ⊥) × IsStuckOn bytes column (Some construct)
IsRefusedAlone bytes (refusal.Deep column) = (IsLong bytes → ⊥) × IsDeepAt bytes column
IsRefusedAlone bytes refusal.Twice = ⊥
IsRefusedAlone bytes refusal.Long = IsLong bytes
IsRefusedAlone bytes refusal.Memory = Unit {0}

-- why it is, behind lines with these labels
abbrev pub IsLineRefused : List (List ℕ) → List ℕ → LineError → Type 0
IsLineRefused labels bytes (refusal.Stuck column) = IsRefusalOfLine labels bytes (grammar.StuckAt column)
IsLineRefused labels bytes (refusal.LeftOut column construct) = IsRefusalOfLine labels bytes (grammar.LeftOutAt column construct)
IsLineRefused labels bytes (refusal.Deep column) = IsRefusalOfLine labels bytes (grammar.DeepAt column)
IsLineRefused labels bytes refusal.Twice = IsRefusalOfLine labels bytes grammar.Twice
IsLineRefused labels bytes refusal.Long = IsRefusalOfLine labels bytes grammar.Long
IsLineRefused labels bytes refusal.Memory = Unit {0}

-- ---- labels

-- the set has these labels and no others
abbrev pub HoldsLabels : List (List ℕ) → BTreeSet (Bor (List ℕ)) → Type 0
HoldsLabels labels set = (word : List ℕ) → (contains_by (λ k. slice_cmp nat_cmp word k.now) set ≡ true) ↔ Contains labels word

-- the bytes of a label, if there is one
abbrev pub label_seen : Option (Bor (List ℕ)) → Option (List ℕ)
label_seen None = None
label_seen (Some b) = Some b.now

-- with the label too, if there is one
abbrev pub and_label : List (List ℕ) → Option (List ℕ) → List (List ℕ)
and_label labels None = labels
and_label labels (Some word) = labels ++ word ∷ []

-- whether the label is among them
abbrev pub IsTwice : Bool → List (List ℕ) → List Token → Type 0
IsTwice true labels ks = HasLabelOf labels ks
IsTwice false labels ks = HasLabelOf labels ks → ⊥

-- of a line that is refused by itself, and whose label stands twice or doesn't, this is the refusal
abbrev pub IsRanked : LineError → Bool → LineError → Type 0
IsRanked alone twice given =
    (before : List (List ℕ)) → (bytes : List ℕ) → IsRefusedAlone bytes alone → IsTwice twice before (tokens bytes) → IsLineRefused before bytes given

-- the labels of these lines
abbrev pub labels_of : List (List ℕ) → List (List ℕ)
labels_of lines = labels_before lines (length lines)

-- no line has a label that one before it has
abbrev pub AreApart : List (List ℕ) → Type 0
AreApart lines = (front : List (List ℕ)) (line : List ℕ) (back : List (List ℕ)) → lines ≡ front ++ line ∷ back → HasLabelOf (labels_of front) (tokens line) → ⊥

-- ---- routines

-- each line is read as its tree
abbrev pub AreRead : List (List ℕ) → List Line → Type 0
AreRead [] [] = Unit {0}
AreRead (b ∷ bs) (l ∷ ls) = IsLineRead b l × AreRead bs ls
AreRead bs ls = ⊥

-- The bytes spell the routine, and no other. Each line is within the limits, no label stands twice, and there are not too
-- many lines.
pub record IsRoutineRead (name bytes : List ℕ) (r : Routine) : Type 0 where
  pub spells : SpellsRoutine name bytes r
  pub lines : AreRead (lines_of bytes) r.lines
  pub apart : AreApart (lines_of bytes)
  pub few : length (lines_of bytes) ≤ routine_limit
  pub only : (o : Routine) → SpellsRoutine name bytes o → o ≡ r

-- The lines before the one of this number are read, and no label stands twice among them: each is what a routine may have.
pub record IsFirstAt (bytes : List ℕ) (number : ℕ) (before : List (List ℕ)) (line : List ℕ) : Type 0 where
  pub behind : List (List ℕ)
  pub cut : lines_of bytes ≡ before ++ line ∷ behind
  pub place : number ≡ length before + 1
  pub trees : List Line
  pub read : AreRead before trees
  pub apart : AreApart before

-- the line of this number, which counts from 1, is the first that is refused, and this is why
pub record IsFirst (bytes : List ℕ) (number : ℕ) (r : grammar.LineRefusal) : Type 0 where
  pub before : List (List ℕ)
  pub line : List ℕ
  pub first : IsFirstAt bytes number before line
  pub within : number ≤ routine_limit
  pub refused : IsRefusalOfLine (labels_of before) line r

-- no line is refused, but the one of this number is one too many
pub record IsTooMany (bytes : List ℕ) (number : ℕ) : Type 0 where
  pub before : List (List ℕ)
  pub line : List ℕ
  pub first : IsFirstAt bytes number before line
  pub many : number ≡ routine_limit + 1

-- a line is refused, or is one too many; want of memory says nothing
abbrev pub IsRefusedAt : List ℕ → ℕ → LineError → Type 0
IsRefusedAt bytes number (refusal.Stuck column) = IsFirst bytes number (grammar.StuckAt column)
IsRefusedAt bytes number (refusal.LeftOut column construct) = IsFirst bytes number (grammar.LeftOutAt column construct)
IsRefusedAt bytes number (refusal.Deep column) = IsFirst bytes number (grammar.DeepAt column)
IsRefusedAt bytes number refusal.Twice = IsFirst bytes number grammar.Twice
IsRefusedAt bytes number refusal.Long = IsFirst bytes number grammar.Long ⊎ IsTooMany bytes number
IsRefusedAt bytes number refusal.Memory = Unit {0}

-- Why the routine is refused. Want of memory says nothing.
abbrev pub IsRoutineRefused : List ℕ → List ℕ → LoadError → Type 0
IsRoutineRefused name bytes load.Name = IsName name → ⊥
IsRoutineRefused name bytes (load.Stuck routine number column) = IsName name × (routine.bytes ≡ name) × IsFirst bytes number (grammar.StuckAt column)
IsRoutineRefused name bytes (load.LeftOut routine number column construct) = IsName name × (routine.bytes ≡ name) × IsFirst bytes number (grammar.LeftOutAt column construct)
IsRoutineRefused name bytes (load.Twice routine number) = IsName name × (routine.bytes ≡ name) × IsFirst bytes number grammar.Twice
IsRoutineRefused name bytes (load.Long routine number) = IsName name × (routine.bytes ≡ name) × (IsFirst bytes number grammar.Long ⊎ IsTooMany bytes number)
IsRoutineRefused name bytes (load.Deep routine number column) = IsName name × (routine.bytes ≡ name) × IsFirst bytes number (grammar.DeepAt column)
IsRoutineRefused name bytes load.Memory = Unit {0}

-- whether the bytes are a name
abbrev pub is_word : List ℕ → Bool
is_word [] = false
is_word (b ∷ bs) = begins_word b && list_all continues_word bs

abbrev pub is_name : List ℕ → Bool
is_name word = is_word word && nat_le (length word) name_limit
