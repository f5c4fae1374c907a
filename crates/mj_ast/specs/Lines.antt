-- The grammar of lines, as the spelling of trees, and where a line that has none is refused (ISO/IEC 11756:1999, 6.2;
-- this profile):
--
--   line    = {blank} | ";" any
--           | [label [formals]] ( end | blank+ {"." {blank}} [commands] [";" any] )
--   label   = name | digits
--   formals = "(" [name {"," name}] ")"
--
-- No two formals of a line are the same name. A line's level is 1 and the number of its dots.
--
-- Behind a command with arguments come one blank or more and another command, a comment or the line's end. Behind one
-- without come two blanks or more and another command, one blank or more and a comment, or the line's end.
use Rattle.std.specs.Prelude.{◌≡◌, ◌⊎◌, ℕ, zero, suc, ◌+◌, ◌≤◌, ◌<◌, List, [], ◌∷◌, ◌++◌, length, take, map, replicate, Contains, Option, Some, None, bytes_eq}
use Rattle.std.specs.List.{IsDistinct}
use Rattle.mj_ast.specs.declared.sign.Sign.TheVariants.{Caret, Comma, Open, Close, Dot}
use Rattle.mj_ast.specs.Syntax.{LineCommand, Line}
use Rattle.mj_ast.specs.Tokens.{Token, Word, Called, Special, Invoked, Digits, Signed, Blank, Comment, tokens, column}
use Rattle.mj_ast.specs.Expressions.{name_limit, depth_limit, width_limit}
use Rattle.mj_ast.specs.Commands.{SpellsStep, plain_step, command_parts, gap_of, comment_gap_of, greatest, step_nesting, step_width}
use Rattle.mj_ast.specs.declared.limits.TheConstants.{LINE_LIMIT}

-- ---- spelling

-- blanks up to the line's end, or c blanks or more up to a comment
abbrev pub SpellsEnd : ℕ → List Token → Type 0
SpellsEnd c ks =
    ((n : ℕ) × (ks ≡ replicate n Blank))
    ⊎ ((n : ℕ) × (text : List ℕ) × (c ≤ n) × (ks ≡ replicate n Blank ++ Comment text ∷ []))

-- the commands of a line up to its end, the first behind g blanks or more, or a comment behind c
abbrev pub SpellsSteps : ℕ → ℕ → List Token → List LineCommand → Type 0
SpellsSteps g c ks [] = SpellsEnd c ks
SpellsSteps g c ks (s ∷ ss) =
    (n : ℕ) × (front : List Token) × (rest : List Token)
    × (g ≤ n) × (ks ≡ replicate n Blank ++ (front ++ rest)) × SpellsStep front s
    × SpellsSteps (gap_of (command_parts s.command)) (comment_gap_of (command_parts s.command)) rest ss

-- a label, or none
abbrev pub SpellsLabel : List Token → Option (List ℕ) → Type 0
SpellsLabel ks None = ks ≡ []
SpellsLabel ks (Some l) = ((ks ≡ Word l ∷ []) × (length l ≤ name_limit)) ⊎ (ks ≡ Digits l ∷ [])

-- how many blanks stand behind a label before a comment, at least
abbrev pub comment_gap : Option (List ℕ) → ℕ
comment_gap None = 0
comment_gap (Some l) = 1

-- names, each behind a comma
abbrev pub comma_names : List (List ℕ) → List Token
comma_names [] = []
comma_names (w ∷ ws) = Signed Comma ∷ Word w ∷ comma_names ws

-- names with commas between them
abbrev pub name_tokens : List (List ℕ) → List Token
name_tokens [] = []
name_tokens (w ∷ ws) = Word w ∷ comma_names ws

-- each is of a length that a name may have, and no two are the same
pub record AreFormals (names : List (List ℕ)) : Type 0 where
  pub short : greatest length names ≤ name_limit
  pub distinct : IsDistinct bytes_eq names

-- Formals in parentheses, or none. They stand behind a label alone, and parentheses with nothing in them are none too.
abbrev pub SpellsFormals : Option (List ℕ) → List Token → List (List ℕ) → Type 0
SpellsFormals None ks names = (ks ≡ []) × (names ≡ [])
SpellsFormals (Some l) ks names = ((ks ≡ []) × (names ≡ [])) ⊎ ((ks ≡ Signed Open ∷ (name_tokens names ++ Signed Close ∷ [])) × AreFormals names)

-- so many dots, the first behind g blanks or more, the others behind any number of them
abbrev pub SpellsDots : ℕ → List Token → ℕ → Type 0
SpellsDots g ks zero = ks ≡ []
SpellsDots g ks (suc dots) = (n : ℕ) × (rest : List Token) × (g ≤ n) × (ks ≡ replicate n Blank ++ Signed Dot ∷ rest) × SpellsDots 0 rest dots

-- how many blanks stand behind the dots before a command or a comment, at least; without dots there are g
abbrev pub gap_behind : ℕ → ℕ → ℕ
gap_behind zero g = g
gap_behind (suc dots) g = 0

-- what stands in front of the commands: a label, formals and dots
pub record SpellsHead (ks : List Token) (label : Option (List ℕ)) (formals : List (List ℕ)) (dots : ℕ) : Type 0 where
  pub front : List Token
  pub names : List Token
  pub indent : List Token
  pub cut : ks ≡ front ++ (names ++ indent)
  pub label_is : SpellsLabel front label
  pub formals_are : SpellsFormals label names formals
  pub dots_are : SpellsDots 1 indent dots

-- the tokens spell the line, as it is written
abbrev pub SpellsWritten : List Token → Line → Type 0
SpellsWritten ks l =
    (front : List Token) × (rest : List Token) × (dots : ℕ)
    × (ks ≡ front ++ rest) × SpellsHead front l.label l.formals dots × (l.level ≡ suc dots)
    × SpellsSteps (gap_behind dots 1) (gap_behind dots (comment_gap l.label)) rest l.steps

-- the line that is meant
abbrev pub plain_line : Line → Line
plain_line l = record { label = l.label; formals = l.formals; level = l.level; steps = map plain_step l.steps }

-- the tokens spell the line
abbrev pub SpellsLine : List Token → Line → Type 0
SpellsLine ks l = (written : Line) × SpellsWritten ks written × (plain_line written ≡ l)

-- ---- limits, and what begins a line

-- no expression of the line nests deeper, and no list of subscripts is longer
pub record IsLineWithin (depth width : ℕ) (l : Line) : Type 0 where
  pub nests : greatest step_nesting l.steps ≤ depth
  pub lists : greatest step_width l.steps ≤ width

-- the tokens begin a line of the grammar
pub record BeginsLine (ks : List Token) : Type 0 where
  pub rest : List Token
  pub line : Line
  pub spells : SpellsLine (ks ++ rest) line

-- the tokens begin a line of the grammar within the limits
pub record BeginsLineWithin (depth width : ℕ) (ks : List Token) : Type 0 where
  pub rest : List Token
  pub line : Line
  pub spells : SpellsLine (ks ++ rest) line
  pub within : IsLineWithin depth width line

-- ---- refusals

-- The first k tokens begin a line within the limits, and with the next one they begin none, whatever the limits; or all of
-- them do and are no line.
pub record IsStuck (ks : List Token) (k : ℕ) : Type 0 where
  pub inside : k ≤ length ks
  pub before : BeginsLineWithin depth_limit width_limit (take k ks)
  pub at : k < length ks → BeginsLine (take (k + 1) ks) → ⊥
  pub whole : (l : Line) → SpellsLine ks l → ⊥

-- The first k tokens begin a line within the limits, and with the next one they still begin a line, but none that nests so
-- little, however long its lists are.
pub record IsDeep (ks : List Token) (k : ℕ) : Type 0 where
  pub inside : k < length ks
  pub before : BeginsLineWithin depth_limit width_limit (take k ks)
  pub at : BeginsLine (take (k + 1) ks)
  pub beyond : (width : ℕ) → BeginsLineWithin depth_limit width (take (k + 1) ks) → ⊥

-- one token that can be an operand, or none, or what makes an operand of `$$`
pub data Filler : List Token → Type 0 where
  no_filler : Filler []
  digits_filler : Filler (Digits (48 ∷ []) ∷ [])
  word_filler : Filler (Word (65 ∷ []) ∷ [])
  entry_filler : Filler (Signed Caret ∷ Word (65 ∷ []) ∷ [])

-- With a comma behind them the tokens begin a line, but none whose lists of subscripts are short enough: it is a list's 31st
-- comma. It is that too where an operand is still missing before it.
pub record IsLastComma (ks : List Token) : Type 0 where
  pub filler : List Token
  pub fills : Filler filler
  pub begins : BeginsLine (ks ++ (filler ++ Signed Comma ∷ []))
  pub too_long : (depth : ℕ) → BeginsLineWithin depth width_limit (ks ++ (filler ++ Signed Comma ∷ [])) → ⊥

-- the token is a word over its limit, or a comma behind which a list of subscripts has too many
abbrev pub IsOverlong : List Token → Token → Type 0
IsOverlong before (Word w) = name_limit < length w
IsOverlong before (Called w) = name_limit < length w
IsOverlong before (Special w) = name_limit < length w
IsOverlong before (Invoked w) = name_limit < length w
IsOverlong before (Signed Comma) = IsLastComma before
IsOverlong before _ = ⊥

-- Up to the first token with which the tokens begin no line, that one too, there is a word over its limit, or a list of
-- subscripts at its 31st comma.
pub record HasOverlong (ks : List Token) : Type 0 where
  pub front : List Token
  pub token : Token
  pub rest : List Token
  pub cut : ks ≡ front ++ token ∷ rest
  pub begins : BeginsLine front
  pub overlong : IsOverlong front token

-- the most bytes of a line
abbrev pub line_limit : ℕ
line_limit = LINE_LIMIT

-- a line over its limit, or with a word or a list of subscripts over its own
abbrev pub IsLong : List ℕ → Type 0
IsLong line = (line_limit < length line) ⊎ HasOverlong (tokens line)

-- the column is that of the first token with which the line can't go on
pub record IsStuckAt (line : List ℕ) (c : ℕ) : Type 0 where
  pub place : ℕ
  pub stuck : IsStuck (tokens line) place
  pub column_is : c ≡ column line place

-- the column is that of the first token with which the line nests too deep
pub record IsDeepAt (line : List ℕ) (c : ℕ) : Type 0 where
  pub place : ℕ
  pub deep : IsDeep (tokens line) place
  pub column_is : c ≡ column line place

-- the line's label, as far as its first token says
abbrev pub label_of : List Token → Option (List ℕ)
label_of (Word w ∷ ks) = Some w
label_of (Digits d ∷ ks) = Some d
label_of _ = None

-- the line has a label that stands among these, as it is spelled
abbrev pub HasLabelOf : List (List ℕ) → List Token → Type 0
HasLabelOf labels ks = (l : List ℕ) × (label_of ks ≡ Some l) × Contains labels l
