-- Lines by the parts of their commands, and how they are spelled.
use Rattle.std.specs.Prelude.{◌≡◌, ℕ, suc, ◌≤◌, max, List, [], ◌∷◌, ◌++◌, Option, replicate, map}
use Rattle.mj_ast.specs.declared.keyword.Keyword.{Keyword}
use Rattle.mj_ast.specs.Syntax.{Expr, LineCommand, Line}
use Rattle.mj_ast.specs.Tokens.{Token, Word, Blank}
use Rattle.mj_ast.specs.Expressions.{expr_nesting, expr_width}
use Rattle.mj_ast.specs.Commands.{Part, WordLeads, keyword_for, command_parts, SpellsCondition, SpellsArguments, IsConditional, gap_of, comment_gap_of, greatest, part_nesting, part_width, condition_measure}
use Rattle.mj_ast.specs.Lines.{SpellsEnd, SpellsHead, comment_gap, gap_behind}
use Rattle.mj_line.specs.Forms.{IsForm}

-- a command: its postcondition, which it is, and the parts of its arguments
pub record Clause : Type 0 where
  pub condition : Option Expr
  pub keyword : Keyword
  pub parts : List Part

-- a line of them
pub record Sentence : Type 0 where
  pub label : Option (List ℕ)
  pub formals : List (List ℕ)
  pub level : ℕ
  pub clauses : List Clause

abbrev pub SpellsClause : List Token → Clause → Type 0
SpellsClause ks c =
    (word : List ℕ) × (condition : List Token) × (arguments : List Token)
    × (ks ≡ Word word ∷ (condition ++ arguments)) × (led : WordLeads word c.parts c.keyword)
    × SpellsCondition condition c.condition × SpellsArguments arguments c.parts × IsForm led.0 c.parts × IsConditional c.keyword c.condition

abbrev pub SpellsClauses : ℕ → ℕ → List Token → List Clause → Type 0
SpellsClauses g c ks [] = SpellsEnd c ks
SpellsClauses g c ks (x ∷ xs) =
    (n : ℕ) × (front : List Token) × (rest : List Token)
    × (g ≤ n) × (ks ≡ replicate n Blank ++ (front ++ rest)) × SpellsClause front x
    × SpellsClauses (gap_of x.parts) (comment_gap_of x.parts) rest xs

abbrev pub SpellsSentence : List Token → Sentence → Type 0
SpellsSentence ks l =
    (front : List Token) × (rest : List Token) × (dots : ℕ)
    × (ks ≡ front ++ rest) × SpellsHead front l.label l.formals dots × (l.level ≡ suc dots)
    × SpellsClauses (gap_behind dots 1) (gap_behind dots (comment_gap l.label)) rest l.clauses

-- ---- lines as trees

-- a command by its parts
abbrev pub clause_of : LineCommand → Clause
clause_of s = record { condition = s.condition; keyword = keyword_for s.command; parts = command_parts s.command }

abbrev pub sentence_of : Line → Sentence
sentence_of l = record { label = l.label; formals = l.formals; level = l.level; clauses = map clause_of l.steps }

-- ---- limits

abbrev pub clause_nesting : Clause → ℕ
clause_nesting c = max (condition_measure expr_nesting c.condition) (greatest part_nesting c.parts)

abbrev pub clause_width : Clause → ℕ
clause_width c = max (condition_measure expr_width c.condition) (greatest part_width c.parts)

-- no expression nests deeper, and no list of subscripts is longer
pub record IsSentenceWithin (depth width : ℕ) (l : Sentence) : Type 0 where
  pub nests : greatest clause_nesting l.clauses ≤ depth
  pub lists : greatest clause_width l.clauses ≤ width
