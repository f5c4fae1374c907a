-- Expressions that are judged over globals (this profile). `^` is byte 94.
use Rattle.std.specs.Prelude.{◌≡◌, ℕ, ◌==◌, Bool, true, false, ◌&&◌, List, [], ◌∷◌, ◌++◌, reverse, length, None, is_none, codes}
use Rattle.std.specs.List.{list_any}
use Rattle.mj_ask.specs.Started.{Started}
use Rattle.mj_ast.specs.Syntax.{Command, If, Write, Line, LineCommand, Routine}
use Rattle.mj_ast.specs.Tokens.{is_blank}
use Rattle.mj_rou.specs.Read.{IsRoutineRead}
use Rattle.mj_script.specs.Scripts.{Scripted}

-- a `^` is among these bytes, without which no global is named
abbrev pub has_caret : List ℕ → Bool
has_caret bytes = list_any (λ b. b == 94) bytes

-- the name of the routine of an expression
abbrev pub unit_name : List ℕ
unit_name = codes "UNTIL"

-- its one line, which writes 1 where the expression is true
abbrev pub condition_line : List ℕ → List ℕ
condition_line expression = codes " IF " ++ expression ++ codes " WRITE 1"

-- the same line, up to the end of the expression
abbrev pub front_line : List ℕ → List ℕ
front_line expression = codes " IF " ++ expression

-- its one job starts at that line
abbrev pub judge_start : Started
judge_start = record { entry = record { label = None; routine = unit_name }; values = [] }

-- the bytes end in a blank
abbrev pub ends_in_blank : List ℕ → Bool
ends_in_blank bytes = elim (reverse bytes) [ [] ↦ false | last ∷ _ ↦ is_blank last ]

-- IF with one expression
abbrev pub is_single_if : Command → Bool
is_single_if (If conditions) = length conditions == 1
is_single_if _ = false

-- WRITE with one argument
abbrev pub is_single_write : Command → Bool
is_single_write (Write outputs) = length outputs == 1
is_single_write _ = false

-- a command without a condition of its own
abbrev pub is_plain : LineCommand → Bool
is_plain step = is_none step.condition

-- such an IF, and such a WRITE
abbrev pub step_tests : LineCommand → Bool
step_tests step = is_plain step && is_single_if step.command

abbrev pub step_writes : LineCommand → Bool
step_writes step = is_plain step && is_single_write step.command

-- the line has the IF, and the WRITE behind it
abbrev pub steps_judge : List LineCommand → Bool
steps_judge (first ∷ second ∷ []) = step_tests first && step_writes second
steps_judge _ = false

-- it has the IF alone
abbrev pub steps_test : List LineCommand → Bool
steps_test (step ∷ []) = step_tests step
steps_test _ = false

abbrev pub line_judges : Line → Bool
line_judges line = steps_judge line.steps

abbrev pub line_tests : Line → Bool
line_tests line = steps_test line.steps

-- the routine is a line that judges
abbrev pub lines_judge : List Line → Bool
lines_judge (line ∷ []) = line_judges line
lines_judge _ = false

abbrev pub judges : Routine → Bool
judges routine = lines_judge routine.lines

-- it is a line that has the IF alone
abbrev pub lines_test : List Line → Bool
lines_test (line ∷ []) = line_tests line
lines_test _ = false

abbrev pub tests : Routine → Bool
tests routine = lines_test routine.lines

-- these bytes are read as a routine that is so
pub record IsReadSo (bytes : List ℕ) (is_so : Routine → Bool) : Type 0 where
  pub routine : Routine
  pub read : IsRoutineRead unit_name bytes routine
  pub so : is_so routine ≡ true

-- The bytes spell one expression. By the line that ends with them they are one expression, behind which at most blanks stand, and a comment behind these. By the
-- whole line they have no comment, which would hide the WRITE. And no blank ends them.
pub record IsExpression (expression : List ℕ) : Type 0 where
  pub alone : IsReadSo (front_line expression) tests
  pub whole : IsReadSo (condition_line expression) judges
  pub close : ends_in_blank expression ≡ false

-- The script of an expression: the routine that judges it, one job, and no devices.
pub record IsConditionOf (expression : List ℕ) (script : Scripted) : Type 0 where
  pub sources : script.sources ≡ (unit_name, condition_line expression) ∷ []
  pub starts : script.starts ≡ judge_start ∷ []
  pub devices : script.devices ≡ []
  pub spelled : IsExpression expression
