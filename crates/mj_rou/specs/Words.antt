-- Which trees have words alone where names stand: in variables, entries, labels and formals (6.2, 7.1.2; this profile).
use Rattle.std.specs.Prelude.{ℕ, ◌⊎◌, ◌≤◌, List, [], ◌∷◌, length, Option, Some, None}
use Rattle.mj_text.specs.declared.text.TheConstants.{TEXT_LIMIT}
use Rattle.mj_ast.specs.Syntax.{Expr, Variable, LineCommand, Line, Routine}
use Rattle.mj_ast.specs.Tokens.{AreDigits}
use Rattle.mj_ast.specs.Expressions.{Symbol, Name, Entry, expr_symbols, variable_symbols}
use Rattle.mj_ast.specs.Commands.{Part, Named, Label, Text, Place, Control, command_parts}
use Rattle.mj_ast.specs.Routines.{IsName}

-- it holds of each
abbrev pub Each : {A : Type 0} → (A → Type 0) → List A → Type 0
Each P [] = Unit {0}
Each P (x ∷ xs) = P x × Each P xs

-- the label of an entry: a word, or digits, no more than a text holds
abbrev pub IsLabel : List ℕ → Type 0
IsLabel label = IsName label ⊎ (AreDigits label × (length label ≤ TEXT_LIMIT))

-- a name among the symbols of a phrase is a word, and so is the label of a function, where it isn't digits
abbrev pub IsWorded : Symbol → Type 0
IsWorded (Name word) = IsName word
IsWorded (Entry (Some label)) = IsLabel label
IsWorded _ = Unit {0}

-- each name in the expression is one
abbrev pub IsExprWorded : Expr → Type 0
IsExprWorded e = Each IsWorded (expr_symbols e)

-- and each in the variable
abbrev pub IsVariableWorded : Variable → Type 0
IsVariableWorded v = Each IsWorded (variable_symbols v)

-- each name in the part of a command is a word
abbrev pub IsPartWorded : Part → Type 0
IsPartWorded (Named word) = IsName word
IsPartWorded (Label label) = IsLabel label
IsPartWorded (Text level e) = IsExprWorded e
IsPartWorded (Place level v) = IsVariableWorded v
IsPartWorded (Control v) = IsVariableWorded v
IsPartWorded _ = Unit {0}

-- each in the postcondition, if there is one
abbrev pub IsConditionWorded : Option Expr → Type 0
IsConditionWorded None = Unit {0}
IsConditionWorded (Some e) = IsExprWorded e

-- each in the command, and in its postcondition
pub record IsStepWorded (s : LineCommand) : Type 0 where
  pub condition : IsConditionWorded s.condition
  pub parts : Each IsPartWorded (command_parts s.command)

-- the label of a line: none, a word or digits
abbrev pub IsLabelled : Option (List ℕ) → Type 0
IsLabelled None = Unit {0}
IsLabelled (Some label) = IsName label ⊎ AreDigits label

-- each name in the line is a word: its label, where that isn't digits, its formals, and those of its commands
pub record IsLineWorded (l : Line) : Type 0 where
  pub label : IsLabelled l.label
  pub formals : Each IsName l.formals
  pub steps : Each IsStepWorded l.steps

-- each name in the routine is a word
pub record IsRoutineWorded (r : Routine) : Type 0 where
  pub name : IsName r.name
  pub lines : Each IsLineWorded r.lines
