-- Routines as trees, without where they lie in memory. A text is the list of its bytes.
use Rattle.std.specs.Prelude.{ℕ, List, [], ◌∷◌, Option, Some, None}
use Rattle.mj_ast.specs.declared.expr.Scope.{Scope}
use Rattle.mj_ast.specs.declared.function.Function.{Function}
use Rattle.mj_ast.specs.declared.function.NameFunction.{NameFunction}
use Rattle.mj_ast.specs.declared.function.Special.{Special}
use Rattle.mj_oper.specs.declared.op.Op.{Op}
use Rattle.mj_oper.specs.declared.op.UnaryOp.{UnaryOp}
use Rattle.mj_ast.specs.declared.routine.FormatMark.{FormatMark}
use Rattle.mj_ast.specs.declared.routine.LockMode.{LockMode}
use Rattle.mj_ast.specs.declared.routine.ReadMode.{ReadMode}
use Rattle.mj_ast.specs.declared.routine.Serial.{Serial}

-- where control may go: a label, in this routine where none is named, or the first line of a routine
pub record Target : Type 0 where
  pub label : Option (List ℕ)
  pub routine : Option (List ℕ)

mutual
  -- an operand, and then operators with theirs, which are applied from left to right
  pub data Expr : Type 0 where
    Chain : (first : Operand) (rest : Tails) → Expr

  -- operators with their right operands, in order
  pub data Tails : Type 0 where
    Done : Tails
    Then : (op : Op) (operand : Operand) (rest : Tails) → Tails

  -- what stands between binary operators: a quoted text, or the canonic text of the number that digits read; the
  -- value of a variable, or of a special variable; an operator and its operand; an expression in parentheses; a function and its arguments;
  -- a function of a variable, and what stands behind that; `$SELECT` and its choices; a function that is written in M: where it begins, and its
  -- actuals
  pub data Operand : Type 0 where
    Literal : (value : List ℕ) → Operand
    Value : (v : Variable) → Operand
    Intrinsic : (v : Special) → Operand
    Unary : (op : UnaryOp) (operand : Operand) → Operand
    Group : (e : Expr) → Operand
    Call : (f : Function) (arguments : Exprs) → Operand
    About : (f : NameFunction) (v : Variable) (others : Exprs) → Operand
    Select : (choices : Choices) → Operand
    Extrinsic : (target : Target) (actuals : Actuals) → Operand

  -- a local or a global, with its subscripts
  pub data Variable : Type 0 where
    Var : (scope : Scope) (word : List ℕ) (subscripts : Exprs) → Variable

  -- expressions, in order
  pub data Exprs : Type 0 where
    No : Exprs
    More : (e : Expr) (rest : Exprs) → Exprs

  -- conditions, each with the value that it leads to, in order
  pub data Choices : Type 0 where
    Last : (condition value : Expr) → Choices
    Before : (condition value : Expr) (others : Choices) → Choices

  -- actuals, in order, of which some may be left out. Parentheses with nothing in them are written as one that is left out
  pub data Actuals : Type 0 where
    NoActual : Actuals
    Given : (e : Expr) (rest : Actuals) → Actuals
    Omitted : (rest : Actuals) → Actuals

-- actuals that are kept in a list
abbrev pub as_actuals : List (Option Expr) → Actuals
as_actuals [] = NoActual
as_actuals (None ∷ es) = Omitted (as_actuals es)
as_actuals (Some e ∷ es) = Given e (as_actuals es)

-- what a value is assigned to: the value of a variable, or pieces of it, with a separator and perhaps the place of the first
-- piece and of the last
pub data Destination : Type 0 where
  Plain : (v : Variable) → Destination
  Pieces : (v : Variable) (arguments : Exprs) → Destination

-- one destination, or a list in parentheses
pub data Targets : Type 0 where
  One : (d : Destination) → Targets
  Several : (list : List Destination) → Targets

-- an argument of SET: destinations and the value that each gets
pub record Assignment : Type 0 where
  pub targets : Targets
  pub value : Expr

-- an argument of KILL: a variable with what is below it, or all locals but those of these names
pub data Killed : Type 0 where
  Gone : (v : Variable) → Killed
  Spared : (words : List (List ℕ)) → Killed

-- an argument of MERGE: what is copied into the first variable from the second
pub record Merged : Type 0 where
  pub into : Variable
  pub from : Variable

-- a format: a run of marks, and the column that is filled up to behind them, if there is one
pub record Layout : Type 0 where
  pub marks : List FormatMark
  pub column : Option Expr

-- an argument of WRITE: the text of an expression, a format, or the byte of a code
pub data Output : Type 0 where
  Shown : (e : Expr) → Output
  Format : (layout : Layout) → Output
  Coded : (code : Expr) → Output

-- what READ takes: a line or the code of a byte, the variable that gets it, and how long it may wait, if that is limited
pub record Received : Type 0 where
  pub mode : ReadMode
  pub variable : Variable
  pub timeout : Option Expr

-- an argument of READ: a text in quotes or a format, which are written, or what is taken
pub data Input : Type 0 where
  Prompted : (value : List ℕ) → Input
  Arranged : (layout : Layout) → Input
  Into : (r : Received) → Input

-- an argument of OPEN: the name of a device, and how long it may wait, if that is limited
pub record Opened : Type 0 where
  pub device : Expr
  pub timeout : Option Expr

-- an argument of DO: where to, the actuals, of which some may be left out, and its postcondition
pub record Called : Type 0 where
  pub target : Target
  pub actuals : List (Option Expr)
  pub condition : Option Expr

-- an argument of GOTO: where to, and its postcondition
pub record Jumped : Type 0 where
  pub target : Target
  pub condition : Option Expr

-- an argument of JOB: where it starts, the actuals, of which some may be left out, and how long it may wait, if that is limited
pub record Started : Type 0 where
  pub target : Target
  pub actuals : List (Option Expr)
  pub timeout : Option Expr

-- the names of an argument of LOCK, as variables: one, or a list in parentheses
pub data LockNames : Type 0 where
  Lone : (v : Variable) → LockNames
  Together : (list : List Variable) → LockNames

-- an argument of LOCK: whether it takes its names in the place of all that were held, takes them too, or gives them back, and how
-- long it may wait, if that is limited
pub record Locked : Type 0 where
  pub mode : LockMode
  pub names : LockNames
  pub timeout : Option Expr

-- what a FOR goes through: one value, or numbers by steps, without an end or up to one
pub data Range : Type 0 where
  Single : (v : Expr) → Range
  Endless : (from step : Expr) → Range
  UpTo : (from step end : Expr) → Range

-- an argument of NEW: the locals of a name, or all but those of some
pub data Renewed : Type 0 where
  Fresh : (word : List ℕ) → Renewed
  Kept : (words : List (List ℕ)) → Renewed

-- which locals a restart of a transaction restores: those of one name, those of a list of names, or all
pub data Restored : Type 0 where
  Alone : (word : List ℕ) → Restored
  Listed : (words : List (List ℕ)) → Restored
  Everything : Restored

-- the argument of TSTART, by which the transaction can be restarted: which locals that restores, and whether the transaction is SERIAL
pub record Restartable : Type 0 where
  pub restored : Restored
  pub serial : Serial

-- what a command does, with its arguments
pub data Command : Type 0 where
  Set : (arguments : List Assignment) → Command
  Write : (arguments : List Output) → Command
  Halt : Command
  Hang : (arguments : List Expr) → Command
  Job : (arguments : List Started) → Command
  Lock : (arguments : List Locked) → Command
  Kill : (arguments : List Killed) → Command
  Merge : (arguments : List Merged) → Command
  If : (conditions : List Expr) → Command
  Else : Command
  For : (v : Variable) (ranges : List Range) → Command
  Forever : Command
  Do : (arguments : List Called) → Command
  Goto : (arguments : List Jumped) → Command
  Quit : (value : Option Expr) → Command
  New : (arguments : List Renewed) → Command
  OpenDevice : (arguments : List Opened) → Command
  UseDevice : (arguments : List Expr) → Command
  CloseDevice : (arguments : List Expr) → Command
  Read : (arguments : List Input) → Command
  TStart : (argument : Option Restartable) → Command
  TCommit : Command
  TRestart : Command
  TRollback : Command
  Break : Command

-- a command with its postcondition, if it has one
pub record LineCommand : Type 0 where
  pub condition : Option Expr
  pub command : Command

-- a line: its label, a name or digits as they were spelled, its formals, its level, and its commands
pub record Line : Type 0 where
  pub label : Option (List ℕ)
  pub formals : List (List ℕ)
  pub level : ℕ
  pub steps : List LineCommand

-- a routine: its name and its lines, of which the first is line 1
pub record Routine : Type 0 where
  pub name : List ℕ
  pub lines : List Line
