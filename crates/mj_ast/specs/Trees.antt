-- The trees that the program keeps, without where they lie in memory.
use Rattle.std.specs.Prelude.{List, [], ◌∷◌, Option, Some, None, map, option_map}
use Rattle.mj_ast.specs.declared.expr.Expr as expr
use Rattle.mj_ast.specs.declared.expr.Tail as tail
use Rattle.mj_ast.specs.declared.expr.Operand as operand
use Rattle.mj_ast.specs.declared.expr.Variable as variable
use Rattle.mj_ast.specs.declared.expr.Choice as choice
use Rattle.mj_ast.specs.declared.expr.Actual as actual
use Rattle.mj_ast.specs.declared.routine.Destination as kept_destination
use Rattle.mj_ast.specs.declared.routine.Destination.TheVariants as destination
use Rattle.mj_ast.specs.declared.routine.Targets as kept_targets
use Rattle.mj_ast.specs.declared.routine.Targets.TheVariants as targets
use Rattle.mj_ast.specs.declared.routine.Assignment as assignment
use Rattle.mj_ast.specs.declared.routine.Killed as kept_killed
use Rattle.mj_ast.specs.declared.routine.Killed.TheVariants as killed
use Rattle.mj_ast.specs.declared.routine.Merged as merged
use Rattle.mj_ast.specs.declared.routine.Output as kept_output
use Rattle.mj_ast.specs.declared.routine.Output.TheVariants as output
use Rattle.mj_ast.specs.declared.routine.Layout as layout
use Rattle.mj_ast.specs.declared.routine.Received as received
use Rattle.mj_ast.specs.declared.routine.Input as kept_input
use Rattle.mj_ast.specs.declared.routine.Input.TheVariants as input
use Rattle.mj_ast.specs.declared.routine.Opened as opened
use Rattle.mj_ast.specs.declared.routine.Target as target
use Rattle.mj_ast.specs.declared.routine.Called as called
use Rattle.mj_ast.specs.declared.routine.Jumped as jumped
use Rattle.mj_ast.specs.declared.routine.Started as started
use Rattle.mj_ast.specs.declared.routine.LockNames as kept_names
use Rattle.mj_ast.specs.declared.routine.LockNames.TheVariants as names
use Rattle.mj_ast.specs.declared.routine.Locked as locked
use Rattle.mj_ast.specs.declared.routine.Range as kept_range
use Rattle.mj_ast.specs.declared.routine.Range.TheVariants as range
use Rattle.mj_ast.specs.declared.routine.Renewed as kept_renewed
use Rattle.mj_ast.specs.declared.routine.Renewed.TheVariants as renewed
use Rattle.mj_ast.specs.declared.routine.Restored as kept_restored
use Rattle.mj_ast.specs.declared.routine.Restored.TheVariants as restored
use Rattle.mj_ast.specs.declared.routine.Restartable as restartable
use Rattle.mj_ast.specs.declared.routine.Command as kept_command
use Rattle.mj_ast.specs.declared.routine.Command.TheVariants as command
use Rattle.mj_ast.specs.declared.routine.LineCommand as step
use Rattle.mj_ast.specs.declared.routine.Line as line
use Rattle.mj_ast.specs.declared.routine.Routine as routine
use Rattle.mj_ast.specs.Syntax.{Expr, Chain, Tails, Done, Then, Operand, Literal, Value, Unary, Group, Call, Select, Variable, Var, Exprs, No, More, Choices, Last, Before, Destination, Plain, Pieces, Targets, One, Several, Assignment, Killed, Gone, Spared, Merged, Layout, Output, Shown, Format, Coded, Received, Input, Prompted, Arranged, Into, Opened, Target, Called, Jumped, Started, LockNames, Lone, Together, Locked, Range, Single, Endless, UpTo, Renewed, Fresh, Kept, Restored, Alone, Listed, Everything, Restartable, Command, Set, Write, Halt, Hang, Job, Lock, Kill, Merge, If, Else, For, Forever, Do, Goto, Quit, New, OpenDevice, UseDevice, CloseDevice, Read, TStart, TCommit, TRestart, TRollback, Break, LineCommand, Line, Routine, About, Intrinsic, Extrinsic, Actuals, NoActual, Given, Omitted}

abbrev pub target_of : target.Target → Target
target_of t = record { label = t.label; routine = t.routine }

abbrev mutual
  pub operand_of : operand.Operand → Operand
  operand_of (operand.Literal t) = Literal t
  operand_of (operand.Variable v) = Value (variable_of v)
  operand_of (operand.Special v) = Intrinsic v
  operand_of (operand.Unary' op p x) = Unary op (operand_of x)
  operand_of (operand.Group' p e) = Group (expr_of e)
  operand_of (operand.Call' f shape row) = Call f (expr_row row)
  operand_of (operand.About' f v shape row) = About f (variable_of v) (expr_row row)
  operand_of (operand.Select' p choice) = Select (choice_of choice)
  operand_of (operand.Extrinsic' t shape row) = Extrinsic (target_of t) (actual_row row)

  pub choice_of : choice.Choice → Choices
  choice_of (choice.Choice' condition value choice.None') = Last (expr_of condition) (expr_of value)
  choice_of (choice.Choice' condition value (choice.Some' p others)) = Before (expr_of condition) (expr_of value) (choice_of others)

  pub expr_of : expr.Expr → Expr
  expr_of (expr.Expr' first shape row) = Chain (operand_of first) (tail_row row)

  pub variable_of : variable.Variable → Variable
  variable_of (variable.Variable' scope word shape row) = Var scope word (expr_row row)

  pub tail_row : {m : _} → expr.Row_of-Tail m → Tails
  tail_row expr.end_of-Tail = Done
  tail_row (expr.more_of-Tail op x rest) = Then op (operand_of x) (tail_row rest)

  pub expr_row : {m : _} → variable.Row_of-Expr m → Exprs
  expr_row variable.end_of-Expr = No
  expr_row (variable.more_of-Expr e rest) = More (expr_of e) (expr_row rest)

  pub actual_row : {m : _} → operand.Row_of-Actual m → Actuals
  actual_row operand.end_of-Actual = NoActual
  actual_row (operand.more_of-Actual a rest) = actual_before a (actual_row rest)

  pub actual_before : actual.Actual → Actuals → Actuals
  actual_before (actual.Given e) rest = Given (expr_of e) rest
  actual_before actual.Omitted rest = Omitted rest

-- operators and operands that are kept in a list
abbrev pub tails_of : List tail.Tail → Tails
tails_of [] = Done
tails_of (t ∷ ts) = Then t.op (operand_of t.operand) (tails_of ts)

-- expressions that are kept in a list
abbrev pub exprs_of : List expr.Expr → Exprs
exprs_of [] = No
exprs_of (e ∷ es) = More (expr_of e) (exprs_of es)

-- an actual, if it isn't left out
abbrev pub option_of : actual.Actual → Option Expr
option_of (actual.Given e) = Some (expr_of e)
option_of actual.Omitted = None

-- actuals that are kept in a list
abbrev pub actuals_of : List actual.Actual → Actuals
actuals_of [] = NoActual
actuals_of (a ∷ list) = actual_before a (actuals_of list)

abbrev pub destination_of : kept_destination.Destination → Destination
destination_of (destination.Whole v) = Plain (variable_of v)
destination_of (destination.Pieces v es) = Pieces (variable_of v) (exprs_of es.items)

abbrev pub targets_of : kept_targets.Targets → Targets
targets_of (targets.One d) = One (destination_of d)
targets_of (targets.Several list) = Several (map destination_of list.items)

abbrev pub assignment_of : assignment.Assignment → Assignment
assignment_of a = record { targets = targets_of a.targets; value = expr_of a.value }

abbrev pub killed_of : kept_killed.Killed → Killed
killed_of (killed.Tree v) = Gone (variable_of v)
killed_of (killed.Except words) = Spared words.items

abbrev pub merged_of : merged.Merged → Merged
merged_of m = record { into = variable_of m.into; from = variable_of m.from }

abbrev pub layout_of : layout.Layout → Layout
layout_of l = record { marks = l.marks.items; column = option_map expr_of l.column }

abbrev pub output_of : kept_output.Output → Output
output_of (output.Value e) = Shown (expr_of e)
output_of (output.Format l) = Format (layout_of l)
output_of (output.Code e) = Coded (expr_of e)

abbrev pub received_of : received.Received → Received
received_of r = record { mode = r.mode; variable = variable_of r.variable; timeout = option_map expr_of r.timeout }

abbrev pub input_of : kept_input.Input → Input
input_of (input.Prompt value) = Prompted value
input_of (input.Format l) = Arranged (layout_of l)
input_of (input.Into r) = Into (received_of r)

abbrev pub opened_of : opened.Opened → Opened
opened_of o = record { device = expr_of o.device; timeout = option_map expr_of o.timeout }

abbrev pub called_of : called.Called → Called
called_of c = record { target = target_of c.target; actuals = map option_of c.actuals.items; condition = option_map expr_of c.condition }

abbrev pub jumped_of : jumped.Jumped → Jumped
jumped_of j = record { target = target_of j.target; condition = option_map expr_of j.condition }

abbrev pub started_of : started.Started → Started
started_of s = record { target = target_of s.target; actuals = map option_of s.actuals.items; timeout = option_map expr_of s.timeout }

abbrev pub lock_names_of : kept_names.LockNames → LockNames
lock_names_of (names.One v) = Lone (variable_of v)
lock_names_of (names.Several list) = Together (map variable_of list.items)

abbrev pub locked_of : locked.Locked → Locked
locked_of l = record { mode = l.mode; names = lock_names_of l.names; timeout = option_map expr_of l.timeout }

abbrev pub range_of : kept_range.Range → Range
range_of (range.One a) = Single (expr_of a)
range_of (range.Endless a b) = Endless (expr_of a) (expr_of b)
range_of (range.UpTo a b c) = UpTo (expr_of a) (expr_of b) (expr_of c)

abbrev pub renewed_of : kept_renewed.Renewed → Renewed
renewed_of (renewed.Name word) = Fresh word
renewed_of (renewed.Except words) = Kept words.items

abbrev pub restored_of : kept_restored.Restored → Restored
restored_of (restored.One word) = Alone word
restored_of (restored.Several words) = Listed words.items
restored_of restored.All = Everything

abbrev pub restartable_of : restartable.Restartable → Restartable
restartable_of r = record { restored = restored_of r.restored; serial = r.serial }

abbrev pub command_of : kept_command.Command → Command
command_of (command.Set v) = Set (map assignment_of v.items)
command_of (command.Write v) = Write (map output_of v.items)
command_of command.Halt = Halt
command_of (command.Hang v) = Hang (map expr_of v.items)
command_of (command.Job v) = Job (map started_of v.items)
command_of (command.Lock v) = Lock (map locked_of v.items)
command_of (command.Kill v) = Kill (map killed_of v.items)
command_of (command.Merge v) = Merge (map merged_of v.items)
command_of (command.If v) = If (map expr_of v.items)
command_of command.Else = Else
command_of (command.For x v) = For (variable_of x) (map range_of v.items)
command_of command.Forever = Forever
command_of (command.Do v) = Do (map called_of v.items)
command_of (command.Goto v) = Goto (map jumped_of v.items)
command_of (command.Quit value) = Quit (option_map expr_of value)
command_of (command.New v) = New (map renewed_of v.items)
command_of (command.Open v) = OpenDevice (map opened_of v.items)
command_of (command.Use v) = UseDevice (map expr_of v.items)
command_of (command.Close v) = CloseDevice (map expr_of v.items)
command_of (command.Read v) = Read (map input_of v.items)
command_of (command.TStart a) = TStart (option_map restartable_of a)
command_of command.TCommit = TCommit
command_of command.TRestart = TRestart
command_of command.TRollback = TRollback
command_of command.Break = Break

abbrev pub step_of : step.LineCommand → LineCommand
step_of s = record { condition = option_map expr_of s.condition; command = command_of s.command }

abbrev pub line_of : line.Line → Line
line_of l = record { label = l.label; formals = l.formals.items; level = l.level; steps = map step_of l.steps.items }

abbrev pub routine_of : routine.Routine → Routine
routine_of r = record { name = r.name; lines = map line_of r.lines.items }
