-- Which of the parts of a routine may cross threads: an expression's by the knot that rattle ties for their cycle, the others' by their fields.
use denote.Param.Send.{IsSync, plain_sync, view_sync}
use denote.Hole.{as_row}
use denote.Struct.Field.{usize-field}
use denote.Param.SendFields.{declared_sync, variants_sync, as_row_sync}
use Rattle.std.proofs.Crossing.{Box-sync, Vec-sync}
use Rattle.std.proofs.option.Option.TheSendSync as option
use Rattle.mj_pcode.proofs.instr.Unit.TheSendSync as unit
use Rattle.mj_ask.proofs.bounds.Bounds.TheSendSync as bounds
use Rattle.mj_compact.proofs.table.Compact.TheSendSync as compact
use Rattle.mj_load.specs.contracts.image.Image as Image
use Rattle.mj_text.specs.contracts.text.Text as Text
use Rattle.mj_text.proofs.text.Text.TheSendSync as text
use Rattle.mj_oper.proofs.op.Op.TheSendSync as op
use Rattle.mj_oper.proofs.op.UnaryOp.TheSendSync as unary
use Rattle.mj_ast.proofs.expr.Scope.TheSendSync as scope
use Rattle.mj_ast.proofs.function.Function.TheSendSync as function
use Rattle.mj_ast.proofs.function.NameFunction.TheSendSync as named
use Rattle.mj_ast.proofs.function.Special.TheSendSync as special
use Rattle.mj_ast.proofs.expr.Actual.TheLaws.TheKnot as knot
use Rattle.mj_ast.specs.contracts.expr.Expr as Expr
use Rattle.mj_ast.specs.contracts.expr.Variable as Variable
use Rattle.mj_ast.specs.contracts.expr.Actual as Actual
use Rattle.mj_ast.proofs.routine.FormatMark.TheSendSync as FormatMark
use Rattle.mj_ast.proofs.routine.ReadMode.TheSendSync as ReadMode
use Rattle.mj_ast.proofs.routine.LockMode.TheSendSync as LockMode
use Rattle.mj_ast.proofs.routine.Target.TheSendSync as Target
use Rattle.mj_ast.proofs.routine.Renewed.TheSendSync as Renewed
use Rattle.mj_ast.proofs.routine.Restartable.TheSendSync as Restartable
use Rattle.mj_ast.specs.contracts.routine.Destination as Destination
use Rattle.mj_ast.specs.contracts.routine.Targets as Targets
use Rattle.mj_ast.specs.contracts.routine.Assignment as Assignment
use Rattle.mj_ast.specs.contracts.routine.Killed as Killed
use Rattle.mj_ast.specs.contracts.routine.Merged as Merged
use Rattle.mj_ast.specs.contracts.routine.Layout as Layout
use Rattle.mj_ast.specs.contracts.routine.Output as Output
use Rattle.mj_ast.specs.contracts.routine.Received as Received
use Rattle.mj_ast.specs.contracts.routine.Input as Input
use Rattle.mj_ast.specs.contracts.routine.Opened as Opened
use Rattle.mj_ast.specs.contracts.routine.Called as Called
use Rattle.mj_ast.specs.contracts.routine.Jumped as Jumped
use Rattle.mj_ast.specs.contracts.routine.Started as Started
use Rattle.mj_ast.specs.contracts.routine.LockNames as LockNames
use Rattle.mj_ast.specs.contracts.routine.Locked as Locked
use Rattle.mj_ast.specs.contracts.routine.Range as Range
use Rattle.mj_ast.specs.contracts.routine.Command as Command
use Rattle.mj_ast.specs.contracts.routine.LineCommand as LineCommand
use Rattle.mj_ast.specs.contracts.routine.Line as Line
use Rattle.mj_ast.specs.contracts.routine.Routine as Routine

ruleset leaves = (
  Box-sync,
  Vec-sync,
  option.the_sync,
  text.the_sync,
  op.the_field_sync,
  unary.the_field_sync,
  scope.the_field_sync,
  function.the_field_sync,
  named.the_field_sync,
  special.the_field_sync,
  Target.the_field_sync,
)

pub expr_sync : IsSync Expr.the_row
expr_sync = as_row_sync Expr.the_field (search (knot.sync-Expr, leaves))

pub variable_sync : IsSync Variable.the_row
variable_sync = as_row_sync Variable.the_field (search (knot.sync-Variable, leaves))

pub actual_sync : IsSync Actual.the_row
actual_sync = as_row_sync Actual.the_field (search (knot.sync-Actual, leaves))

pub text_sync : IsSync (as_row Text.the_field)
text_sync = as_row_sync Text.the_field text.the_sync

level_sync : IsSync (as_row usize-field)
level_sync = as_row_sync usize-field (search plain_sync)

ruleset parts = (
  tt,
  declared_sync,
  variants_sync,
  text_sync,
  level_sync,
  Vec-sync,
  option.the_sync,
  text.the_sync,
  expr_sync,
  variable_sync,
  actual_sync,
  FormatMark.the_sync,
  ReadMode.the_sync,
  LockMode.the_sync,
  Target.the_sync,
  Renewed.the_sync,
  Restartable.the_sync,
)

pub destination_sync : IsSync Destination.the_row
destination_sync = search parts depth 40

pub targets_sync : IsSync Targets.the_row
targets_sync = search (destination_sync, parts) depth 40

pub assignment_sync : IsSync Assignment.the_row
assignment_sync = search (targets_sync, parts) depth 40

pub killed_sync : IsSync Killed.the_row
killed_sync = search parts depth 40

pub merged_sync : IsSync Merged.the_row
merged_sync = search parts depth 40

pub layout_sync : IsSync Layout.the_row
layout_sync = search parts depth 40

pub output_sync : IsSync Output.the_row
output_sync = search (layout_sync, parts) depth 40

pub received_sync : IsSync Received.the_row
received_sync = search parts depth 40

pub input_sync : IsSync Input.the_row
input_sync = search (layout_sync, received_sync, parts) depth 40

pub opened_sync : IsSync Opened.the_row
opened_sync = search parts depth 40

pub called_sync : IsSync Called.the_row
called_sync = search parts depth 40

pub jumped_sync : IsSync Jumped.the_row
jumped_sync = search parts depth 40

pub started_sync : IsSync Started.the_row
started_sync = search parts depth 40

pub lock_names_sync : IsSync LockNames.the_row
lock_names_sync = search parts depth 40

pub locked_sync : IsSync Locked.the_row
locked_sync = search (lock_names_sync, parts) depth 40

pub range_sync : IsSync Range.the_row
range_sync = search parts depth 40

pub command_sync : IsSync Command.the_row
command_sync = search (assignment_sync, output_sync, started_sync, locked_sync, killed_sync, merged_sync, range_sync, called_sync, jumped_sync, opened_sync, input_sync, parts) depth 40 fits 100000

pub line_command_sync : IsSync LineCommand.the_row
line_command_sync = search (command_sync, parts) depth 40

pub line_sync : IsSync Line.the_row
line_sync = search (line_command_sync, parts) depth 40

pub routine_sync : IsSync Routine.the_row
routine_sync = search (line_sync, parts) depth 40

pub image_sync : IsSync Image.the_row
image_sync = search (view_sync, routine_sync, unit.the_sync, compact.the_sync, bounds.the_sync, parts) depth 40
