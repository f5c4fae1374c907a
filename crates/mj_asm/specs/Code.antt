-- The instructions of each piece of a routine.
use Rattle.std.specs.Prelude.{ℕ, ◌+◌, List, [], ◌∷◌, ◌++◌, Option, Some, None, Bool, true, false, length, map}
use Rattle.mj_ast.specs.Syntax.{Expr, Chain, Tails, Done, Then, Operand, Literal, Value, Intrinsic, Unary, Group, Call, Select, Variable, Var, Exprs, No, More, Choices, Last, Before, Destination, Plain, Pieces, Targets, One, Several, Assignment, Killed, Gone, Spared, Merged, Output, Shown, Format, Coded, Called, Jumped, Started, LockNames, Lone, Together, Locked, Opened, Received, Input, Prompted, Arranged, Into, Range, Single, Endless, UpTo, Renewed, Fresh, Kept, Restored, Alone, Listed, Everything, Restartable, Command, Set, Write, Halt, Hang, Job, Lock, OpenDevice, UseDevice, CloseDevice, Read, Kill, Merge, If, Else, For, Forever, Do, Goto, Quit, New, TStart, TCommit, TRestart, TRollback, Break, LineCommand, Line, About, Extrinsic, Target, Actuals, NoActual, Given, Omitted, as_actuals}
use Rattle.mj_ast.specs.declared.routine.Target as kept
use Rattle.mj_ast.specs.declared.routine.FormatMark.{FormatMark}
use Rattle.mj_ast.specs.declared.routine.ReadMode.{ReadMode}
use Rattle.mj_ast.specs.declared.routine.LockMode.{LockMode}
use Rattle.mj_ast.specs.declared.routine.LockMode.TheVariants.{Whole, Plus, Minus}
use Rattle.mj_semantics.specs.Lines.{Here, next_line, entry_of}
use Rattle.mj_semantics.specs.Transactions.{listed_by, serial_by}
use Rattle.mj_pcode.specs.declared.instr.Reference.{Reference}
use Rattle.mj_pcode.specs.declared.instr.Depth.{Depth}
use Rattle.mj_pcode.specs.declared.instr.Span.TheVariants as span
use Rattle.mj_pcode.specs.declared.instr.Wait.{Wait}
use Rattle.mj_pcode.specs.declared.instr.Wait.TheVariants.{Ever, Timed}
use Rattle.mj_pcode.specs.declared.instr.Restores.{Restores}
use Rattle.mj_pcode.specs.declared.instr.Restores.TheVariants as restores
use Rattle.mj_pcode.specs.declared.instr.Instr.{Instr}
use Rattle.mj_pcode.specs.declared.instr.Instr.TheVariants as instr

-- how many expressions
abbrev pub count : Exprs → ℕ
count No = 0
count (More e es) = count es + 1

-- a variable, once the values of its subscripts lie on the stack
abbrev pub reference : Variable → Reference
reference (Var scope word es) = record { scope = scope; word = word; count = count es }

-- which actuals are given
abbrev pub shape_of : Actuals → List Bool
shape_of NoActual = []
shape_of (Given e es) = true ∷ shape_of es
shape_of (Omitted es) = false ∷ shape_of es

-- parentheses with nothing in them are one actual that is left out, and pass none
abbrev pub plain_shape : List Bool → List Bool
plain_shape (false ∷ []) = []
plain_shape shape = shape

-- where a function begins, as an instruction keeps it
abbrev pub kept_target : Target → kept.Target
kept_target t = record { label = t.label; routine = t.routine }

-- what begins at pc: each piece knows where it stands, as jumps lead to numbers of instructions
abbrev mutual
  pub expr_code : ℕ → Expr → List Instr
  expr_code pc (Chain x ts) = operand_code pc x ++ tails_code (pc + length (operand_code pc x)) ts

  pub tails_code : ℕ → Tails → List Instr
  tails_code pc Done = []
  tails_code pc (Then op x ts) = operand_code pc x ++ instr.Binary op ∷ tails_code (pc + length (operand_code pc x) + 1) ts

  pub operand_code : ℕ → Operand → List Instr
  operand_code pc (Literal t) = instr.Push t ∷ []
  operand_code pc (Value v) = subscripts_code pc v ++ instr.Load (reference v) ∷ []
  operand_code pc (Intrinsic v) = instr.PushSpecial v ∷ []
  operand_code pc (Unary op x) = operand_code pc x ++ instr.Unary op ∷ []
  operand_code pc (Group e) = expr_code pc e
  operand_code pc (Call f es) = exprs_code pc es ++ instr.CallFunction f (count es) ∷ []
  operand_code pc (About f v es) =
      subscripts_code pc v ++ instr.CheckNamed f (reference v)
      ∷ (exprs_code (pc + length (subscripts_code pc v) + 1) es ++ instr.CallNameFunction f (reference v) ((reference v).count + count es) ∷ [])
  operand_code pc (Select choices) = choices_code pc choices
  operand_code pc (Extrinsic t es) = actuals_code pc es ++ instr.Invoke (kept_target t) (plain_shape (shape_of es)) ∷ []

  pub subscripts_code : ℕ → Variable → List Instr
  subscripts_code pc (Var scope word es) = exprs_code pc es

  pub exprs_code : ℕ → Exprs → List Instr
  exprs_code pc No = []
  exprs_code pc (More e es) = expr_code pc e ++ exprs_code (pc + length (expr_code pc e)) es

  -- actuals, of which those that are given have code
  pub actuals_code : ℕ → Actuals → List Instr
  actuals_code pc NoActual = []
  actuals_code pc (Given e es) = expr_code pc e ++ actuals_code (pc + length (expr_code pc e)) es
  actuals_code pc (Omitted es) = actuals_code pc es

  -- a condition, its value behind a test, a jump past the others, and these
  pub choices_code : ℕ → Choices → List Instr
  choices_code pc (Last c e) =
      let value = pc + length (expr_code pc c) + 1 in
      let others = value + length (expr_code value e) + 1 in
      expr_code pc c ++ instr.JumpUnless others ∷ (expr_code value e ++ instr.Jump (others + 1) ∷ instr.SelectFails ∷ [])
  choices_code pc (Before c e rest) =
      let value = pc + length (expr_code pc c) + 1 in
      let others = value + length (expr_code value e) + 1 in
      expr_code pc c ++ instr.JumpUnless others ∷ (expr_code value e ++ instr.Jump (others + length (choices_code others rest)) ∷ choices_code others rest)

-- what stands behind the jump of the first choice
abbrev pub others_code : ℕ → Choices → List Instr
others_code pc (Last c e) = instr.SelectFails ∷ []
others_code pc (Before c e rest) = choices_code pc rest

-- how many operands a destination is: its subscripts, and its arguments
abbrev pub size : Destination → ℕ
size (Plain v) = (reference v).count
size (Pieces v es) = (reference v).count + count es

abbrev pub sizes : List Destination → ℕ
sizes [] = 0
sizes (d ∷ list) = size d + sizes list

-- a name that is looked at once its subscripts have their values, and then of pieces the arguments
abbrev pub destination_code : ℕ → Destination → List Instr
destination_code pc (Plain v) = subscripts_code pc v ++ instr.CheckName (reference v) ∷ []
destination_code pc (Pieces v es) =
    subscripts_code pc v ++ instr.CheckName (reference v) ∷ exprs_code (pc + length (subscripts_code pc v) + 1) es

abbrev pub destinations_code : ℕ → List Destination → List Instr
destinations_code pc [] = []
destinations_code pc (d ∷ list) = destination_code pc d ++ destinations_code (pc + length (destination_code pc d)) list

-- the assignment of the topmost operand, at a depth
abbrev pub store_code : Destination → Depth → List Instr
store_code (Plain v) depth = instr.Store (reference v) depth ∷ []
store_code (Pieces v es) depth =
    instr.SetPiece (reference v) (count es) depth
    ∷ instr.Store (reference v) (record { above = depth.above + count es + 1; taken = depth.taken + 1 }) ∷ []

-- the assignments of a list: above the operands of each lie those of the later ones, and the value
abbrev pub stores_code : List Destination → List Instr
stores_code [] = []
stores_code (d ∷ list) = store_code d (record { above = sizes list + 1; taken = 0 }) ++ stores_code list

-- destinations, then the value, then the assignments
abbrev pub targets_code : ℕ → Targets → Expr → List Instr
targets_code pc (One d) e =
    destination_code pc d
    ++ (expr_code (pc + length (destination_code pc d)) e ++ store_code d (record { above = 1; taken = size d + 1 }))
targets_code pc (Several list) e =
    destinations_code pc list
    ++ (expr_code (pc + length (destinations_code pc list)) e ++ (stores_code list ++ instr.Discard (sizes list + 1) ∷ []))

abbrev pub assignment_code : ℕ → Assignment → List Instr
assignment_code pc a = targets_code pc a.targets a.value

abbrev pub assignments_code : ℕ → List Assignment → List Instr
assignments_code pc [] = []
assignments_code pc (a ∷ list) = assignment_code pc a ++ assignments_code (pc + length (assignment_code pc a)) list

-- a format, of which the column has its value first
abbrev pub format_code : ℕ → List FormatMark → Option Expr → List Instr
format_code pc marks None = instr.WriteFormat marks ∷ []
format_code pc marks (Some e) = expr_code pc e ++ instr.WriteTab marks ∷ []

abbrev pub output_code : ℕ → Output → List Instr
output_code pc (Shown e) = expr_code pc e ++ instr.Write ∷ []
output_code pc (Format l) = format_code pc l.marks l.column
output_code pc (Coded e) = expr_code pc e ++ instr.WriteByte ∷ []

abbrev pub outputs_code : ℕ → List Output → List Instr
outputs_code pc [] = []
outputs_code pc (o ∷ list) = output_code pc o ++ outputs_code (pc + length (output_code pc o)) list

-- an instruction that does nothing for each name of a list
abbrev pub names_code : List (List ℕ) → List Instr
names_code [] = []
names_code (word ∷ words) = instr.Discard 0 ∷ names_code words

-- a name that goes is looked at once its subscripts have their values
abbrev pub kill_code : ℕ → Killed → List Instr
kill_code pc (Gone v) = subscripts_code pc v ++ instr.CheckName (reference v) ∷ instr.Kill (reference v) ∷ []
kill_code pc (Spared words) = names_code words ++ instr.KillExcept words ∷ []

abbrev pub kills_code : ℕ → List Killed → List Instr
kills_code pc [] = []
kills_code pc (k ∷ list) = kill_code pc k ++ kills_code (pc + length (kill_code pc k)) list

-- without arguments all locals go
abbrev pub kill_all_code : ℕ → List Killed → List Instr
kill_all_code pc [] = instr.KillExcept [] ∷ []
kill_all_code pc (k ∷ list) = kills_code pc (k ∷ list)

-- the name to which is looked at before the name from which
abbrev pub merge_code : ℕ → Merged → List Instr
merge_code pc m =
    subscripts_code pc m.into
    ++ instr.CheckName (reference m.into)
    ∷ (subscripts_code (pc + length (subscripts_code pc m.into) + 1) m.from
    ++ instr.MergeTake (reference m.into) (reference m.from) ∷ instr.MergePut (reference m.into) ∷ [])

abbrev pub merges_code : ℕ → List Merged → List Instr
merges_code pc [] = []
merges_code pc (m ∷ list) = merge_code pc m ++ merges_code (pc + length (merge_code pc m)) list

-- NEW, an argument; a list of names takes an instruction for each
abbrev pub set_piece_code : Renewed → List Instr
set_piece_code (Fresh word) = instr.New (word ∷ []) ∷ []
set_piece_code (Kept words) = names_code words ++ instr.NewExcept words ∷ []

abbrev pub news_code : List Renewed → List Instr
news_code [] = []
news_code (r ∷ list) = set_piece_code r ++ news_code list

-- without arguments it is all locals
abbrev pub new_all_code : List Renewed → List Instr
new_all_code [] = instr.NewExcept [] ∷ []
new_all_code (r ∷ list) = news_code (r ∷ list)

-- how long an argument may wait: a number, which is looked at
abbrev pub timeout_code : ℕ → Option Expr → List Instr
timeout_code pc None = []
timeout_code pc (Some e) = expr_code pc e ++ instr.CheckNumber ∷ []

abbrev pub wait_of : Option Expr → Wait
wait_of None = Ever
wait_of (Some e) = Timed

-- an argument of HANG
abbrev pub hang_code : ℕ → Expr → List Instr
hang_code pc e = expr_code pc e ++ instr.Hang ∷ []

abbrev pub hangs_code : ℕ → List Expr → List Instr
hangs_code pc [] = []
hangs_code pc (e ∷ es) = hang_code pc e ++ hangs_code (pc + length (hang_code pc e)) es

-- an argument of JOB, in a line that stands here: its actuals, and then its timeout
abbrev pub start_code : Here → ℕ → Started → List Instr
start_code here pc s =
    let actuals = as_actuals s.actuals in
    let wait = pc + length (actuals_code pc actuals) in
    actuals_code pc actuals
    ++ (timeout_code wait s.timeout ++ instr.StartJob (entry_of here s.target) (shape_of actuals) (wait_of s.timeout) ∷ [])

abbrev pub jobs_code : Here → ℕ → List Started → List Instr
jobs_code here pc [] = []
jobs_code here pc (s ∷ list) = start_code here pc s ++ jobs_code here (pc + length (start_code here pc s)) list

-- a name that is looked at once its subscripts have their values
abbrev pub name_code : ℕ → Variable → List Instr
name_code pc v = subscripts_code pc v ++ instr.CheckName (reference v) ∷ []

abbrev pub variables_code : ℕ → List Variable → List Instr
variables_code pc [] = []
variables_code pc (v ∷ vs) = name_code pc v ++ variables_code (pc + length (name_code pc v)) vs

-- the variables of an argument of LOCK
abbrev pub lock_variables : LockNames → List Variable
lock_variables (Lone v) = v ∷ []
lock_variables (Together vs) = vs

-- what is asked once the names lie on the stack, and above them the timeout
abbrev pub taking_code : LockMode → List Reference → Wait → List Instr
taking_code Whole rs w = instr.UnlockAll ∷ instr.Lock rs w ∷ []
taking_code Plus rs w = instr.Lock rs w ∷ []
taking_code Minus rs w = instr.Unlock rs w ∷ []

-- an argument of LOCK: its names, and then its timeout
abbrev pub lock_code : ℕ → Locked → List Instr
lock_code pc l =
    let vs = lock_variables l.names in
    let wait = pc + length (variables_code pc vs) in
    variables_code pc vs ++ (timeout_code wait l.timeout ++ taking_code l.mode (map reference vs) (wait_of l.timeout))

abbrev pub locks_code : ℕ → List Locked → List Instr
locks_code pc [] = []
locks_code pc (l ∷ list) = lock_code pc l ++ locks_code (pc + length (lock_code pc l)) list

-- without arguments all names are given up
abbrev pub lock_all_code : ℕ → List Locked → List Instr
lock_all_code pc [] = instr.UnlockAll ∷ []
lock_all_code pc (l ∷ list) = locks_code pc (l ∷ list)

-- an argument of OPEN: the name of its device, and then its timeout; the session begins where the job gets the device
abbrev pub open_code : ℕ → Opened → List Instr
open_code pc o =
    let wait = pc + length (expr_code pc o.device) in
    expr_code pc o.device ++ (timeout_code wait o.timeout ++ instr.OpenDevice (wait_of o.timeout) ∷ instr.BeginSession ∷ [])

abbrev pub opens_code : ℕ → List Opened → List Instr
opens_code pc [] = []
opens_code pc (o ∷ list) = open_code pc o ++ opens_code (pc + length (open_code pc o)) list

abbrev pub use_code : ℕ → Expr → List Instr
use_code pc e = expr_code pc e ++ instr.UseDevice ∷ []

abbrev pub uses_code : ℕ → List Expr → List Instr
uses_code pc [] = []
uses_code pc (e ∷ es) = use_code pc e ++ uses_code (pc + length (use_code pc e)) es

-- an argument of CLOSE: the session ends, and the device is given up where that failed, or where it didn't
abbrev pub close_code : ℕ → Expr → List Instr
close_code pc e = expr_code pc e ++ instr.EndSession ∷ instr.GiveUpFailedDevice ∷ instr.GiveUpDevice ∷ []

abbrev pub closes_code : ℕ → List Expr → List Instr
closes_code pc [] = []
closes_code pc (e ∷ es) = close_code pc e ++ closes_code (pc + length (close_code pc e)) es

-- what is read, and where it goes: the subscripts of a variable lie below it
abbrev pub taken_code : ReadMode → Wait → Reference → List Instr
taken_code m w r = instr.Read m w ∷ instr.Store r (record { above = 1; taken = r.count + 1 }) ∷ []

-- the variable that READ gives its value, and then the timeout
abbrev pub receive_code : ℕ → Received → List Instr
receive_code pc r =
    let wait = pc + length (name_code pc r.variable) in
    name_code pc r.variable ++ (timeout_code wait r.timeout ++ taken_code r.mode (wait_of r.timeout) (reference r.variable))

-- an argument of READ
abbrev pub input_code : ℕ → Input → List Instr
input_code pc (Prompted text) = instr.Push text ∷ instr.Write ∷ []
input_code pc (Arranged l) = format_code pc l.marks l.column
input_code pc (Into r) = receive_code pc r

abbrev pub inputs_code : ℕ → List Input → List Instr
inputs_code pc [] = []
inputs_code pc (i ∷ list) = input_code pc i ++ inputs_code (pc + length (input_code pc i)) list

-- code that begins at pc, behind a postcondition, which leads past it
abbrev pub code_if : ℕ → Option Expr → (ℕ → List Instr) → List Instr
code_if pc None code = code pc
code_if pc (Some e) code =
    let behind = pc + length (expr_code pc e) + 1 in
    expr_code pc e ++ instr.JumpUnless (behind + length (code behind)) ∷ code behind

-- an argument of DO, in a line that stands here
abbrev pub call_code : Here → Called → ℕ → List Instr
call_code here c pc =
    actuals_code pc (as_actuals c.actuals) ++ instr.Do (entry_of here c.target) (shape_of (as_actuals c.actuals)) ∷ []

abbrev pub calls_code : Here → ℕ → List Called → List Instr
calls_code here pc [] = []
calls_code here pc (c ∷ list) =
    let one = code_if pc c.condition (call_code here c) in
    one ++ calls_code here (pc + length one) list

-- without arguments it is the block
abbrev pub do_code : Here → ℕ → List Called → List Instr
do_code here pc [] = instr.DoBlock here.line ∷ []
do_code here pc (c ∷ list) = calls_code here pc (c ∷ list)

abbrev pub jump_code : Here → Jumped → ℕ → List Instr
jump_code here j pc = instr.Goto (entry_of here j.target) ∷ []

abbrev pub jumps_code : Here → ℕ → List Jumped → List Instr
jumps_code here pc [] = []
jumps_code here pc (j ∷ list) =
    let one = code_if pc j.condition (jump_code here j) in
    one ++ jumps_code here (pc + length one) list

-- QUIT of the frame, or of the FOR that is closed at an instruction. With a value it looks whether the frame is a function's before the value; in a
-- FOR it may have none
abbrev pub quit_code : ℕ → Option ℕ → Option Expr → List Instr
quit_code pc None None = instr.Quit ∷ []
quit_code pc (Some close) None = instr.Jump close ∷ []
quit_code pc None (Some e) = instr.CheckFunction ∷ (expr_code (pc + 1) e ++ instr.GiveValue ∷ [])
quit_code pc (Some close) (Some e) = instr.FailQuit ∷ []

-- the conditions of an IF, behind which stands the rest of the line, each with a test that leads to the end of the whole
abbrev pub ifs_code : ℕ → List Expr → (ℕ → List Instr) → List Instr
ifs_code pc [] rest = rest pc
ifs_code pc (e ∷ es) rest =
    let behind = pc + length (expr_code pc e) + 1 in
    expr_code pc e ++ instr.SetTest (behind + length (ifs_code behind es rest)) ∷ ifs_code behind es rest

-- without arguments it is by `$TEST`
abbrev pub if_code : ℕ → List Expr → (ℕ → List Instr) → List Instr
if_code pc [] rest = instr.JumpUnlessTest (pc + 1 + length (rest (pc + 1))) ∷ rest (pc + 1)
if_code pc (e ∷ es) rest = ifs_code pc (e ∷ es) rest

-- ELSE: a test that leads to the end of the rest of the line
abbrev pub else_code : ℕ → (ℕ → List Instr) → List Instr
else_code pc rest = instr.JumpIfTest (pc + 1 + length (rest (pc + 1))) ∷ rest (pc + 1)

-- what a FOR goes through
abbrev pub range_code : ℕ → Range → List Instr
range_code pc (Single a) = expr_code pc a ++ instr.ForBegin span.One ∷ []
range_code pc (Endless a b) =
    expr_code pc a ++ (expr_code (pc + length (expr_code pc a)) b ++ instr.ForBegin span.Endless ∷ [])
range_code pc (UpTo a b c) =
    let second = pc + length (expr_code pc a) in
    let third = second + length (expr_code second b) in
    expr_code pc a ++ (expr_code second b ++ (expr_code third c ++ instr.ForBegin span.UpTo ∷ []))

abbrev pub ranges_code : ℕ → List Range → List Instr
ranges_code pc [] = []
ranges_code pc (r ∷ rs) = range_code pc r ++ ranges_code (pc + length (range_code pc r)) rs

-- passes of a FOR behind its ranges: the instruction that closes it, at this place, and the rest of the line, which ends with the
-- next pass
abbrev pub body_code : ℕ → (ℕ → Option ℕ → List Instr) → List Instr
body_code close rest =
    instr.ForClose (close + 1 + length (rest (close + 1) (Some close)) + 1) ∷ (rest (close + 1) (Some close) ++ instr.ForAgain ∷ [])

abbrev pub subscript_exprs : Variable → Exprs
subscript_exprs (Var scope word es) = es

-- FOR: the subscripts of its local, its ranges, and its passes
abbrev pub for_code : ℕ → Variable → List Range → (ℕ → Option ℕ → List Instr) → List Instr
for_code pc v rs rest =
    let first = pc + length (subscripts_code pc v) + 1 in
    let close = first + length (ranges_code first rs) in
    subscripts_code pc v ++ instr.ForOpen (reference v).word (reference v).count (close + 1) ∷ (ranges_code first rs ++ body_code close rest)

-- the names of a list of them
abbrev pub listed_of : Restored → List (List ℕ)
listed_of (Alone word) = []
listed_of (Listed words) = words
listed_of Everything = []

-- which locals a restart restores
abbrev pub restores_of : Restored → Restores
restores_of (Alone word) = restores.Only (word ∷ [])
restores_of (Listed words) = restores.Only words
restores_of Everything = restores.All

abbrev pub restores_by : Option Restartable → Restores
restores_by None = restores.Never
restores_by (Some r) = restores_of r.restored

-- a transaction begins, and a restart goes on at the second instruction, which stands behind the outermost TSTART alone
abbrev pub begin_code : Restores → Bool → List Instr
begin_code r serial = instr.StartTransaction r serial ∷ instr.MarkRestart ∷ []

-- TSTART: a list of names takes an instruction for each
abbrev pub transaction_code : Option Restartable → List Instr
transaction_code a = names_code (listed_by a) ++ begin_code (restores_by a) (serial_by a)

-- TCOMMIT: a clash leads to a restart
abbrev pub commit_code : List Instr
commit_code = instr.Commit ∷ instr.BeginRestart ∷ []

abbrev pub restart_code : List Instr
restart_code = instr.RollBackForRestart ∷ instr.BeginRestart ∷ []

-- a command without its postcondition, in a FOR that is closed at an instruction, or in none. IF, ELSE and FOR have the rest of
-- their line in their code
abbrev pub command_code : Here → ℕ → Option ℕ → Command → List Instr
command_code here pc out (Set list) = assignments_code pc list
command_code here pc out (Write list) = outputs_code pc list
command_code here pc out Halt = instr.Halt ∷ []
command_code here pc out (Hang es) = hangs_code pc es
command_code here pc out (Job list) = jobs_code here pc list
command_code here pc out (Lock list) = lock_all_code pc list
command_code here pc out (OpenDevice list) = opens_code pc list
command_code here pc out (UseDevice es) = uses_code pc es
command_code here pc out (CloseDevice es) = closes_code pc es
command_code here pc out (Read list) = inputs_code pc list
command_code here pc out (Kill list) = kill_all_code pc list
command_code here pc out (Merge list) = merges_code pc list
command_code here pc out (If es) = []
command_code here pc out Else = []
command_code here pc out (For v rs) = []
command_code here pc out Forever = []
command_code here pc out (Do list) = do_code here pc list
command_code here pc out (Goto list) = jumps_code here pc list
command_code here pc out (Quit value) = quit_code pc out value
command_code here pc out (New list) = new_all_code list
command_code here pc out (TStart a) = transaction_code a
command_code here pc out TCommit = commit_code
command_code here pc out TRestart = restart_code
command_code here pc out TRollback = instr.RollBack ∷ []
command_code here pc out Break = instr.Discard 0 ∷ []

-- a command behind its postcondition, and then the rest of its line
abbrev pub and_then : Here → ℕ → Option ℕ → Option Expr → Command → (ℕ → Option ℕ → List Instr) → List Instr
and_then here pc out c command rest =
    let code = code_if pc c (λ p. command_code here p out command) in
    code ++ rest (pc + length code) out

-- a command with its postcondition, and the rest of its line behind it
abbrev pub obey_code : Here → ℕ → Option ℕ → Command → Option Expr → (ℕ → Option ℕ → List Instr) → List Instr
obey_code here pc out (Set list) c rest = and_then here pc out c (Set list) rest
obey_code here pc out (Write list) c rest = and_then here pc out c (Write list) rest
obey_code here pc out Halt c rest = and_then here pc out c Halt rest
obey_code here pc out (Hang es) c rest = and_then here pc out c (Hang es) rest
obey_code here pc out (Job list) c rest = and_then here pc out c (Job list) rest
obey_code here pc out (Lock list) c rest = and_then here pc out c (Lock list) rest
obey_code here pc out (OpenDevice list) c rest = and_then here pc out c (OpenDevice list) rest
obey_code here pc out (UseDevice es) c rest = and_then here pc out c (UseDevice es) rest
obey_code here pc out (CloseDevice es) c rest = and_then here pc out c (CloseDevice es) rest
obey_code here pc out (Read list) c rest = and_then here pc out c (Read list) rest
obey_code here pc out (Kill list) c rest = and_then here pc out c (Kill list) rest
obey_code here pc out (Merge list) c rest = and_then here pc out c (Merge list) rest
obey_code here pc out (If es) c rest = if_code pc es (λ p. rest p out)
obey_code here pc out Else c rest = else_code pc (λ p. rest p out)
obey_code here pc out (For v rs) c rest = for_code pc v rs rest
obey_code here pc out Forever c rest = instr.ForForever ∷ body_code (pc + 1) rest
obey_code here pc out (Do list) c rest = and_then here pc out c (Do list) rest
obey_code here pc out (Goto list) c rest = and_then here pc out c (Goto list) rest
obey_code here pc out (Quit value) c rest = and_then here pc out c (Quit value) rest
obey_code here pc out (New list) c rest = and_then here pc out c (New list) rest
obey_code here pc out (TStart a) c rest = and_then here pc out c (TStart a) rest
obey_code here pc out TCommit c rest = and_then here pc out c TCommit rest
obey_code here pc out TRestart c rest = and_then here pc out c TRestart rest
obey_code here pc out TRollback c rest = and_then here pc out c TRollback rest
obey_code here pc out Break c rest = and_then here pc out c Break rest

abbrev pub steps_code : Here → ℕ → Option ℕ → List LineCommand → List Instr
steps_code here pc out [] = []
steps_code here pc out (step ∷ steps) = obey_code here pc out step.command step.condition (λ p o. steps_code here p o steps)

-- a line that stands here, which begins at pc: how it is entered, and its commands
abbrev pub line_code : ℕ → Here → Line → List Instr
line_code pc here line =
    let commands = steps_code here (pc + 1) None line.steps in
    instr.Line (record { line = here.line; level = line.level; next = pc + 1 + length commands }) ∷ commands

-- lines, of which the first stands here and begins at pc
abbrev pub lines_code : ℕ → Here → List Line → List Instr
lines_code pc here [] = []
lines_code pc here (line ∷ lines) =
    line_code pc here line ++ lines_code (pc + length (line_code pc here line)) (next_line here) lines

-- where they begin
abbrev pub starts : ℕ → Here → List Line → List ℕ
starts pc here [] = []
starts pc here (line ∷ lines) = pc ∷ starts (pc + length (line_code pc here line)) (next_line here) lines
