-- What routines with HANG, JOB, LOCK and `$JOB` ask, by computing. The text of each stands above it, a `/` between its lines.
use Rattle.std.specs.Prelude.{◌≡◌, refl, ℕ, ℤ, pos, List, [], ◌∷◌, ◌++◌, Option, Some, None, codes, replicate}
use Rattle.std.specs.Fmt.{digits}
use Rattle.mj_text.specs.declared.fault.Fault.{Fault}
use Rattle.mj_text.specs.declared.fault.Fault.TheVariants as faults
use Rattle.mj_subs.specs.Name.{Name}
use Rattle.mj_store.specs.declared.access.Access.TheVariants as access
use Rattle.mj_store.specs.declared.access.Answer.TheVariants as answer
use Rattle.mj_ask.specs.declared.ask.Ask.{Ask}
use Rattle.mj_ask.specs.declared.ask.Ask.TheVariants as ask
use Rattle.mj_ask.specs.declared.ask.SharedAsk.TheVariants as shared_asks
use Rattle.mj_ask.specs.declared.ask.DeviceAsk.TheVariants as device_asks
use Rattle.mj_ask.specs.declared.ask.Reply.{Reply}
use Rattle.mj_ask.specs.declared.ask.Reply.TheVariants as reply
use Rattle.mj_oper.specs.declared.op.Op.TheVariants.{Divide}
use Rattle.mj_oper.specs.declared.op.UnaryOp.TheVariants.{Minus}
use Rattle.mj_ast.specs.declared.function.Special.TheVariants as special
use Rattle.mj_ast.specs.declared.routine.LockMode.{LockMode}
use Rattle.mj_ast.specs.declared.routine.LockMode.TheVariants as mode
use Rattle.mj_ast.specs.Syntax.{Expr, Chain, Done, Then, Literal, Value, Intrinsic, Unary, LockNames, Lone, Together, Locked, Target, Started, Hang, Job, Lock, LineCommand}
use Rattle.mj_semantics.specs.State.{principal, plain_name}
use Rattle.mj_semantics.specs.Outcome.{Needs, More, no_restart, end}
use Rattle.mj_semantics.specs.Points.{AtLine}
use Rattle.mj_semantics.specs.Job.{opening, points_of}
use Rattle.mj_semantics.proofs.Talk.{bounds, asks, asked, turns, cmd, cmd_if, line, one, local, local_at, global, global_at, name, name_at, text, get, test, write, here, there, top, image_of, spot}

-- the asks of a job of one line, where the replies are that it is done, these, and again that it is done
abbrev of_line : List LineCommand → List Reply → List Ask
of_line steps replies = asks (line steps ∷ []) (reply.Done ∷ replies ++ replicate 3 reply.Done)

-- the asks of a job of one line that asks these, and is then over
abbrev between : List Ask → List Ask
between list = ask.Device principal device_asks.Begin ∷ list ++ ask.Device principal device_asks.End ∷ ask.Shared (shared_asks.Halt None) ∷ []

-- the same, where it is over by a fault, of which it writes this
abbrev up_to : List Ask → List ℕ → Fault → List Ask
up_to list bytes fault = ask.Device principal device_asks.Begin ∷ list ++ ask.Device principal (device_asks.Write (bytes ++ 10 ∷ [])) ∷ ask.Device principal device_asks.End
    ∷ ask.Shared (shared_asks.Halt (Some fault)) ∷ []

-- `$TEST` is written
abbrev wrote_test : List ℕ → Ask
wrote_test t = ask.Device principal (device_asks.Write t)

-- 1/0
abbrev no_value : Expr
no_value = Chain (Literal (codes "1")) (Then Divide (Literal (codes "0")) Done)

-- HANG.

--  HANG 2,0,-3,"5 s" HANG:0 9
hangs : of_line (cmd (Hang (text "2" ∷ text "0" ∷ one (Unary Minus (Literal (codes "3"))) ∷ text "5 s" ∷ [])) ∷ cmd_if (text "0") (Hang (text "9" ∷ [])) ∷ []) (reply.Done ∷ reply.Done ∷ [])
    ≡ between (ask.Rest (pos 2) ∷ ask.Rest (pos 5) ∷ [])
unfolding digits
hangs = refl

--  HANG 1,"1000000000000000000"
hangs_too_long : of_line (cmd (Hang (text "1" ∷ text "1000000000000000000" ∷ [])) ∷ []) (reply.Done ∷ reply.Done ∷ [])
    ≡ up_to (ask.Rest (pos 1) ∷ []) (codes "F4 RANGE R:1") faults.Range
unfolding digits
hangs_too_long = refl

-- `$JOB`.

--  WRITE $JOB
number : of_line (write (one (Intrinsic special.Job) ∷ []) ∷ []) (reply.Done ∷ []) ≡ between (ask.Device principal (device_asks.Write (codes "1")) ∷ [])
unfolding digits
number = refl

-- JOB.

abbrev start_at : Target → List (Option Expr) → Option Expr → Started
start_at to actuals timeout = record { target = to; actuals = actuals; timeout = timeout }

abbrev label_of : Option (List ℕ) → List ℕ → List (Option (List ℕ)) → Option ℤ → Ask
label_of label routine values timeout = ask.Shared (shared_asks.Start (record { entry = record { label = label; routine = routine }; values = values }) timeout)

--  JOB A,A(1,,$JOB),^Q(),B^Q::5,Z::"x" WRITE $TEST
-- the entry is the new job's: it need not be there
starts : of_line (cmd (Job (start_at (here "A") [] None ∷ start_at (here "A") (Some (text "1") ∷ None ∷ Some (one (Intrinsic special.Job)) ∷ []) None ∷ start_at (top "Q") [] None
    ∷ start_at (there "B" "Q") [] (Some (text "5")) ∷ start_at (here "Z") [] (Some (text "x")) ∷ [])) ∷ write (test ∷ []) ∷ [])
    (reply.Job 2 ∷ reply.Job 3 ∷ reply.Job 4 ∷ reply.Job 5 ∷ reply.Job 6 ∷ reply.Done ∷ [])
    ≡ between (label_of (Some (codes "A")) (codes "R") [] None ∷ label_of (Some (codes "A")) (codes "R") (Some (codes "1") ∷ None ∷ Some (codes "1") ∷ []) None
    ∷ label_of None (codes "Q") [] None ∷ label_of (Some (codes "B")) (codes "Q") [] (Some (pos 5)) ∷ label_of (Some (codes "Z")) (codes "R") [] (Some (pos 0)) ∷ wrote_test (codes "1") ∷ [])
unfolding digits
starts = refl

--  JOB A WRITE $TEST: without a timeout it stays
starts_untimed : of_line (cmd (Job (start_at (here "A") [] None ∷ [])) ∷ write (test ∷ []) ∷ []) (reply.Job 2 ∷ reply.Done ∷ [])
    ≡ between (label_of (Some (codes "A")) (codes "R") [] None ∷ wrote_test (codes "0") ∷ [])
unfolding digits
starts_untimed = refl

--  JOB A::5, with no row left
no_row : of_line (cmd (Job (start_at (here "A") [] (Some (text "5")) ∷ [])) ∷ []) (reply.Limit ∷ reply.Done ∷ [])
    ≡ up_to (label_of (Some (codes "A")) (codes "R") [] (Some (pos 5)) ∷ []) (codes "F18 LIMIT R:1") faults.Limit
unfolding digits
no_row = refl

--  JOB A(Y)::1/0 and JOB A(1)::1/0: the values come before the timeout
values_first : of_line (cmd (Job (start_at (here "A") (Some (get "Y") ∷ []) (Some no_value) ∷ [])) ∷ []) (reply.Done ∷ [])
    ≡ up_to [] (codes "F1 UNDEF R:1") faults.Undefined
unfolding digits
values_first = refl

timeout_next : of_line (cmd (Job (start_at (here "A") (Some (text "1") ∷ []) (Some no_value) ∷ [])) ∷ []) (reply.Done ∷ [])
    ≡ up_to [] (codes "F2 DIVIDE R:1") faults.Divide
unfolding digits
timeout_next = refl

-- LOCK.

abbrev lock : LockMode → LockNames → Option Expr → Locked
lock m names timeout = record { mode = m; names = names; timeout = timeout }

-- ^A, ^A(1) and the local A
abbrev global_a : Name
global_a = name (codes "A")

abbrev global_a1 : Name
global_a1 = name_at (codes "A") (codes "1" ∷ [])

abbrev local_a : Name
local_a = plain_name (codes "A")

--  LOCK ^A(1) LOCK +^A LOCK -A LOCK
each_form : of_line (cmd (Lock (lock mode.Whole (Lone (global_at (codes "A") (text "1"))) None ∷ [])) ∷ cmd (Lock (lock mode.Plus (Lone (global (codes "A"))) None ∷ []))
    ∷ cmd (Lock (lock mode.Minus (Lone (local (codes "A"))) None ∷ [])) ∷ cmd (Lock []) ∷ [])
    (reply.Done ∷ reply.Got ∷ reply.Got ∷ reply.Done ∷ reply.Done ∷ [])
    ≡ between (ask.Shared shared_asks.UnlockAll ∷ ask.Shared (shared_asks.Try (global_a1 ∷ []) None) ∷ ask.Shared (shared_asks.Try (global_a ∷ []) None)
    ∷ ask.Shared (shared_asks.Unlock (local_a ∷ [])) ∷ ask.Shared shared_asks.UnlockAll ∷ [])
unfolding digits
each_form = refl

--  LOCK (^A,A,^A):5,-(A,^A) WRITE $TEST
-- a list is taken by one ask, with a name as often as it stands there
lists : of_line (cmd (Lock (lock mode.Whole (Together (global (codes "A") ∷ local (codes "A") ∷ global (codes "A") ∷ [])) (Some (text "5"))
    ∷ lock mode.Minus (Together (local (codes "A") ∷ global (codes "A") ∷ [])) None ∷ [])) ∷ write (test ∷ []) ∷ [])
    (reply.Done ∷ reply.Got ∷ reply.Done ∷ reply.Done ∷ [])
    ≡ between (ask.Shared shared_asks.UnlockAll ∷ ask.Shared (shared_asks.Try (global_a ∷ local_a ∷ global_a ∷ []) (Some (pos 5))) ∷ ask.Shared (shared_asks.Unlock (local_a ∷ global_a ∷ []))
    ∷ wrote_test (codes "1") ∷ [])
unfolding digits
lists = refl

--  LOCK A:0 WRITE $TEST LOCK +A:1 WRITE $TEST LOCK +A WRITE $TEST, of which the first comes late: the names are given up before that all the same
late : of_line (cmd (Lock (lock mode.Plus (Lone (local (codes "A"))) (Some (text "1")) ∷ [])) ∷ write (test ∷ []) ∷ cmd (Lock (lock mode.Whole (Lone (local (codes "A"))) (Some (text "0")) ∷ []))
    ∷ write (test ∷ []) ∷ cmd (Lock (lock mode.Plus (Lone (local (codes "A"))) None ∷ [])) ∷ write (test ∷ []) ∷ [])
    (reply.Got ∷ reply.Done ∷ reply.Done ∷ reply.Late ∷ reply.Done ∷ reply.Got ∷ reply.Done ∷ [])
    ≡ between (ask.Shared (shared_asks.Try (local_a ∷ []) (Some (pos 1))) ∷ wrote_test (codes "1") ∷ ask.Shared shared_asks.UnlockAll ∷ ask.Shared (shared_asks.Try (local_a ∷ []) (Some (pos 0)))
    ∷ wrote_test (codes "0") ∷ ask.Shared (shared_asks.Try (local_a ∷ []) None) ∷ wrote_test (codes "0") ∷ [])
unfolding digits
late = refl

--  LOCK -A:0 WRITE $TEST
gives_in_time : of_line (cmd (Lock (lock mode.Minus (Lone (local (codes "A"))) (Some (text "0")) ∷ [])) ∷ write (test ∷ []) ∷ []) (reply.Done ∷ reply.Done ∷ [])
    ≡ between (ask.Shared (shared_asks.Unlock (local_a ∷ [])) ∷ wrote_test (codes "1") ∷ [])
unfolding digits
gives_in_time = refl

--  LOCK +A, with too many names held
too_many_names : of_line (cmd (Lock (lock mode.Plus (Lone (local (codes "A"))) None ∷ [])) ∷ []) (reply.Limit ∷ reply.Done ∷ [])
    ≡ up_to (ask.Shared (shared_asks.Try (local_a ∷ []) None) ∷ []) (codes "F18 LIMIT R:1") faults.Limit
unfolding digits
too_many_names = refl

--  LOCK (A(^X),A("")):Y: each name is whole before the next one, and all before the timeout
names_first : of_line (cmd (Lock (lock mode.Whole (Together (local_at (codes "A") (one (Value (global (codes "X")))) ∷ local_at (codes "A") (text "") ∷ [])) (Some (get "Y")) ∷ [])) ∷ [])
    (reply.Answer (answer.Value (Some (codes "1"))) ∷ reply.Done ∷ [])
    ≡ up_to (ask.Shared (shared_asks.Access (access.Value (name (codes "X")))) ∷ []) (codes "F6 SUBSCRIPT R:1") faults.Subscript
unfolding digits
names_first = refl

--  LOCK A:"9999999999999999999": the timeout is read before the names are given up
timeout_before_asks : of_line (cmd (Lock (lock mode.Whole (Lone (local (codes "A"))) (Some (text "9999999999999999999")) ∷ [])) ∷ []) (reply.Done ∷ [])
    ≡ up_to [] (codes "F4 RANGE R:1") faults.Range
unfolding digits
timeout_before_asks = refl

-- Turns: behind those of the job's start and its line, the first ask comes in the turn after the name's, the timeout's and its reading.

--  LOCK +A:1
lock_turns : turns (line (cmd (Lock (lock mode.Plus (Lone (local (codes "A"))) (Some (text "1")) ∷ [])) ∷ []) ∷ []) 6
    ≡ (More, Needs (ask.Shared (shared_asks.Try (local_a ∷ []) (Some (pos 1)))) [] (spot 1 ∷ []))
unfolding digits
lock_turns = refl

-- In a transaction: the first ask of a line, or of the fault that it leads to.

abbrev in_transaction : List LineCommand → List Ask
in_transaction steps =
    asked (points_of (image_of (("R", line steps ∷ []) ∷ [])) 40 (AtLine (record { routine = codes "R"; line = 1 }) (λ v. end None)) 40 no_restart
    (record (opening bounds 1) { level = 1 }) [])

abbrev intx : List Ask
intx = ask.Device principal (device_asks.Write (codes "F13 INTX -" ++ 10 ∷ [])) ∷ []

--  LOCK +A and LOCK -A
counts_in_transaction : (in_transaction (cmd (Lock (lock mode.Plus (Lone (local (codes "A"))) None ∷ [])) ∷ []) ≡ ask.Shared (shared_asks.Try (local_a ∷ []) None) ∷ [])
    × (in_transaction (cmd (Lock (lock mode.Minus (Lone (local (codes "A"))) None ∷ [])) ∷ []) ≡ ask.Shared (shared_asks.Unlock (local_a ∷ [])) ∷ [])
unfolding digits
counts_in_transaction = (refl, refl)

--  LOCK, LOCK A and JOB A
not_in_transaction : (in_transaction (cmd (Lock []) ∷ []) ≡ intx)
    × (in_transaction (cmd (Lock (lock mode.Whole (Lone (local (codes "A"))) None ∷ [])) ∷ []) ≡ intx)
    × (in_transaction (cmd (Job (start_at (here "A") [] None ∷ [])) ∷ []) ≡ intx)
unfolding digits
not_in_transaction = (refl, refl, refl)

--  LOCK A("") and JOB A(Y): what is evaluated comes before that
evaluated_first : (in_transaction (cmd (Lock (lock mode.Whole (Lone (local_at (codes "A") (text ""))) None ∷ [])) ∷ []) ≡ ask.Device principal (device_asks.Write (codes "F6 SUBSCRIPT -" ++ 10 ∷ []))
    ∷ [])
    × (in_transaction (cmd (Job (start_at (here "A") (Some (get "Y") ∷ []) None ∷ [])) ∷ []) ≡ ask.Device principal (device_asks.Write (codes "F1 UNDEF -" ++ 10 ∷ [])) ∷ [])
unfolding digits
evaluated_first = (refl, refl)
