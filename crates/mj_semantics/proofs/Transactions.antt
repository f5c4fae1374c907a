-- What routines with TSTART, TCOMMIT, TROLLBACK, TRESTART and BREAK do, by computing. The text of each stands above it, a `/` between its
-- lines.
use Prim.Native.String.{String}
use Rattle.std.specs.Prelude.{◌≡◌, refl, ℕ, List, [], ◌∷◌, ◌++◌, Option, Some, None, codes, replicate}
use Rattle.std.specs.Fmt.{digits}
use Rattle.mj_store.specs.declared.access.Access.TheVariants as access
use Rattle.mj_store.specs.declared.access.Answer.TheVariants as answer
use Rattle.mj_ask.specs.declared.ask.Kind.TheVariants as kind
use Rattle.mj_ask.specs.declared.ask.Ask.{Ask}
use Rattle.mj_ask.specs.declared.ask.Ask.TheVariants as ask
use Rattle.mj_ask.specs.declared.ask.SharedAsk.TheVariants as shared_asks
use Rattle.mj_ask.specs.declared.ask.DeviceAsk.TheVariants as device_asks
use Rattle.mj_ask.specs.declared.ask.Reply.{Reply}
use Rattle.mj_ask.specs.declared.ask.Reply.TheVariants as reply
use Rattle.mj_ask.specs.declared.clash.Kept.TheVariants as kept
use Rattle.mj_oper.specs.declared.op.Op.TheVariants.{Add, Join, Is}
use Rattle.mj_oper.specs.declared.op.TruthOp.TheVariants.{Equal, Less}
use Rattle.mj_ast.specs.declared.function.Special.TheVariants as special
use Rattle.mj_ast.specs.declared.routine.LockMode.TheVariants as mode
use Rattle.mj_ast.specs.declared.routine.Serial.TheVariants as serial
use Rattle.mj_ast.specs.Syntax.{Expr, Chain, Tails, Done, Then, Operand, Literal, Value, Intrinsic, Lone, UpTo, Fresh, Shown, Write as Writing, Restored, Alone, Listed, Everything, Set, Halt, Job, Lock, If, For, Forever, Do, Goto, Quit, New, TStart, TCommit, TRestart, TRollback, Break, LineCommand, Line}
use Rattle.mj_semantics.specs.State.{Locals, principal, plain_name}
use Rattle.mj_semantics.specs.Outcome.{Outcome, Needs, More}
use Rattle.mj_semantics.specs.Job.{next}
use Rattle.mj_semantics.proofs.Talk.{asks, says, says_within, turns, spot, program_of, first_at, name, cmd, cmd_if, line, at, one, local, global, to, set, text, get, data_of, write, assign, let_be, here, do_it, go}

-- the asks of a job, where the replies are that it is done, these, and again that it is done
abbrev of_lines : List Line → List Reply → List Ask
of_lines lines replies = asks lines (reply.Done ∷ replies ++ replicate 3 reply.Done)

-- the asks of a job that asks these, and is then over
abbrev between : List Ask → List Ask
between list = ask.Device principal device_asks.Begin ∷ list ++ ask.Device principal device_asks.End ∷ ask.Shared (shared_asks.Halt None) ∷ []

-- what a job writes that comes to a fault
abbrev faulty : String → Option (List ℕ)
faulty t = Some (codes t ++ 10 ∷ [])

-- commands of transactions
abbrev tstart : LineCommand
tstart = cmd (TStart None)

abbrev tcommit : LineCommand
tcommit = cmd TCommit

abbrev trollback : LineCommand
trollback = cmd TRollback

abbrev trestart : LineCommand
trestart = cmd TRestart

-- TSTART of locals that a restart restores
abbrev restoring : Restored → LineCommand
restoring r = cmd (TStart (Some (record { restored = r; serial = serial.No })))

-- the same, SERIAL
abbrev serially : Restored → LineCommand
serially r = cmd (TStart (Some (record { restored = r; serial = serial.Bare })))

-- without locals, and with X
abbrev nothing : Restored
nothing = Listed []

abbrev x_alone : Restored
x_alone = Listed (codes "X" ∷ [])

-- $TRESTART<t
abbrev restarts_below : String → Expr
restarts_below t = Chain (Intrinsic special.TRestart) (Then (Is Less) (Literal (codes t)) Done)

-- TRESTART:$TRESTART<1
abbrev once_more : LineCommand
once_more = cmd_if (restarts_below "1") TRestart

abbrev level : Expr
level = one (Intrinsic special.TLevel)

abbrev restarts : Expr
restarts = one (Intrinsic special.TRestart)

-- a local with one added
abbrev plus_one : String → Expr
plus_one w = Chain (Value (local (codes w))) (Then Add (Literal (codes "1")) Done)

-- operands that are joined, and a blank
abbrev with_blank : List Operand → Tails
with_blank [] = Then Join (Literal (codes " ")) Done
with_blank (x ∷ xs) = Then Join x (with_blank xs)

abbrev wrote : String → Ask
wrote t = ask.Device principal (device_asks.Write (codes t))

abbrev set_a : String → Ask
set_a t = ask.Shared (shared_asks.Access (access.Set (name (codes "A")) (codes t)))

abbrev value_a : Ask
value_a = ask.Shared (shared_asks.Access (access.Value (name (codes "A"))))

abbrev told : String → Reply
told t = reply.Answer (answer.Value (Some (codes t)))

abbrev done : Reply
done = reply.Answer answer.Done

-- What is asked.

--  SET X=1,^A=1 TSTART  SET X=2,^A=2 TROLLBACK  WRITE X,^A: locals stay
rolls_back : of_lines (line (cmd (Set (let_be "X" (text "1") ∷ set (to (global (codes "A"))) (text "1") ∷ [])) ∷ tstart ∷
    cmd (Set (let_be "X" (text "2") ∷ set (to (global (codes "A"))) (text "2") ∷ [])) ∷ trollback ∷ write (get "X" ∷ one (Value (global (codes "A"))) ∷ []) ∷ []) ∷ [])
    (done ∷ reply.Done ∷ done ∷ reply.Done ∷ reply.Done ∷ told "1" ∷ reply.Done ∷ [])
    ≡ between (set_a "1" ∷ ask.Shared (shared_asks.Begin kind.Plain) ∷ set_a "2" ∷ ask.Shared shared_asks.Rollback ∷ wrote "2" ∷ value_a ∷ wrote "1" ∷ [])
unfolding digits
rolls_back = refl

--  SET X=0 /  TSTART (X):SERIAL /  SET X=X+1 IF $TRESTART<2 TRESTART /  TCOMMIT  WRITE X," ",$TRESTART
abbrev twice_more : List Line
twice_more =
    line (assign (let_be "X" (text "0") ∷ []) ∷ []) ∷ line (serially x_alone ∷ []) ∷
    line (assign (let_be "X" (plus_one "X") ∷ []) ∷ cmd (If (restarts_below "2" ∷ [])) ∷ trestart ∷ []) ∷
    line (tcommit ∷ write (get "X" ∷ text " " ∷ restarts ∷ []) ∷ []) ∷ []

restarts_twice : says twice_more ≡ Some (codes "1 0")
unfolding digits
restarts_twice = refl

asks_of_restarts : of_lines twice_more (replicate 9 reply.Done)
    ≡ between (ask.Shared (shared_asks.Begin kind.Serial) ∷ ask.Shared shared_asks.Rollback ∷ ask.Shared (shared_asks.Begin kind.Serial) ∷ (ask.Shared shared_asks.Rollback)
    ∷ ask.Shared (shared_asks.Begin kind.Serial) ∷ ask.Shared shared_asks.Commit ∷ wrote "1" ∷ wrote " " ∷ wrote "0" ∷ [])
unfolding digits
asks_of_restarts = refl

--  TSTART ():SERIAL /  SET X=^A,^A=X+1 /  TCOMMIT, which clashes once
clashes : of_lines (line (serially nothing ∷ []) ∷
    line (cmd (Set (let_be "X" (one (Value (global (codes "A")))) ∷ set (to (global (codes "A"))) (plus_one "X") ∷ [])) ∷ []) ∷
    line (tcommit ∷ []) ∷ [])
    (reply.Done ∷ told "5" ∷ done ∷ reply.Clash (record { place = 1; then = kept.Text (codes "5"); now = kept.Text (codes "6") }) ∷ reply.Done ∷ told "6" ∷ done ∷ reply.Done ∷ [])
    ≡ between (ask.Shared (shared_asks.Begin kind.Serial) ∷ value_a ∷ set_a "6" ∷ ask.Shared shared_asks.Commit ∷ ask.Shared (shared_asks.Begin kind.Serial) ∷ value_a ∷ set_a "7"
    ∷ ask.Shared shared_asks.Commit ∷ [])
unfolding digits
clashes = refl

--  TSTART  TSTART *:(S) TCOMMIT  WRITE $TLEVEL TCOMMIT  WRITE $TLEVEL: an inner one asks nothing
inner_levels : of_lines (line (tstart ∷ cmd (TStart (Some (record { restored = Everything; serial = serial.Enclosed }))) ∷ tcommit ∷ write (level ∷ []) ∷ tcommit ∷ write (level ∷ []) ∷ []) ∷ [])
    (replicate 4 reply.Done)
    ≡ between (ask.Shared (shared_asks.Begin kind.Plain) ∷ wrote "1" ∷ ask.Shared shared_asks.Commit ∷ wrote "0" ∷ [])
unfolding digits
inner_levels = refl

--  TSTART  TSTART  TROLLBACK  WRITE $TLEVEL: all levels are rolled back
all_levels : of_lines (line (tstart ∷ tstart ∷ trollback ∷ write (level ∷ []) ∷ []) ∷ []) (replicate 3 reply.Done)
    ≡ between (ask.Shared (shared_asks.Begin kind.Plain) ∷ ask.Shared shared_asks.Rollback ∷ wrote "0" ∷ [])
unfolding digits
all_levels = refl

--  TSTART:0  TSTART  HALT: a halt is asked as ever
halts : of_lines (line (cmd_if (text "0") (TStart None) ∷ tstart ∷ cmd Halt ∷ []) ∷ []) (replicate 3 reply.Done)
    ≡ between (ask.Shared (shared_asks.Begin kind.Plain) ∷ [])
halts = refl

-- how a job stops that starts at the first line of R, within so many turns, told that these are done
abbrev stops : List Line → ℕ → ℕ → Outcome
stops lines k told = next (program_of (("R", lines) ∷ [])) (first_at (codes "R")) k (replicate told reply.Done)

abbrev x_is : String → Locals
x_is t = (plain_name (codes "X"), codes t) ∷ []

--  SET X=1 TSTART X SET X=2 DO A /  QUIT / A TRESTART: where the transaction begins once more, the locals and frames are those before the restart
abbrev out_of_a_call : List Line
out_of_a_call = line (assign (let_be "X" (text "1") ∷ []) ∷ restoring (Alone (codes "X")) ∷ assign (let_be "X" (text "2") ∷ []) ∷ cmd (Do (do_it (here "A") [] ∷ [])) ∷ []) ∷
    line (cmd (Quit None) ∷ []) ∷ at "A" (trestart ∷ []) ∷ []

begins_before_it_restores : stops out_of_a_call 400 3 ≡ Needs (ask.Shared (shared_asks.Begin kind.Plain)) (x_is "2") (spot 3 ∷ spot 1 ∷ [])
unfolding digits
begins_before_it_restores = refl

--  SET X=1 TSTART X WRITE X SET X=2 TRESTART: and at the next ask they are those behind it
restored_behind_it : stops (line (assign (let_be "X" (text "1") ∷ []) ∷ restoring (Alone (codes "X")) ∷ write (get "X" ∷ []) ∷ assign (let_be "X" (text "2") ∷ []) ∷ trestart ∷ []) ∷ []) 400 5
    ≡ Needs (wrote "1") (x_is "1") (spot 1 ∷ [])
unfolding digits
restored_behind_it = refl

-- What a restart puts back.

--  SET X=1,Y=1,W=0 FOR I=1:1:2 TSTART (X) WRITE I_X_Y_W_$TEST_" " DO A TCOMMIT
--  QUIT
-- A NEW Y SET X=5,Y=7,W=W+1 IF 1 FOR  TRESTART:$TRESTART<1  QUIT
-- the frame of A, its FOR, its NEW and `$TEST`, and of the locals X alone
goes_back : says (
    line (assign (let_be "X" (text "1") ∷ let_be "Y" (text "1") ∷ let_be "W" (text "0") ∷ []) ∷ cmd (For (local (codes "I")) (UpTo (text "1") (text "1") (text "2") ∷ [])) ∷ restoring x_alone ∷
    write (Chain (Value (local (codes "I"))) (with_blank (Value (local (codes "X")) ∷ Value (local (codes "Y")) ∷ Value (local (codes "W")) ∷ Intrinsic special.Test ∷ [])) ∷ []) ∷
    cmd (Do (do_it (here "A") [] ∷ [])) ∷ tcommit ∷ []) ∷
    line (cmd (Quit None) ∷ []) ∷
    at "A" (cmd (New (Fresh (codes "Y") ∷ []))
    ∷ assign (let_be "X" (text "5") ∷ let_be "Y" (text "7") ∷ let_be "W" (plus_one "W") ∷ []) ∷ cmd (If (text "1" ∷ [])) ∷ cmd Forever ∷ once_more ∷ cmd (Quit None) ∷ []) ∷ [])
    ≡ Some (codes "11100 11110 25121 25131 ")
unfolding digits
goes_back = refl

--  SET X=1 TSTART ? WRITE $DATA(Y),X SET X=2,Y=3 TRESTART:$TRESTART<1  TCOMMIT, with () and * in the place of ?
abbrev with_y : Restored → List Line
with_y r = line (assign (let_be "X" (text "1") ∷ []) ∷ restoring r ∷ write (data_of (local (codes "Y")) ∷ get "X" ∷ []) ∷
    assign (let_be "X" (text "2") ∷ let_be "Y" (text "3") ∷ []) ∷ once_more ∷ tcommit ∷ []) ∷ []

restores_none : says (with_y nothing) ≡ Some (codes "0112")
unfolding digits
restores_none = refl

-- a local without a value there has none behind it
restores_all : says (with_y Everything) ≡ Some (codes "0101")
unfolding digits
restores_all = refl

restores_y : says (with_y (Alone (codes "Y"))) ≡ Some (codes "0102")
unfolding digits
restores_y = refl

--  SET X=1,Y=1 TSTART (X) WRITE $TLEVEL,X,Y," " SET X=2 TSTART * SET Y=2 TRESTART:$TRESTART<1  TCOMMIT  TCOMMIT
-- what an inner one says counts for nothing, and a restart leads to level 1
outermost_decides : says (line (assign (let_be "X" (text "1") ∷ let_be "Y" (text "1") ∷ []) ∷ restoring x_alone ∷ write (level ∷ get "X" ∷ get "Y" ∷ text " " ∷ []) ∷
    assign (let_be "X" (text "2") ∷ []) ∷ restoring Everything ∷ assign (let_be "Y" (text "2") ∷ []) ∷ once_more ∷ tcommit ∷ tcommit ∷ []) ∷ [])
    ≡ Some (codes "111 112 ")
unfolding digits
outermost_decides = refl

--  TSTART () TRESTART:$TRESTART<1  WRITE $TRESTART TROLLBACK  WRITE $TRESTART,$TLEVEL
counts_restarts : says (line (restoring nothing ∷ once_more ∷ write (restarts ∷ []) ∷ trollback ∷ write (restarts ∷ level ∷ []) ∷ []) ∷ [])
    ≡ Some (codes "100")
unfolding digits
counts_restarts = refl

--  TSTART () WRITE:$TRESTART=1 Z GOTO B /  WRITE "x" / B TRESTART
-- behind the restart the job stands in the line of the TSTART again
stands_there : says (line (restoring nothing
    ∷ cmd_if (Chain (Intrinsic special.TRestart) (Then (Is Equal) (Literal (codes "1")) Done)) (Set (let_be "Y" (get "Z") ∷ [])) ∷ cmd (Goto (go (here "B") ∷ [])) ∷ []) ∷
    line (write (text "x" ∷ []) ∷ []) ∷ at "B" (trestart ∷ []) ∷ [])
    ≡ faulty "F1 UNDEF R:1"
unfolding digits
stands_there = refl

--  TSTART () TCOMMIT  TSTART () WRITE "b" TRESTART:$TRESTART<1  TCOMMIT: a restart leads to the TSTART of its own transaction
second_transaction : says (line (restoring nothing ∷ write (text "a" ∷ []) ∷ tcommit ∷ restoring nothing ∷ write (text "b" ∷ []) ∷ once_more ∷ tcommit ∷ []) ∷ [])
    ≡ Some (codes "abb")
unfolding digits
second_transaction = refl

-- Faults.

--  TSTART  QUIT
quits_at_the_mark : says (line (tstart ∷ cmd (Quit None) ∷ []) ∷ []) ≡ faulty "F10 TXQUIT R:1"
unfolding digits
quits_at_the_mark = refl

--  DO A WRITE "x" / A TSTART  /  SET X=1, where the end of the routine is a QUIT
ends_at_the_mark : says (line (cmd (Do (do_it (here "A") [] ∷ [])) ∷ write (text "x" ∷ []) ∷ []) ∷ at "A" (tstart ∷ []) ∷ line (assign (let_be "X" (text "1") ∷ []) ∷ []) ∷ [])
    ≡ faulty "F10 TXQUIT R:3"
unfolding digits
ends_at_the_mark = refl

--  TSTART  DO A FOR  QUIT /  TCOMMIT  WRITE "e" QUIT / A QUIT: the QUIT of a frame above, and of a FOR
quits_above : says (line (tstart ∷ cmd (Do (do_it (here "A") [] ∷ [])) ∷ cmd Forever ∷ cmd (Quit None) ∷ []) ∷ line (tcommit ∷ write (text "e" ∷ []) ∷ cmd (Quit None) ∷ [])
    ∷ at "A" (cmd (Quit None) ∷ []) ∷ [])
    ≡ Some (codes "e")
unfolding digits
quits_above = refl

--  TCOMMIT, TROLLBACK, TRESTART; and TSTART  TCOMMIT  TCOMMIT
no_transaction : (says (line (tcommit ∷ []) ∷ []) ≡ faulty "F11 NOTX R:1") × (says (line (trollback ∷ []) ∷ []) ≡ faulty "F11 NOTX R:1")
    × (says (line (trestart ∷ []) ∷ []) ≡ faulty "F11 NOTX R:1") × (says (line (tstart ∷ tcommit ∷ tcommit ∷ []) ∷ []) ≡ faulty "F11 NOTX R:1")
unfolding digits
no_transaction = (refl, refl, refl, refl)

--  TSTART  TRESTART; and TSTART  TSTART () TRESTART
no_restart_there : (says (line (tstart ∷ trestart ∷ []) ∷ []) ≡ faulty "F12 NORESTART R:1") × (says (line (tstart ∷ restoring nothing ∷ trestart ∷ []) ∷ []) ≡ faulty "F12 NORESTART R:1")
unfolding digits
no_restart_there = (refl, refl)

--  TSTART  LOCK A, and TSTART  JOB A; behind a TCOMMIT both are allowed again
in_it : (says (line (tstart ∷ cmd (Lock (record { mode = mode.Whole; names = Lone (local (codes "A")); timeout = None } ∷ [])) ∷ []) ∷ []) ≡ faulty "F13 INTX R:1")
    × (says (line (tstart ∷ cmd (Job (record { target = here "A"; actuals = []; timeout = None } ∷ [])) ∷ []) ∷ []) ≡ faulty "F13 INTX R:1")
    × (says (line (tstart ∷ tcommit ∷ cmd (Lock []) ∷ write (text "e" ∷ []) ∷ []) ∷ []) ≡ Some (codes "e"))
unfolding digits
in_it = (refl, refl, refl)

--  FOR I=1:1:256 TSTART  WRITE:I=255 $TLEVEL: the 256th is one too many
too_many : says_within 4000 ((
  "R",
  line (cmd (For (local (codes "I")) (UpTo (text "1") (text "1") (text "256") ∷ [])) ∷ tstart ∷
      cmd_if (Chain (Value (local (codes "I"))) (Then (Is Equal) (Literal (codes "255")) Done)) (Writing (Shown level ∷ [])) ∷ []) ∷ [],
) ∷ []) (record { label = None; routine = codes "R" })
    ≡ Some (codes "255" ++ 10 ∷ codes "F18 LIMIT R:1" ++ 10 ∷ [])
unfolding digits
too_many = refl

-- Turns: behind those of the job's start and its line, one for each name of a list, one in which it is asked, and one behind it, to which
-- a restart goes back.

--  TSTART (X,Y)
list_turns : turns (line (restoring (Listed (codes "X" ∷ codes "Y" ∷ [])) ∷ []) ∷ []) 5
    ≡ (More, Needs (ask.Shared (shared_asks.Begin kind.Plain)) [] (spot 1 ∷ []))
list_turns = refl

--  TSTART () TRESTART
abbrev again_and_again : List Line
again_and_again = line (restoring nothing ∷ trestart ∷ []) ∷ []

restart_turns : (stops again_and_again 4 2 ≡ More) × (stops again_and_again 5 2 ≡ Needs (ask.Shared shared_asks.Rollback) [] (spot 1 ∷ []))
    × (stops again_and_again 5 3 ≡ More) × (stops again_and_again 6 3 ≡ Needs (ask.Shared (shared_asks.Begin kind.Plain)) [] (spot 1 ∷ []))
    × (stops again_and_again 7 4 ≡ More) × (stops again_and_again 8 4 ≡ Needs (ask.Shared shared_asks.Rollback) [] (spot 1 ∷ []))
restart_turns = (refl, refl, refl, refl, refl, refl)

--  TSTART  TSTART  TROLLBACK: an inner one has no turn behind it
inner_turns : (stops (line (tstart ∷ tstart ∷ trollback ∷ []) ∷ []) 5 2 ≡ More) × (stops (line (tstart ∷ tstart ∷ trollback ∷ []) ∷ []) 6 2 ≡ Needs (ask.Shared shared_asks.Rollback) [] (spot 1 ∷ []))
inner_turns = (refl, refl)

-- BREAK.

--  BREAK  WRITE "a" BREAK:0  WRITE "b"
breaks : says (line (cmd Break ∷ write (text "a" ∷ []) ∷ cmd_if (text "0") Break ∷ write (text "b" ∷ []) ∷ []) ∷ []) ≡ Some (codes "ab")
unfolding digits
breaks = refl
