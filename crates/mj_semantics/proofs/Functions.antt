-- What functions written in M do, by computing. The text of each routine stands above it, a `/` between its lines.
use Prim.Native.String.{String}
use Rattle.std.specs.Prelude.{◌≡◌, refl, ℕ, List, [], ◌∷◌, ◌++◌, Option, Some, None, codes}
use Rattle.std.specs.Fmt.{digits}
use Rattle.mj_ask.specs.declared.ask.Ask.TheVariants as ask
use Rattle.mj_ask.specs.declared.ask.DeviceAsk.TheVariants as device_asks
use Rattle.mj_oper.specs.declared.op.Op.TheVariants.{Add, Subtract, Multiply, Is}
use Rattle.mj_oper.specs.declared.op.TruthOp.TheVariants.{Less}
use Rattle.mj_ast.specs.declared.function.Special.TheVariants as special
use Rattle.mj_ast.specs.declared.routine.Serial.TheVariants as serial
use Rattle.mj_ast.specs.Syntax.{Expr, Chain, Done, Then, Literal, Value, Intrinsic, Extrinsic, Target, Actuals, NoActual, Given, Omitted, Listed, Single, If, For, Do, Halt, Quit, TStart, TCommit, TRestart, LineCommand, Line}
use Rattle.mj_semantics.specs.Outcome.{Needs, More}
use Rattle.mj_semantics.proofs.Talk.{says, says_with, turns, spot, cmd, cmd_if, line, at, with, one, local, text, get, test, data_of, write, assign, let_be, here, top, do_it}

-- a function as an expression
abbrev call : Target → Actuals → Expr
call t es = one (Extrinsic t es)

abbrev quit : Expr → LineCommand
quit e = cmd (Quit (Some e))

abbrev plainly : LineCommand
plainly = cmd (Quit None)

-- what a job writes that comes to a fault
abbrev faulty : String → Option (List ℕ)
faulty t = Some (codes t ++ 10 ∷ [])

--  WRITE $$F(3) QUIT / F(N) QUIT:N<2 1 QUIT N*$$F(N-1)
calls_itself : says (line (write (call (here "F") (Given (text "3") NoActual) ∷ []) ∷ plainly ∷ []) ∷
    with "F" (codes "N" ∷ []) (cmd_if (Chain (Value (local (codes "N"))) (Then (Is Less) (Literal (codes "2")) Done)) (Quit (Some (text "1")))
    ∷ quit (Chain (Value (local (codes "N"))) (Then Multiply (Extrinsic (here "F")
    (Given (Chain (Value (local (codes "N"))) (Then Subtract (Literal (codes "1")) Done)) NoActual)) Done)) ∷ []) ∷ [])
    ≡ Some (codes "6")
unfolding digits
calls_itself = refl

--  IF 1 WRITE $$G,$TEST QUIT / G() IF 0 /  QUIT 5
test_is_restored : says (line (cmd (If (text "1" ∷ [])) ∷ write (call (here "G") NoActual ∷ test ∷ []) ∷ plainly ∷ []) ∷
    with "G" [] (cmd (If (text "0" ∷ [])) ∷ []) ∷ line (quit (text "5") ∷ []) ∷ [])
    ≡ Some (codes "51")
unfolding digits
test_is_restored = refl

--  SET X=0 /  TSTART (X):SERIAL /  SET X=X+1 WRITE 10+$$H /  TCOMMIT  QUIT / H() IF $TRESTART<1 TRESTART /  QUIT X
restart_drops_the_expression : says (line (assign (let_be "X" (text "0") ∷ []) ∷ []) ∷
    line (cmd (TStart (Some (record { restored = Listed (codes "X" ∷ []); serial = serial.Bare }))) ∷ []) ∷
    line (assign (let_be "X" (Chain (Value (local (codes "X"))) (Then Add (Literal (codes "1")) Done)) ∷ [])
    ∷ write (Chain (Literal (codes "10")) (Then Add (Extrinsic (here "H") NoActual) Done) ∷ []) ∷ []) ∷
    line (cmd TCommit ∷ plainly ∷ []) ∷
    with "H" [] (cmd (If (Chain (Intrinsic special.TRestart) (Then (Is Less) (Literal (codes "1")) Done) ∷ [])) ∷ cmd TRestart ∷ []) ∷
    line (quit (get "X") ∷ []) ∷ [])
    ≡ Some (codes "11")
unfolding digits
restart_drops_the_expression = refl

--  WRITE 1+$$M QUIT / M() TSTART  QUIT 1
no_transaction_begins : says (line (write (Chain (Literal (codes "1")) (Then Add (Extrinsic (here "M") NoActual) Done) ∷ []) ∷ plainly ∷ []) ∷
    with "M" [] (cmd (TStart None) ∷ quit (text "1") ∷ []) ∷ [])
    ≡ faulty "F13 INTX R:2"
unfolding digits
no_transaction_begins = refl

--  WRITE $$K / K() DO M QUIT 1 / M TSTART: through DO too
no_transaction_below : says (line (write (call (here "K") NoActual ∷ []) ∷ []) ∷
    with "K" [] (cmd (Do (do_it (here "M") [] ∷ [])) ∷ quit (text "1") ∷ []) ∷ at "M" (cmd (TStart None) ∷ []) ∷ [])
    ≡ faulty "F13 INTX R:3"
unfolding digits
no_transaction_below = refl

--  WRITE $$K / K() QUIT
no_value : says (line (write (call (here "K") NoActual ∷ []) ∷ []) ∷ with "K" [] (plainly ∷ []) ∷ []) ≡ faulty "F9 QUIT R:2"
unfolding digits
no_value = refl

--  WRITE $$K / K() SET X=1 /  SET X=2: the end of the routine gives none either, at its last line
ends_without_value : says (line (write (call (here "K") NoActual ∷ []) ∷ []) ∷
    with "K" [] (assign (let_be "X" (text "1") ∷ []) ∷ []) ∷ line (assign (let_be "X" (text "2") ∷ []) ∷ []) ∷ []) ≡ faulty "F9 QUIT R:3"
unfolding digits
ends_without_value = refl

--  DO L QUIT / L QUIT Y: before the value, which would be UNDEF
value_of_a_do : says (line (cmd (Do (do_it (here "L") [] ∷ [])) ∷ plainly ∷ []) ∷ at "L" (quit (get "Y") ∷ []) ∷ []) ≡ faulty "F9 QUIT R:2"
unfolding digits
value_of_a_do = refl

--  WRITE $$K / K() FOR I=1 QUIT 5
value_in_a_for : says (line (write (call (here "K") NoActual ∷ []) ∷ []) ∷
    with "K" [] (cmd (For (local (codes "I")) (Single (text "1") ∷ [])) ∷ quit (text "5") ∷ []) ∷ []) ≡ faulty "F9 QUIT R:2"
unfolding digits
value_in_a_for = refl

--  WRITE $$K / K() FOR I=1 QUIT /  QUIT I: without a value it leads out of the FOR
quit_of_a_for : says (line (write (call (here "K") NoActual ∷ []) ∷ plainly ∷ []) ∷
    with "K" [] (cmd (For (local (codes "I")) (Single (text "1") ∷ [])) ∷ plainly ∷ []) ∷ line (quit (get "I") ∷ []) ∷ []) ≡ Some (codes "1")
unfolding digits
quit_of_a_for = refl

--  WRITE $$K() QUIT / K() QUIT 1: parentheses with nothing in them pass nothing
empty_parentheses : says (line (write (call (here "K") (Omitted NoActual) ∷ []) ∷ plainly ∷ []) ∷ with "K" [] (quit (text "1") ∷ []) ∷ []) ≡ Some (codes "1")
unfolding digits
empty_parentheses = refl

--  WRITE $$K(,) QUIT / K(X) QUIT 1
two_left_out : says (line (write (call (here "K") (Omitted (Omitted NoActual)) ∷ []) ∷ plainly ∷ []) ∷ with "K" (codes "X" ∷ []) (quit (text "1") ∷ []) ∷ [])
    ≡ faulty "F22 PARAMS R:1"
unfolding digits
two_left_out = refl

--  WRITE $$^Q+1 HALT and in Q:  QUIT 4
of_another_routine : says_with (("R", line (write (Chain (Extrinsic (top "Q") NoActual) (Then Add (Literal (codes "1")) Done) ∷ []) ∷ cmd Halt ∷ []) ∷ [])
    ∷ ("Q", line (quit (text "4") ∷ []) ∷ []) ∷ [])
    ≡ Some (codes "5")
unfolding digits
of_another_routine = refl

--  SET X=1 WRITE $$F(5),X QUIT / F(X) SET Y=X QUIT Y: formals are saved as by NEW
formals_are_saved : says (line (assign (let_be "X" (text "1") ∷ []) ∷ write (call (here "F") (Given (text "5") NoActual) ∷ get "X" ∷ []) ∷ plainly ∷ []) ∷
    with "F" (codes "X" ∷ []) (assign (let_be "Y" (get "X") ∷ []) ∷ quit (get "Y") ∷ []) ∷ [])
    ≡ Some (codes "51")
unfolding digits
formals_are_saved = refl

--  WRITE $$F / F WRITE "a" HALT: a job ends in a function, in the middle of an expression
halts_inside : says (line (write (call (here "F") NoActual ∷ []) ∷ []) ∷ at "F" (write (text "a" ∷ []) ∷ cmd Halt ∷ []) ∷ []) ≡ Some (codes "a")
unfolding digits
halts_inside = refl

--  WRITE $$F / F() QUIT 5
-- turns: 1 for the start, 1 for the line, 1 for the call, 1 for its line, 1 for the look at the frame, 1 for the literal, 1 for the QUIT, 1 for WRITE
turns_of_a_function : turns (line (write (call (here "F") NoActual ∷ []) ∷ []) ∷ with "F" [] (quit (text "5") ∷ []) ∷ []) 8
    ≡ (More, Needs (ask.Device (codes "0") (device_asks.Write (codes "5"))) [] (spot 1 ∷ []))
turns_of_a_function = refl
