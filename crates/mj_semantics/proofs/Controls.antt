-- What routines with GOTO, DO, NEW and QUIT do, by computing: what they write from their start to their end, a fault's line included.
-- The text of each stands above it, a `/` between its lines.
use Rattle.std.specs.Prelude.{◌≡◌, refl, [], ◌∷◌, ◌++◌, Some, None, codes, replicate}
use Rattle.std.specs.Fmt.{digits}
use Rattle.mj_text.specs.declared.fault.Fault.TheVariants as faults
use Rattle.mj_store.specs.declared.access.Access.TheVariants as access
use Rattle.mj_store.specs.declared.access.Answer.TheVariants as answer
use Rattle.mj_ask.specs.declared.ask.Ask.TheVariants as ask
use Rattle.mj_ask.specs.declared.ask.SharedAsk.TheVariants as shared_asks
use Rattle.mj_ask.specs.declared.ask.DeviceAsk.TheVariants as device_asks
use Rattle.mj_ask.specs.declared.ask.Reply.TheVariants as reply
use Rattle.mj_oper.specs.declared.op.Op.TheVariants.{Add, Divide, Is}
use Rattle.mj_oper.specs.declared.op.TruthOp.TheVariants.{Less}
use Rattle.mj_ast.specs.Syntax.{Chain, Done, Then, Literal, Value, For, UpTo, Do, Goto, Quit, New, Fresh, Kept, Halt}
use Rattle.mj_semantics.specs.State.{plain_name}
use Rattle.mj_semantics.specs.Outcome.{Needs, More}
use Rattle.mj_semantics.proofs.Talk.{asks, says, says_with, says_within, says_deep, stands, turns, spot, name, cmd, cmd_if, line, at, with, deep, deep_at, one, local, local_at, global, to, set, text, get, data_of, write, assign, let_be, here, there, top, do_it, do_if, go, go_if}

-- GOTO.

--  GOTO A:0,B:1,C / A WRITE "x" / B WRITE "b" QUIT / C WRITE "x"
goto_takes_the_first_true_one : says (line (cmd (Goto (go_if (text "0") (here "A") ∷ go_if (text "1") (here "B") ∷ go (here "C") ∷ [])) ∷ []) ∷
    at "A" (write (text "x" ∷ []) ∷ []) ∷
    at "B" (write (text "b" ∷ []) ∷ cmd (Quit None) ∷ []) ∷
    at "C" (write (text "x" ∷ []) ∷ []) ∷ [])
    ≡ Some (codes "b")
unfolding digits
goto_takes_the_first_true_one = refl

--  GOTO Z:0,B,Z / B WRITE "b"
goto_tests_the_one_that_it_takes : says (line (cmd (Goto (go_if (text "0") (here "Z") ∷ go (here "B") ∷ go (here "Z") ∷ [])) ∷ []) ∷
    at "B" (write (text "b" ∷ []) ∷ []) ∷ [])
    ≡ Some (codes "b")
unfolding digits
goto_tests_the_one_that_it_takes = refl

--  GOTO B:0 WRITE "a" /  QUIT / B WRITE "x"
goto_goes_on_where_none_is_true : says (line (cmd (Goto (go_if (text "0") (here "B") ∷ [])) ∷ write (text "a" ∷ []) ∷ []) ∷
    line (cmd (Quit None) ∷ []) ∷
    at "B" (write (text "x" ∷ []) ∷ []) ∷ [])
    ≡ Some (codes "a")
unfolding digits
goto_goes_on_where_none_is_true = refl

--  SET X=1 DO A WRITE X QUIT / A NEW X SET X=2 GOTO B /  WRITE "x" / B WRITE X QUIT
goto_keeps_its_frame : says (line (assign (let_be "X" (text "1") ∷ []) ∷ cmd (Do (do_it (here "A") [] ∷ [])) ∷ write (get "X" ∷ []) ∷ cmd (Quit None) ∷ []) ∷
    at "A" (cmd (New (Fresh (codes "X") ∷ [])) ∷ assign (let_be "X" (text "2") ∷ []) ∷ cmd (Goto (go (here "B") ∷ [])) ∷ []) ∷
    line (write (text "x" ∷ []) ∷ []) ∷
    at "B" (write (get "X" ∷ []) ∷ cmd (Quit None) ∷ []) ∷ [])
    ≡ Some (codes "21")
unfolding digits
goto_keeps_its_frame = refl

--  DO  WRITE "e" QUIT /  . SET I=0 / A . SET I=I+1 GOTO A:I<3 /  . GOTO B /  . . WRITE "x" /  . WRITE "x" / B . WRITE I
-- forwards over a deeper line, and back to its own
goto_in_a_block : says (line (cmd (Do []) ∷ write (text "e" ∷ []) ∷ cmd (Quit None) ∷ []) ∷
    deep 2 (assign (let_be "I" (text "0") ∷ []) ∷ []) ∷
    deep_at 2 "A" (assign (let_be "I" (Chain (Value (local (codes "I"))) (Then Add (Literal (codes "1")) Done)) ∷ [])
    ∷ cmd (Goto (go_if (Chain (Value (local (codes "I"))) (Then (Is Less) (Literal (codes "3")) Done)) (here "A") ∷ [])) ∷ []) ∷
    deep 2 (cmd (Goto (go (here "B") ∷ [])) ∷ []) ∷
    deep 3 (write (text "x" ∷ []) ∷ []) ∷
    deep 2 (write (text "x" ∷ []) ∷ []) ∷
    deep_at 2 "B" (write (get "I" ∷ []) ∷ []) ∷ [])
    ≡ Some (codes "3e")
unfolding digits
goto_in_a_block = refl

--  DO /  . WRITE "a" GOTO B / B WRITE "x"
goto_out_of_a_block : says (line (cmd (Do []) ∷ []) ∷
    deep 2 (write (text "a" ∷ []) ∷ cmd (Goto (go (here "B") ∷ [])) ∷ []) ∷
    at "B" (write (text "x" ∷ []) ∷ []) ∷ [])
    ≡ Some (codes "a" ++ 10 ∷ codes "F8 NOLINE R:2" ++ 10 ∷ [])
unfolding digits
goto_out_of_a_block = refl

--  DO  WRITE "a" /  . GOTO B /  WRITE "b" DO / B . WRITE "x"
-- as deep, but not the same block
goto_into_another_block : says (line (cmd (Do []) ∷ write (text "a" ∷ []) ∷ []) ∷
    deep 2 (cmd (Goto (go (here "B") ∷ [])) ∷ []) ∷
    line (write (text "b" ∷ []) ∷ cmd (Do []) ∷ []) ∷
    deep_at 2 "B" (write (text "x" ∷ []) ∷ []) ∷ [])
    ≡ Some (codes "F8 NOLINE R:2" ++ 10 ∷ [])
unfolding digits
goto_into_another_block = refl

--  DO / B . WRITE "a" SET X=1 /  DO /  . GOTO B
goto_back_into_another_block : says (line (cmd (Do []) ∷ []) ∷
    deep_at 2 "B" (write (text "a" ∷ []) ∷ assign (let_be "X" (text "1") ∷ []) ∷ []) ∷
    line (cmd (Do []) ∷ []) ∷
    deep 2 (cmd (Goto (go (here "B") ∷ [])) ∷ []) ∷ [])
    ≡ Some (codes "a" ++ 10 ∷ codes "F8 NOLINE R:4" ++ 10 ∷ [])
unfolding digits
goto_back_into_another_block = refl

--  DO /  . GOTO B /  . DO / B . . WRITE "x"
goto_into_a_deeper_block : says (line (cmd (Do []) ∷ []) ∷
    deep 2 (cmd (Goto (go (here "B") ∷ [])) ∷ []) ∷
    deep 2 (cmd (Do []) ∷ []) ∷
    deep_at 3 "B" (write (text "x" ∷ []) ∷ []) ∷ [])
    ≡ Some (codes "F8 NOLINE R:2" ++ 10 ∷ [])
unfolding digits
goto_into_a_deeper_block = refl

--  WRITE "a" GOTO B / B . WRITE "x"
goto_into_a_block : says (line (write (text "a" ∷ []) ∷ cmd (Goto (go (here "B") ∷ [])) ∷ []) ∷
    deep_at 2 "B" (write (text "x" ∷ []) ∷ []) ∷ [])
    ≡ Some (codes "a" ++ 10 ∷ codes "F8 NOLINE R:1" ++ 10 ∷ [])
unfolding digits
goto_into_a_block = refl

-- R:  DO A WRITE "c" QUIT / A GOTO B^Q / B WRITE "x"; Q:  WRITE "x" / B WRITE "a" GOTO C /  WRITE "x" / C WRITE "b"
-- a label alone is then one of that routine
goto_another_routine : says_with ((
  "R",
  (line (cmd (Do (do_it (here "A") [] ∷ [])) ∷ write (text "c" ∷ []) ∷ cmd (Quit None) ∷ []) ∷
      at "A" (cmd (Goto (go (there "B" "Q") ∷ [])) ∷ []) ∷
      at "B" (write (text "x" ∷ []) ∷ []) ∷ []),
) ∷ (
  "Q",
  (line (write (text "x" ∷ []) ∷ []) ∷
      at "B" (write (text "a" ∷ []) ∷ cmd (Goto (go (here "C") ∷ [])) ∷ []) ∷
      line (write (text "x" ∷ []) ∷ []) ∷
      at "C" (write (text "b" ∷ []) ∷ []) ∷ []),
) ∷ [])
    ≡ Some (codes "abc")
unfolding digits
goto_another_routine = refl

-- R:  DO A WRITE "b" QUIT / A GOTO ^Q; Q:  WRITE "q"
goto_a_routine : says_with ((
  "R",
  (line (cmd (Do (do_it (here "A") [] ∷ [])) ∷ write (text "b" ∷ []) ∷ cmd (Quit None) ∷ []) ∷
      at "A" (cmd (Goto (go (top "Q") ∷ [])) ∷ []) ∷ []),
) ∷
    ("Q", (line (write (text "q" ∷ []) ∷ []) ∷ [])) ∷ [])
    ≡ Some (codes "qb")
unfolding digits
goto_a_routine = refl

-- R:  DO /  . GOTO B^Q /  . GOTO B; Q:  DO / B . WRITE "x"
goto_another_routine_from_a_block : says_with ((
  "R",
  (line (cmd (Do []) ∷ []) ∷
      deep 2 (cmd (Goto (go (there "B" "Q") ∷ [])) ∷ []) ∷
      deep 2 (cmd (Goto (go (here "B") ∷ [])) ∷ []) ∷ []),
) ∷ (
  "Q",
  (line (cmd (Do []) ∷ []) ∷
      deep_at 2 "B" (write (text "x" ∷ []) ∷ []) ∷ []),
) ∷ [])
    ≡ Some (codes "F8 NOLINE R:2" ++ 10 ∷ [])
unfolding digits
goto_another_routine_from_a_block = refl

--  WRITE "a" /  GOTO Z
goto_no_line : says (line (write (text "a" ∷ []) ∷ []) ∷
    line (cmd (Goto (go (here "Z") ∷ [])) ∷ []) ∷ [])
    ≡ Some (codes "a" ++ 10 ∷ codes "F8 NOLINE R:2" ++ 10 ∷ [])
unfolding digits
goto_no_line = refl

-- DO: entries, values and formals.

-- R:  DO B:0,A,^Q,B^Q WRITE "e" /  QUIT / A WRITE "a" /  QUIT / B WRITE "x"; Q:  WRITE "q" / B WRITE "b"
do_each_in_order : says_with ((
  "R",
  (line (cmd (Do (do_if (text "0") (here "B") [] ∷ do_it (here "A") [] ∷ do_it (top "Q") [] ∷ do_it (there "B" "Q") [] ∷ [])) ∷ write (text "e" ∷ []) ∷ []) ∷
      line (cmd (Quit None) ∷ []) ∷
      at "A" (write (text "a" ∷ []) ∷ []) ∷
      line (cmd (Quit None) ∷ []) ∷
      at "B" (write (text "x" ∷ []) ∷ []) ∷ []),
) ∷ (
  "Q",
  (line (write (text "q" ∷ []) ∷ []) ∷
      at "B" (write (text "b" ∷ []) ∷ []) ∷ []),
) ∷ [])
    ≡ Some (codes "aqbbe")
unfolding digits
do_each_in_order = refl

-- R:  DO ^Q(5) QUIT; Q: Q(X) WRITE X
-- its first line has the formals
do_a_routine_with_values : says_with (
    ("R", (line (cmd (Do (do_it (top "Q") (Some (text "5") ∷ []) ∷ [])) ∷ cmd (Quit None) ∷ []) ∷ [])) ∷
    ("Q", (with "Q" (codes "X" ∷ []) (write (get "X" ∷ []) ∷ []) ∷ [])) ∷ [])
    ≡ Some (codes "5")
unfolding digits
do_a_routine_with_values = refl

--  DO 01 QUIT / 1 WRITE "x" QUIT / 01 WRITE "b"
labels_are_texts : says (line (cmd (Do (do_it (here "01") [] ∷ [])) ∷ cmd (Quit None) ∷ []) ∷
    at "1" (write (text "x" ∷ []) ∷ cmd (Quit None) ∷ []) ∷
    at "01" (write (text "b" ∷ []) ∷ []) ∷ [])
    ≡ Some (codes "b")
unfolding digits
labels_are_texts = refl

--  WRITE "a" /  DO Z
do_no_line : says (line (write (text "a" ∷ []) ∷ []) ∷
    line (cmd (Do (do_it (here "Z") [] ∷ [])) ∷ []) ∷ [])
    ≡ Some (codes "a" ++ 10 ∷ codes "F8 NOLINE R:2" ++ 10 ∷ [])
unfolding digits
do_no_line = refl

--  DO B / B . WRITE "x"
do_a_line_of_a_block : says (line (cmd (Do (do_it (here "B") [] ∷ [])) ∷ []) ∷
    deep_at 2 "B" (write (text "x" ∷ []) ∷ []) ∷ [])
    ≡ Some (codes "F8 NOLINE R:1" ++ 10 ∷ [])
unfolding digits
do_a_line_of_a_block = refl

-- R:  DO ^Q; Q:
do_an_empty_routine : says_with (
    ("R", (line (cmd (Do (do_it (top "Q") [] ∷ [])) ∷ []) ∷ [])) ∷
    ("Q", []) ∷ [])
    ≡ Some (codes "F8 NOLINE R:1" ++ 10 ∷ [])
unfolding digits
do_an_empty_routine = refl

-- R:  DO ^Q; Q:  . WRITE "x" /  WRITE "x"
do_a_routine_that_begins_in_a_block : says_with (
    ("R", (line (cmd (Do (do_it (top "Q") [] ∷ [])) ∷ []) ∷ [])) ∷ (
      "Q",
      (deep 2 (write (text "x" ∷ []) ∷ []) ∷
          line (write (text "x" ∷ []) ∷ []) ∷ []),
    ) ∷ [])
    ≡ Some (codes "F8 NOLINE R:1" ++ 10 ∷ [])
unfolding digits
do_a_routine_that_begins_in_a_block = refl

--  DO Z(1/0)
values_come_before_the_line : says (line (cmd (Do (do_it (here "Z") (Some (Chain (Literal (codes "1")) (Then Divide (Literal (codes "0")) Done)) ∷ []) ∷ [])) ∷ []) ∷ [])
    ≡ Some (codes "F2 DIVIDE R:1" ++ 10 ∷ [])
unfolding digits
values_come_before_the_line = refl

--  DO A(Y):0 WRITE "a" QUIT / A(X) WRITE "x"
a_condition_comes_before_values : says (line (cmd (Do (do_if (text "0") (here "A") (Some (get "Y") ∷ []) ∷ [])) ∷ write (text "a" ∷ []) ∷ cmd (Quit None) ∷ []) ∷
    with "A" (codes "X" ∷ []) (write (text "x" ∷ []) ∷ []) ∷ [])
    ≡ Some (codes "a")
unfolding digits
a_condition_comes_before_values = refl

--  SET X=1 DO A(5,X,X+1) WRITE X QUIT / A(X,Y,Z) WRITE X,Y,Z SET X=9
values_are_those_of_the_caller : says (line (assign (let_be "X" (text "1") ∷ []) ∷ cmd (Do (do_it (here "A")
    (Some (text "5") ∷ Some (get "X") ∷ Some (Chain (Value (local (codes "X"))) (Then Add (Literal (codes "1")) Done)) ∷ []) ∷ [])) ∷ write (get "X" ∷ []) ∷ cmd (Quit None) ∷ []) ∷
    with "A" (codes "X" ∷ codes "Y" ∷ codes "Z" ∷ []) (write (get "X" ∷ get "Y" ∷ get "Z" ∷ []) ∷ assign (let_be "X" (text "9") ∷ []) ∷ []) ∷ [])
    ≡ Some (codes "5121")
unfolding digits
values_are_those_of_the_caller = refl

--  DO A(1,2) QUIT / A(X) QUIT
too_many_values : says (line (cmd (Do (do_it (here "A") (Some (text "1") ∷ Some (text "2") ∷ []) ∷ [])) ∷ cmd (Quit None) ∷ []) ∷
    with "A" (codes "X" ∷ []) (cmd (Quit None) ∷ []) ∷ [])
    ≡ Some (codes "F22 PARAMS R:1" ++ 10 ∷ [])
unfolding digits
too_many_values = refl

--  DO A(,) QUIT / A(X) QUIT
left_out_values_count : says (line (cmd (Do (do_it (here "A") (None ∷ None ∷ []) ∷ [])) ∷ cmd (Quit None) ∷ []) ∷
    with "A" (codes "X" ∷ []) (cmd (Quit None) ∷ []) ∷ [])
    ≡ Some (codes "F22 PARAMS R:1" ++ 10 ∷ [])
unfolding digits
left_out_values_count = refl

--  DO B(1) / B . WRITE "x"
a_level_comes_before_values : says (line (cmd (Do (do_it (here "B") (Some (text "1") ∷ []) ∷ [])) ∷ []) ∷
    deep_at 2 "B" (write (text "x" ∷ []) ∷ []) ∷ [])
    ≡ Some (codes "F8 NOLINE R:1" ++ 10 ∷ [])
unfolding digits
a_level_comes_before_values = refl

--  SET X=1 DO A(,3) WRITE X QUIT / A(X,Y) WRITE Y,$DATA(X)
a_value_left_out : says (line (assign (let_be "X" (text "1") ∷ []) ∷ cmd (Do (do_it (here "A") (None ∷ Some (text "3") ∷ []) ∷ [])) ∷ write (get "X" ∷ []) ∷ cmd (Quit None) ∷ []) ∷
    with "A" (codes "X" ∷ codes "Y" ∷ []) (write (get "Y" ∷ data_of (local (codes "X")) ∷ []) ∷ []) ∷ [])
    ≡ Some (codes "301")
unfolding digits
a_value_left_out = refl

--  SET X=1,X(1)=2 DO A,A() WRITE X,X(1) QUIT / A(X) WRITE $DATA(X),$DATA(X(1)) SET X(2)=3
formals_without_values : says (line (assign (let_be "X" (text "1") ∷ set (to (local_at (codes "X") (text "1"))) (text "2") ∷ [])
    ∷ cmd (Do (do_it (here "A") [] ∷ do_it (here "A") [] ∷ [])) ∷ write (get "X" ∷ one (Value (local_at (codes "X") (text "1"))) ∷ []) ∷ cmd (Quit None) ∷ []) ∷
    with "A" (codes "X" ∷ []) (write (data_of (local (codes "X")) ∷ data_of (local_at (codes "X") (text "1")) ∷ []) ∷ assign (set (to (local_at (codes "X") (text "2"))) (text "3") ∷ []) ∷ []) ∷ [])
    ≡ Some (codes "000012")
unfolding digits
formals_without_values = refl

--  SET X=1 / A(X) WRITE X SET X=2 GOTO B:$DATA(Y) SET Y=1 GOTO A / B
-- a line that is come to, or gone to, has its formals as they are
formals_met_otherwise : says (line (assign (let_be "X" (text "1") ∷ []) ∷ []) ∷
    with "A" (codes "X" ∷ []) (write (get "X" ∷ []) ∷ assign (let_be "X" (text "2") ∷ [])
    ∷ cmd (Goto (go_if (data_of (local (codes "Y"))) (here "B") ∷ [])) ∷ assign (let_be "Y" (text "1") ∷ []) ∷ cmd (Goto (go (here "A") ∷ [])) ∷ []) ∷
    at "B" [] ∷ [])
    ≡ Some (codes "12")
unfolding digits
formals_met_otherwise = refl

--  DO A /  QUIT / A WRITE "a" /  WRITE Y
a_fault_has_the_line_of_its_frame : says (line (cmd (Do (do_it (here "A") [] ∷ [])) ∷ []) ∷
    line (cmd (Quit None) ∷ []) ∷
    at "A" (write (text "a" ∷ []) ∷ []) ∷
    line (write (get "Y" ∷ []) ∷ []) ∷ [])
    ≡ Some (codes "a" ++ 10 ∷ codes "F1 UNDEF R:4" ++ 10 ∷ [])
unfolding digits
a_fault_has_the_line_of_its_frame = refl

--  DO A WRITE Y /  QUIT / A WRITE "a" /  QUIT
a_frame_gives_its_line_back : says (line (cmd (Do (do_it (here "A") [] ∷ [])) ∷ write (get "Y" ∷ []) ∷ []) ∷
    line (cmd (Quit None) ∷ []) ∷
    at "A" (write (text "a" ∷ []) ∷ []) ∷
    line (cmd (Quit None) ∷ []) ∷ [])
    ≡ Some (codes "a" ++ 10 ∷ codes "F1 UNDEF R:1" ++ 10 ∷ [])
unfolding digits
a_frame_gives_its_line_back = refl

-- NEW, which is undone at the end of its frame.

--  SET X=1 DO A WRITE X QUIT / A NEW X SET X=2 WRITE X QUIT
new : says (line (assign (let_be "X" (text "1") ∷ []) ∷ cmd (Do (do_it (here "A") [] ∷ [])) ∷ write (get "X" ∷ []) ∷ cmd (Quit None) ∷ []) ∷
    at "A" (cmd (New (Fresh (codes "X") ∷ [])) ∷ assign (let_be "X" (text "2") ∷ []) ∷ write (get "X" ∷ []) ∷ cmd (Quit None) ∷ []) ∷ [])
    ≡ Some (codes "21")
unfolding digits
new = refl

--  SET X=1,X(1)=2 DO A WRITE X,X(1),$DATA(X(2)) QUIT / A NEW X WRITE $DATA(X) SET X(2)=3
new_with_what_is_below : says (line (assign (let_be "X" (text "1") ∷ set (to (local_at (codes "X") (text "1"))) (text "2") ∷ [])
    ∷ cmd (Do (do_it (here "A") [] ∷ [])) ∷ write (get "X" ∷ one (Value (local_at (codes "X") (text "1"))) ∷ data_of (local_at (codes "X") (text "2")) ∷ []) ∷ cmd (Quit None) ∷ []) ∷
    at "A" (cmd (New (Fresh (codes "X") ∷ [])) ∷ write (data_of (local (codes "X")) ∷ []) ∷ assign (set (to (local_at (codes "X") (text "2"))) (text "3") ∷ []) ∷ []) ∷ [])
    ≡ Some (codes "0120")
unfolding digits
new_with_what_is_below = refl

--  SET X=1 DO  WRITE X /  . NEW X SET X=2 WRITE X /  WRITE X
new_in_a_block : says (line (assign (let_be "X" (text "1") ∷ []) ∷ cmd (Do []) ∷ write (get "X" ∷ []) ∷ []) ∷
    deep 2 (cmd (New (Fresh (codes "X") ∷ [])) ∷ assign (let_be "X" (text "2") ∷ []) ∷ write (get "X" ∷ []) ∷ []) ∷
    line (write (get "X" ∷ []) ∷ []) ∷ [])
    ≡ Some (codes "211")
unfolding digits
new_in_a_block = refl

--  SET X=1 DO A WRITE X QUIT / A NEW X SET X=2 DO  WRITE X /  . SET Y=3
-- the end of a block undoes no NEW of the frame around it
new_around_a_block : says (line (assign (let_be "X" (text "1") ∷ []) ∷ cmd (Do (do_it (here "A") [] ∷ [])) ∷ write (get "X" ∷ []) ∷ cmd (Quit None) ∷ []) ∷
    at "A" (cmd (New (Fresh (codes "X") ∷ [])) ∷ assign (let_be "X" (text "2") ∷ []) ∷ cmd (Do []) ∷ write (get "X" ∷ []) ∷ []) ∷
    deep 2 (assign (let_be "Y" (text "3") ∷ []) ∷ []) ∷ [])
    ≡ Some (codes "21")
unfolding digits
new_around_a_block = refl

--  SET X=1 DO A WRITE X QUIT / A NEW X SET X=2 DO B WRITE X QUIT / B NEW X SET X=3
new_around_a_frame : says (line (assign (let_be "X" (text "1") ∷ []) ∷ cmd (Do (do_it (here "A") [] ∷ [])) ∷ write (get "X" ∷ []) ∷ cmd (Quit None) ∷ []) ∷
    at "A" (cmd (New (Fresh (codes "X") ∷ [])) ∷ assign (let_be "X" (text "2") ∷ []) ∷ cmd (Do (do_it (here "B") [] ∷ [])) ∷ write (get "X" ∷ []) ∷ cmd (Quit None) ∷ []) ∷
    at "B" (cmd (New (Fresh (codes "X") ∷ [])) ∷ assign (let_be "X" (text "3") ∷ []) ∷ []) ∷ [])
    ≡ Some (codes "21")
unfolding digits
new_around_a_frame = refl

--  SET X=1 DO A WRITE X QUIT / A DO B SET X=5 QUIT / B NEW X SET X=3
new_is_undone_once : says (line (assign (let_be "X" (text "1") ∷ []) ∷ cmd (Do (do_it (here "A") [] ∷ [])) ∷ write (get "X" ∷ []) ∷ cmd (Quit None) ∷ []) ∷
    at "A" (cmd (Do (do_it (here "B") [] ∷ [])) ∷ assign (let_be "X" (text "5") ∷ []) ∷ cmd (Quit None) ∷ []) ∷
    at "B" (cmd (New (Fresh (codes "X") ∷ [])) ∷ assign (let_be "X" (text "3") ∷ []) ∷ []) ∷ [])
    ≡ Some (codes "5")
unfolding digits
new_is_undone_once = refl

--  SET X=1 DO A WRITE X QUIT / A NEW X SET X=2 NEW X SET X=3
-- the newest is undone first
new_twice : says (line (assign (let_be "X" (text "1") ∷ []) ∷ cmd (Do (do_it (here "A") [] ∷ [])) ∷ write (get "X" ∷ []) ∷ cmd (Quit None) ∷ []) ∷
    at "A" (cmd (New (Fresh (codes "X") ∷ [])) ∷ assign (let_be "X" (text "2") ∷ []) ∷ cmd (New (Fresh (codes "X") ∷ [])) ∷ assign (let_be "X" (text "3") ∷ []) ∷ []) ∷ [])
    ≡ Some (codes "1")
unfolding digits
new_twice = refl

--  SET X=1,Y=2 DO A WRITE X,Y,$DATA(Z) QUIT / A NEW (X) WRITE X,$DATA(Y) SET X=3,Y=4,Z=5
-- those of the list keep what they have
new_all_but_some : says (line
    (assign (let_be "X" (text "1") ∷ let_be "Y" (text "2") ∷ []) ∷ cmd (Do (do_it (here "A") [] ∷ [])) ∷ write (get "X" ∷ get "Y" ∷ data_of (local (codes "Z")) ∷ []) ∷ cmd (Quit None) ∷ []) ∷
    at "A" (cmd (New (Kept (codes "X" ∷ []) ∷ []))
    ∷ write (get "X" ∷ data_of (local (codes "Y")) ∷ []) ∷ assign (let_be "X" (text "3") ∷ let_be "Y" (text "4") ∷ let_be "Z" (text "5") ∷ []) ∷ []) ∷ [])
    ≡ Some (codes "10320")
unfolding digits
new_all_but_some = refl

--  SET X=1,Y=1 DO A WRITE X,Y,$DATA(Z) QUIT / A NEW X SET X=2 NEW (Y) SET X=3,Y=3,Z=4
new_after_new : says (line
    (assign (let_be "X" (text "1") ∷ let_be "Y" (text "1") ∷ []) ∷ cmd (Do (do_it (here "A") [] ∷ [])) ∷ write (get "X" ∷ get "Y" ∷ data_of (local (codes "Z")) ∷ []) ∷ cmd (Quit None) ∷ []) ∷
    at "A" (cmd (New (Fresh (codes "X") ∷ []))
    ∷ assign (let_be "X" (text "2") ∷ []) ∷ cmd (New (Kept (codes "Y" ∷ []) ∷ [])) ∷ assign (let_be "X" (text "3") ∷ let_be "Y" (text "3") ∷ let_be "Z" (text "4") ∷ []) ∷ []) ∷ [])
    ≡ Some (codes "130")
unfolding digits
new_after_new = refl

--  SET X=1,Y=2 DO A WRITE X,Y,$DATA(Z) QUIT / A NEW  WRITE $DATA(X) SET X=3,Z=1
new_all : says (line
    (assign (let_be "X" (text "1") ∷ let_be "Y" (text "2") ∷ []) ∷ cmd (Do (do_it (here "A") [] ∷ [])) ∷ write (get "X" ∷ get "Y" ∷ data_of (local (codes "Z")) ∷ []) ∷ cmd (Quit None) ∷ []) ∷
    at "A" (cmd (New []) ∷ write (data_of (local (codes "X")) ∷ []) ∷ assign (let_be "X" (text "3") ∷ let_be "Z" (text "1") ∷ []) ∷ []) ∷ [])
    ≡ Some (codes "0120")
unfolding digits
new_all = refl

--  SET X=1 DO A(2) WRITE X QUIT / A(X) NEW X SET X=3
new_of_a_formal : says (line (assign (let_be "X" (text "1") ∷ []) ∷ cmd (Do (do_it (here "A") (Some (text "2") ∷ []) ∷ [])) ∷ write (get "X" ∷ []) ∷ cmd (Quit None) ∷ []) ∷
    with "A" (codes "X" ∷ []) (cmd (New (Fresh (codes "X") ∷ [])) ∷ assign (let_be "X" (text "3") ∷ []) ∷ []) ∷ [])
    ≡ Some (codes "1")
unfolding digits
new_of_a_formal = refl

--  SET X=1 DO A WRITE X QUIT / A FOR I=1:1:2 NEW X SET X=2 GOTO B / B WRITE X
new_left_by_a_goto : says (line (assign (let_be "X" (text "1") ∷ []) ∷ cmd (Do (do_it (here "A") [] ∷ [])) ∷ write (get "X" ∷ []) ∷ cmd (Quit None) ∷ []) ∷
    at "A" (cmd (For (local (codes "I")) (UpTo (text "1") (text "1") (text "2") ∷ [])) ∷ cmd (New (Fresh (codes "X") ∷ [])) ∷ assign (let_be "X" (text "2") ∷ [])
    ∷ cmd (Goto (go (here "B") ∷ [])) ∷ []) ∷
    at "B" (write (get "X" ∷ []) ∷ []) ∷ [])
    ≡ Some (codes "21")
unfolding digits
new_left_by_a_goto = refl

--  FOR I=1:1:3 WRITE I NEW I
new_in_a_for : says (line (cmd (For (local (codes "I")) (UpTo (text "1") (text "1") (text "3") ∷ [])) ∷ write (get "I" ∷ []) ∷ cmd (New (Fresh (codes "I") ∷ [])) ∷ []) ∷ [])
    ≡ Some (codes "1" ++ 10 ∷ codes "F20 FORINDEX R:1" ++ 10 ∷ [])
unfolding digits
new_in_a_for = refl

--  FOR I=1:1:3 DO A(I) WRITE I /  QUIT / A(I) WRITE I SET I=9
for_over_a_frame : says (line (cmd (For (local (codes "I")) (UpTo (text "1") (text "1") (text "3") ∷ [])) ∷ cmd (Do (do_it (here "A") (Some (get "I") ∷ []) ∷ [])) ∷ write (get "I" ∷ []) ∷ []) ∷
    line (cmd (Quit None) ∷ []) ∷
    with "A" (codes "I" ∷ []) (write (get "I" ∷ []) ∷ assign (let_be "I" (text "9") ∷ []) ∷ []) ∷ [])
    ≡ Some (codes "112233")
unfolding digits
for_over_a_frame = refl

-- QUIT.

--  WRITE 1 QUIT /  WRITE 2
quit_of_the_first_frame : says (line (write (text "1" ∷ []) ∷ cmd (Quit None) ∷ []) ∷
    line (write (text "2" ∷ []) ∷ []) ∷ [])
    ≡ Some (codes "1")
unfolding digits
quit_of_the_first_frame = refl

--  DO A WRITE "b" QUIT / A WRITE 1 QUIT:0  WRITE 2 QUIT:1  WRITE 3
quit_where_a_condition_holds : says (line (cmd (Do (do_it (here "A") [] ∷ [])) ∷ write (text "b" ∷ []) ∷ cmd (Quit None) ∷ []) ∷
    at "A" (write (text "1" ∷ []) ∷ cmd_if (text "0") (Quit None) ∷ write (text "2" ∷ []) ∷ cmd_if (text "1") (Quit None) ∷ write (text "3" ∷ []) ∷ []) ∷ [])
    ≡ Some (codes "12b")
unfolding digits
quit_where_a_condition_holds = refl

--  DO A WRITE "x" /  QUIT / A FOR I=1:1:2 WRITE I HALT
halt_in_a_frame : says (line (cmd (Do (do_it (here "A") [] ∷ [])) ∷ write (text "x" ∷ []) ∷ []) ∷
    line (cmd (Quit None) ∷ []) ∷
    at "A" (cmd (For (local (codes "I")) (UpTo (text "1") (text "1") (text "2") ∷ [])) ∷ write (get "I" ∷ []) ∷ cmd Halt ∷ []) ∷ [])
    ≡ Some (codes "1")
unfolding digits
halt_in_a_frame = refl

-- What is asked, where a job stands, and how deep it is.

--  FOR A(^X)=^A:^B:^C WRITE A(1)
-- the subscripts of the local come first, then the numbers from left to right
for_asks_in_order : asks (
    line (cmd (For (local_at (codes "A") (one (Value (global (codes "X"))))) (UpTo (one (Value (global (codes "A")))) (one (Value (global (codes "B")))) (one (Value (global (codes "C")))) ∷ []))
    ∷ write (one (Value (local_at (codes "A") (text "1"))) ∷ []) ∷ []) ∷ [])
    (reply.Done ∷ reply.Answer (answer.Value (Some (codes "1"))) ∷ reply.Answer (answer.Value (Some (codes "2"))) ∷ reply.Answer (answer.Value (Some (codes "4")))
    ∷ reply.Answer (answer.Value (Some (codes "7"))) ∷ replicate 4 reply.Done)
    ≡ ask.Device (codes "0") device_asks.Begin ∷ ask.Shared (shared_asks.Access (access.Value (name (codes "X")))) ∷ ask.Shared (shared_asks.Access (access.Value (name (codes "A"))))
    ∷ ask.Shared (shared_asks.Access (access.Value (name (codes "B"))))
    ∷ ask.Shared (shared_asks.Access (access.Value (name (codes "C")))) ∷ ask.Device (codes "0") (device_asks.Write (codes "2")) ∷ ask.Device (codes "0") (device_asks.Write (codes "6"))
    ∷ ask.Device (codes "0") device_asks.End ∷ ask.Shared (shared_asks.Halt None) ∷ []
unfolding digits
for_asks_in_order = refl

--  DO A(^X,^Y):^Z,B:^X,Z(^X)
-- a condition, then the values, then what is done there, or the fault
do_asks_in_order : asks (
    line (cmd (Do (do_if (one (Value (global (codes "Z")))) (here "A") (Some (one (Value (global (codes "X")))) ∷ Some (one (Value (global (codes "Y")))) ∷ [])
    ∷ do_if (one (Value (global (codes "X")))) (here "B") [] ∷ do_it (here "Z") (Some (one (Value (global (codes "X")))) ∷ []) ∷ [])) ∷ []) ∷
    with "A" (codes "X" ∷ codes "Y" ∷ []) (write (get "X" ∷ get "Y" ∷ []) ∷ []) ∷ [])
    (reply.Done ∷ reply.Answer (answer.Value (Some (codes "1"))) ∷ reply.Answer (answer.Value (Some (codes "2"))) ∷ reply.Answer (answer.Value (Some (codes "3")))
    ∷ reply.Done ∷ reply.Done ∷ reply.Answer (answer.Value (Some (codes "0"))) ∷ reply.Answer (answer.Value (Some (codes "4"))) ∷ replicate 3 reply.Done)
    ≡ ask.Device (codes "0") device_asks.Begin ∷ ask.Shared (shared_asks.Access (access.Value (name (codes "Z")))) ∷ ask.Shared (shared_asks.Access (access.Value (name (codes "X"))))
    ∷ ask.Shared (shared_asks.Access (access.Value (name (codes "Y"))))
    ∷ ask.Device (codes "0") (device_asks.Write (codes "2")) ∷ ask.Device (codes "0") (device_asks.Write (codes "3")) ∷ ask.Shared (shared_asks.Access (access.Value (name (codes "X"))))
    ∷ ask.Shared (shared_asks.Access (access.Value (name (codes "X"))))
    ∷ ask.Device (codes "0") (device_asks.Write (10 ∷ codes "F8 NOLINE R:1" ++ 10 ∷ [])) ∷ ask.Device (codes "0") device_asks.End ∷ ask.Shared (shared_asks.Halt (Some faults.NoLine)) ∷ []
unfolding digits
do_asks_in_order = refl

--  SET I=7 FOR I=1:1:"1000000000000000000"
-- all are read before the local is set
for_reads_all_before_it_sets : stands (line (assign (let_be "I" (text "7") ∷ []) ∷ cmd (For (local (codes "I")) (UpTo (text "1") (text "1") (text "1000000000000000000") ∷ [])) ∷ []) ∷ []) 1
    ≡ Needs (ask.Device (codes "0") (device_asks.Write (codes "F4 RANGE R:1" ++ 10 ∷ []))) ((plain_name (codes "I"), codes "7") ∷ []) (spot 1 ∷ [])
unfolding digits
for_reads_all_before_it_sets = refl

--  FOR I=5:1:3 WRITE "x"
-- the local is set also where there is no pass
for_leaves_its_local : stands (line (cmd (For (local (codes "I")) (UpTo (text "5") (text "1") (text "3") ∷ [])) ∷ write (text "x" ∷ []) ∷ []) ∷ []) 1
    ≡ Needs (ask.Device (codes "0") device_asks.End) ((plain_name (codes "I"), codes "5") ∷ []) (spot 1 ∷ [])
unfolding digits
for_leaves_its_local = refl

--  SET X=1 DO A / A NEW X SET Y=2 DO  WRITE "x" /  . HALT
-- nothing is undone
halt_leaves_frames : stands (
    line (assign (let_be "X" (text "1") ∷ []) ∷ cmd (Do (do_it (here "A") [] ∷ [])) ∷ []) ∷
    at "A" (cmd (New (Fresh (codes "X") ∷ [])) ∷ assign (let_be "Y" (text "2") ∷ []) ∷ cmd (Do []) ∷ write (text "x" ∷ []) ∷ []) ∷
    deep 2 (cmd Halt ∷ []) ∷ []) 1
    ≡ Needs (ask.Device (codes "0") device_asks.End) ((plain_name (codes "Y"), codes "2") ∷ []) (spot 3 ∷ spot 2 ∷ spot 1 ∷ [])
halt_leaves_frames = refl

--  SET X=1 NEW X QUIT
-- the QUIT of the first frame is a HALT
quit_of_the_first_frame_undoes_nothing : stands (
    line (assign (let_be "X" (text "1") ∷ []) ∷ cmd (New (Fresh (codes "X") ∷ [])) ∷ cmd (Quit None) ∷ []) ∷ []) 1
    ≡ Needs (ask.Device (codes "0") device_asks.End) [] (spot 1 ∷ [])
quit_of_the_first_frame_undoes_nothing = refl

--  DO A / A SET X=1 /  . WRITE "x"
-- a routine's end is a QUIT at its last line, deeper or not
end_of_a_routine : stands (line (cmd (Do (do_it (here "A") [] ∷ [])) ∷ []) ∷ at "A" (assign (let_be "X" (text "1") ∷ []) ∷ []) ∷ deep 2 (write (text "x" ∷ []) ∷ []) ∷ []) 1
    ≡ Needs (ask.Device (codes "0") device_asks.End) ((plain_name (codes "X"), codes "1") ∷ []) (spot 3 ∷ [])
end_of_a_routine = refl

-- A start at `A^R`:  WRITE "x" / A(X) WRITE $DATA(X)
start_at_a_label : says_within 400 (("R", line (write (text "x" ∷ []) ∷ []) ∷ with "A" (codes "X" ∷ []) (write (data_of (local (codes "X")) ∷ []) ∷ []) ∷ []) ∷ [])
    (record { label = Some (codes "A"); routine = codes "R" })
    ≡ Some (codes "0")
unfolding digits
start_at_a_label = refl

-- A start at `A^R`:  DO / A . WRITE "x"
start_in_a_block : says_within 400 (("R", line (cmd (Do []) ∷ []) ∷ deep_at 2 "A" (write (text "x" ∷ []) ∷ []) ∷ []) ∷ [])
    (record { label = Some (codes "A"); routine = codes "R" })
    ≡ Some (codes "F8 NOLINE -" ++ 10 ∷ [])
unfolding digits
start_in_a_block = refl

-- A DO A
too_deep : says_within 1200 (("R", at "A" (cmd (Do (do_it (here "A") [] ∷ [])) ∷ []) ∷ []) ∷ []) (record { label = None; routine = codes "R" })
    ≡ Some (codes "F17 DEPTH R:1" ++ 10 ∷ [])
unfolding digits
too_deep = refl

-- With 511 frames there may be one more; with 512 there may not.

--  DO A / A WRITE "a"
last_frame : says_deep 511 (line (cmd (Do (do_it (here "A") [] ∷ [])) ∷ []) ∷ at "A" (write (text "a" ∷ []) ∷ []) ∷ []) ≡ codes "a"
unfolding digits
last_frame = refl

one_frame_more : says_deep 512 (line (cmd (Do (do_it (here "A") [] ∷ [])) ∷ []) ∷ at "A" (write (text "a" ∷ []) ∷ []) ∷ []) ≡ codes "F17 DEPTH R:1" ++ 10 ∷ []
unfolding digits
one_frame_more = refl

--  DO  WRITE "a" /  . WRITE "b"
last_block : says_deep 511 (line (cmd (Do []) ∷ write (text "a" ∷ []) ∷ []) ∷ deep 2 (write (text "b" ∷ []) ∷ []) ∷ []) ≡ codes "b"
unfolding digits
last_block = refl

one_block_more : says_deep 512 (line (cmd (Do []) ∷ write (text "a" ∷ []) ∷ []) ∷ []) ≡ codes "F17 DEPTH R:1" ++ 10 ∷ []
unfolding digits
one_block_more = refl

--  DO A(1) / A WRITE "a"
values_before_depth : says_deep 512 (line (cmd (Do (do_it (here "A") (Some (text "1") ∷ []) ∷ [])) ∷ []) ∷ at "A" (write (text "a" ∷ []) ∷ []) ∷ [])
    ≡ codes "F22 PARAMS R:1" ++ 10 ∷ []
unfolding digits
values_before_depth = refl

--  DO Z
line_before_depth : says_deep 512 (line (cmd (Do (do_it (here "Z") [] ∷ [])) ∷ []) ∷ []) ≡ codes "F8 NOLINE R:1" ++ 10 ∷ []
unfolding digits
line_before_depth = refl

-- Turns: what is done after so many, and not after one less. Each has one for the start, for each line that is come to, for the end of the last line, and for the ask at the end.

--  FOR I=1:1:2
-- three literals; the name of the local; three passes tried, of which the last is none; the argument done
turns_of_a_for : turns (line (cmd (For (local (codes "I")) (UpTo (text "1") (text "1") (text "2") ∷ [])) ∷ []) ∷ []) 12
    ≡ (More, Needs (ask.Device (codes "0") device_asks.End) ((plain_name (codes "I"), codes "2") ∷ []) (spot 1 ∷ []))
unfolding digits
turns_of_a_for = refl

--  DO A(5) QUIT / A(X,Y) QUIT
-- the literal; the call; a formal with a value, and one without; two QUITs
turns_of_a_call : turns (line (cmd (Do (do_it (here "A") (Some (text "5") ∷ []) ∷ [])) ∷ cmd (Quit None) ∷ []) ∷ with "A" (codes "X" ∷ codes "Y" ∷ []) (cmd (Quit None) ∷ []) ∷ []) 10
    ≡ (More, Needs (ask.Device (codes "0") device_asks.End) [] (spot 1 ∷ []))
unfolding digits
turns_of_a_call = refl

-- A(X,Y) QUIT
-- the formals of the line where the job starts; the QUIT
turns_of_the_first_call : turns (with "A" (codes "X" ∷ codes "Y" ∷ []) (cmd (Quit None) ∷ []) ∷ []) 6 ≡ (More, Needs (ask.Device (codes "0") device_asks.End) [] (spot 1 ∷ []))
unfolding digits
turns_of_the_first_call = refl

--  / A(X,Y) QUIT
-- a line that is come to takes none for its formals; the QUIT
turns_of_a_line_with_formals : turns (line [] ∷ with "A" (codes "X" ∷ codes "Y" ∷ []) (cmd (Quit None) ∷ []) ∷ []) 5 ≡ (More, Needs (ask.Device (codes "0") device_asks.End) [] (spot 2 ∷ []))
unfolding digits
turns_of_a_line_with_formals = refl
