-- What routines with FOR, conditions and blocks do, by computing: what they write from their start to their end, a fault's line
-- included. The text of each stands above it, a `/` between its lines.
use Rattle.std.specs.Prelude.{◌≡◌, refl, [], ◌∷◌, ◌++◌, Some, None, codes}
use Rattle.std.specs.Fmt.{digits}
use Rattle.mj_oper.specs.declared.op.Op.TheVariants.{Add, Divide, Join, Is, IsNot}
use Rattle.mj_oper.specs.declared.op.TruthOp.TheVariants.{Equal, Less, Greater}
use Rattle.mj_oper.specs.declared.op.UnaryOp.TheVariants.{Minus}
use Rattle.mj_ast.specs.Syntax.{Chain, Done, Then, Literal, Value, Unary, Gone, Kill, If, Else, For, Forever, Single, Endless, UpTo, Do, Goto, Quit}
use Rattle.mj_semantics.proofs.Talk.{says, cmd, cmd_if, line, at, deep, one, local, local_at, text, get, test, data_of, write, assign, let_be, here, do_it, go, go_if}

-- FOR by steps.

--  FOR I=1:1:3 /  WRITE I /  FOR I=5:1:3 WRITE "x" /  WRITE I
for_by_steps : says (line (cmd (For (local (codes "I")) (UpTo (text "1") (text "1") (text "3") ∷ [])) ∷ []) ∷
    line (write (get "I" ∷ []) ∷ []) ∷
    line (cmd (For (local (codes "I")) (UpTo (text "5") (text "1") (text "3") ∷ [])) ∷ write (text "x" ∷ []) ∷ []) ∷
    line (write (get "I" ∷ []) ∷ []) ∷ [])
    ≡ Some (codes "35")
unfolding digits
for_by_steps = refl

--  FOR I=3:-1:1 WRITE I /  WRITE I /  FOR I=1:-1:2 WRITE "x" /  WRITE I
for_down : says (line (cmd (For (local (codes "I")) (UpTo (text "3") (one (Unary Minus (Literal (codes "1")))) (text "1") ∷ [])) ∷ write (get "I" ∷ []) ∷ []) ∷
    line (write (get "I" ∷ []) ∷ []) ∷
    line (cmd (For (local (codes "I")) (UpTo (text "1") (one (Unary Minus (Literal (codes "1")))) (text "2") ∷ [])) ∷ write (text "x" ∷ []) ∷ []) ∷
    line (write (get "I" ∷ []) ∷ []) ∷ [])
    ≡ Some (codes "32111")
unfolding digits
for_down = refl

--  FOR I=1:2:6 WRITE I /  WRITE I
for_does_not_pass_its_end : says (line (cmd (For (local (codes "I")) (UpTo (text "1") (text "2") (text "6") ∷ [])) ∷ write (get "I" ∷ []) ∷ []) ∷
    line (write (get "I" ∷ []) ∷ []) ∷ [])
    ≡ Some (codes "1355")
unfolding digits
for_does_not_pass_its_end = refl

--  FOR I=3:-2:0 WRITE I /  WRITE I
for_does_not_pass_its_end_down : says (line (cmd (For (local (codes "I")) (UpTo (text "3") (one (Unary Minus (Literal (codes "2")))) (text "0") ∷ [])) ∷ write (get "I" ∷ []) ∷ []) ∷
    line (write (get "I" ∷ []) ∷ []) ∷ [])
    ≡ Some (codes "311")
unfolding digits
for_does_not_pass_its_end_down = refl

--  SET N=3,S=1 FOR I=1:S:N SET N=9,S=2 WRITE I
for_evaluates_its_range_once : says (line (assign (let_be "N" (text "3") ∷ let_be "S" (text "1") ∷ [])
    ∷ cmd (For (local (codes "I")) (UpTo (text "1") (get "S") (get "N") ∷ [])) ∷ assign (let_be "N" (text "9") ∷ let_be "S" (text "2") ∷ []) ∷ write (get "I" ∷ []) ∷ []) ∷ [])
    ≡ Some (codes "123")
unfolding digits
for_evaluates_its_range_once = refl

--  SET I=5 FOR I=1:1:I WRITE I /  FOR I=I:I:I+I WRITE ",",I
for_sets_its_local_last : says (line (assign (let_be "I" (text "5") ∷ []) ∷ cmd (For (local (codes "I")) (UpTo (text "1") (text "1") (get "I") ∷ [])) ∷ write (get "I" ∷ []) ∷ []) ∷
    line (cmd (For (local (codes "I")) (UpTo (get "I") (get "I") (Chain (Value (local (codes "I"))) (Then Add (Value (local (codes "I"))) Done)) ∷ [])) ∷ write (text "," ∷ get "I" ∷ []) ∷ []) ∷ [])
    ≡ Some (codes "12345,5,10")
unfolding digits
for_sets_its_local_last = refl

--  FOR I=1:1:9 SET I=I+4 WRITE I /  WRITE I
-- a pass may have changed it
for_reads_its_local_anew : says (line (cmd (For (local (codes "I")) (UpTo (text "1") (text "1") (text "9") ∷ []))
    ∷ assign (let_be "I" (Chain (Value (local (codes "I"))) (Then Add (Literal (codes "4")) Done)) ∷ []) ∷ write (get "I" ∷ []) ∷ []) ∷
    line (write (get "I" ∷ []) ∷ []) ∷ [])
    ≡ Some (codes "51010")
unfolding digits
for_reads_its_local_anew = refl

--  FOR I="01":"1x":"+2y" WRITE I,"," /  FOR I="a":1:1 WRITE I,","
for_reads_numbers : says (line (cmd (For (local (codes "I")) (UpTo (text "01") (text "1x") (text "+2y") ∷ [])) ∷ write (get "I" ∷ text "," ∷ []) ∷ []) ∷
    line (cmd (For (local (codes "I")) (UpTo (text "a") (text "1") (text "1") ∷ [])) ∷ write (get "I" ∷ text "," ∷ []) ∷ []) ∷ [])
    ≡ Some (codes "1,2,0,1,")
unfolding digits
for_reads_numbers = refl

--  FOR I=1:1:2 WRITE I SET I="x"_I QUIT:$DATA(J)  SET J=1
-- the text is read as a number again: `x1` is 0
for_reads_what_a_pass_left : says (line (cmd (For (local (codes "I")) (UpTo (text "1") (text "1") (text "2") ∷ [])) ∷ write (get "I" ∷ []) ∷ assign (let_be "I"
    (Chain (Literal (codes "x")) (Then Join (Value (local (codes "I"))) Done)) ∷ []) ∷ cmd_if (data_of (local (codes "J"))) (Quit None) ∷ assign (let_be "J" (text "1") ∷ []) ∷ []) ∷ [])
    ≡ Some (codes "11")
unfolding digits
for_reads_what_a_pass_left = refl

--  FOR I=999999999999999998:1:999999999999999999 WRITE "a" /  FOR I=-999999999999999999:-1:-999999999999999999 WRITE "b"
-- what is behind the end is compared, and is no number of the language
for_at_the_greatest_number : says (line (cmd (For (local (codes "I")) (UpTo (text "999999999999999998") (text "1") (text "999999999999999999") ∷ [])) ∷ write (text "a" ∷ []) ∷ []) ∷
    line (cmd (For (local (codes "I")) (UpTo (one (Unary Minus (Literal (codes "999999999999999999"))))
    (one (Unary Minus (Literal (codes "1")))) (one (Unary Minus (Literal (codes "999999999999999999")))) ∷ [])) ∷ write (text "b" ∷ []) ∷ []) ∷ [])
    ≡ Some (codes "aab")
unfolding digits
for_at_the_greatest_number = refl

--  FOR I=999999999999999998:1 WRITE "a"
for_without_end_passes_the_greatest_number : says (line (cmd (For (local (codes "I")) (Endless (text "999999999999999998") (text "1") ∷ [])) ∷ write (text "a" ∷ []) ∷ []) ∷ [])
    ≡ Some (codes "aa" ++ 10 ∷ codes "F4 RANGE R:1" ++ 10 ∷ [])
unfolding digits
for_without_end_passes_the_greatest_number = refl

--  FOR I=1:1:3 WRITE I KILL I
for_loses_its_local : says (line (cmd (For (local (codes "I")) (UpTo (text "1") (text "1") (text "3") ∷ [])) ∷ write (get "I" ∷ []) ∷ cmd (Kill (Gone (local (codes "I")) ∷ [])) ∷ []) ∷ [])
    ≡ Some (codes "1" ++ 10 ∷ codes "F20 FORINDEX R:1" ++ 10 ∷ [])
unfolding digits
for_loses_its_local = refl

--  FOR I=1:1:1 WRITE I KILL I
-- also where there would be no further pass
for_loses_its_local_at_the_end : says (line (cmd (For (local (codes "I")) (UpTo (text "1") (text "1") (text "1") ∷ [])) ∷ write (get "I" ∷ []) ∷ cmd (Kill (Gone (local (codes "I")) ∷ [])) ∷ []) ∷ [])
    ≡ Some (codes "1" ++ 10 ∷ codes "F20 FORINDEX R:1" ++ 10 ∷ [])
unfolding digits
for_loses_its_local_at_the_end = refl

--  FOR I=1:1 WRITE I KILL I
for_without_end_loses_its_local : says (line (cmd (For (local (codes "I")) (Endless (text "1") (text "1") ∷ [])) ∷ write (get "I" ∷ []) ∷ cmd (Kill (Gone (local (codes "I")) ∷ [])) ∷ []) ∷ [])
    ≡ Some (codes "1" ++ 10 ∷ codes "F20 FORINDEX R:1" ++ 10 ∷ [])
unfolding digits
for_without_end_loses_its_local = refl

--  FOR I=1,2 WRITE I KILL I
for_of_one_value_needs_no_local : says (line (cmd (For (local (codes "I")) (Single (text "1") ∷ Single (text "2") ∷ [])) ∷ write (get "I" ∷ []) ∷ cmd (Kill (Gone (local (codes "I")) ∷ [])) ∷ []) ∷ [])
    ≡ Some (codes "12")
unfolding digits
for_of_one_value_needs_no_local = refl

--  FOR I=1:1:3 WRITE I KILL I QUIT /  WRITE "e"
-- a QUIT tests nothing
for_left_without_its_local : says
    (line (cmd (For (local (codes "I")) (UpTo (text "1") (text "1") (text "3") ∷ [])) ∷ write (get "I" ∷ []) ∷ cmd (Kill (Gone (local (codes "I")) ∷ [])) ∷ cmd (Quit None) ∷ []) ∷
    line (write (text "e" ∷ []) ∷ []) ∷ [])
    ≡ Some (codes "1e")
unfolding digits
for_left_without_its_local = refl

--  FOR I="a","01",3 WRITE I,","
for_of_texts : says (line (cmd (For (local (codes "I")) (Single (text "a") ∷ Single (text "01") ∷ Single (text "3") ∷ [])) ∷ write (get "I" ∷ text "," ∷ []) ∷ []) ∷ [])
    ≡ Some (codes "a,01,3,")
unfolding digits
for_of_texts = refl

--  SET N=1 FOR I=N,N,N:1:N+1 WRITE I SET N=N+1
for_evaluates_a_range_when_it_is_reached : says (line (assign (let_be "N" (text "1") ∷ [])
    ∷ cmd (For (local (codes "I")) (Single (get "N") ∷ Single (get "N") ∷ UpTo (get "N") (text "1") (Chain (Value (local (codes "N"))) (Then Add (Literal (codes "1")) Done)) ∷ []))
    ∷ write (get "I" ∷ []) ∷ assign (let_be "N" (Chain (Value (local (codes "N"))) (Then Add (Literal (codes "1")) Done)) ∷ []) ∷ []) ∷ [])
    ≡ Some (codes "1234")
unfolding digits
for_evaluates_a_range_when_it_is_reached = refl

--  FOR I=5:1:3,8 WRITE I
for_without_a_pass_goes_on : says (line (cmd (For (local (codes "I")) (UpTo (text "5") (text "1") (text "3") ∷ Single (text "8") ∷ [])) ∷ write (get "I" ∷ []) ∷ []) ∷ [])
    ≡ Some (codes "8")
unfolding digits
for_without_a_pass_goes_on = refl

--  SET J=1 FOR A(J)=1:1:3 SET J=J+1 /  WRITE A(1),$DATA(A(2))
for_evaluates_its_subscripts_once : says (line (assign (let_be "J" (text "1") ∷ []) ∷ cmd (For (local_at (codes "A") (get "J")) (UpTo (text "1") (text "1") (text "3") ∷ []))
    ∷ assign (let_be "J" (Chain (Value (local (codes "J"))) (Then Add (Literal (codes "1")) Done)) ∷ []) ∷ []) ∷
    line (write (one (Value (local_at (codes "A") (text "1"))) ∷ data_of (local_at (codes "A") (text "2")) ∷ []) ∷ []) ∷ [])
    ≡ Some (codes "30")
unfolding digits
for_evaluates_its_subscripts_once = refl

--  FOR A("")=1/0
for_names_its_local_first : says (line (cmd (For (local_at (codes "A") (one (Literal []))) (Single (Chain (Literal (codes "1")) (Then Divide (Literal (codes "0")) Done)) ∷ [])) ∷ []) ∷ [])
    ≡ Some (codes "F6 SUBSCRIPT R:1" ++ 10 ∷ [])
unfolding digits
for_names_its_local_first = refl

--  FOR I="9999999999999999999":1/0:1
for_evaluates_all_before_it_reads : says
    (line (cmd (For (local (codes "I")) (UpTo (text "9999999999999999999") (Chain (Literal (codes "1")) (Then Divide (Literal (codes "0")) Done)) (text "1") ∷ [])) ∷ []) ∷ [])
    ≡ Some (codes "F2 DIVIDE R:1" ++ 10 ∷ [])
unfolding digits
for_evaluates_all_before_it_reads = refl

--  FOR I=1:0:5
-- it doesn't end
for_without_end : says (line (cmd (For (local (codes "I")) (UpTo (text "1") (text "0") (text "5") ∷ [])) ∷ []) ∷ [])
    ≡ None
unfolding digits
for_without_end = refl

--  SET I=0 FOR  SET I=I+1 QUIT:I>3  WRITE I /  WRITE "e"
for_forever : says (line (assign (let_be "I" (text "0") ∷ []) ∷ cmd Forever ∷ assign (let_be "I" (Chain (Value (local (codes "I"))) (Then Add (Literal (codes "1")) Done)) ∷ [])
    ∷ cmd_if (Chain (Value (local (codes "I"))) (Then (Is Greater) (Literal (codes "3")) Done)) (Quit None) ∷ write (get "I" ∷ []) ∷ []) ∷
    line (write (text "e" ∷ []) ∷ []) ∷ [])
    ≡ Some (codes "123e")
unfolding digits
for_forever = refl

-- QUIT and GOTO in a FOR, and conditions.

--  FOR I=7,1:1:2 FOR  WRITE I QUIT /  WRITE I
-- and then comes the next pass of the one around it
quit_leaves_the_innermost_for : says (line (cmd (For (local (codes "I")) (Single (text "7") ∷ UpTo (text "1") (text "1") (text "2") ∷ [])) ∷ cmd Forever ∷ write (get "I" ∷ []) ∷ cmd (Quit None) ∷ [])
    ∷ line (write (get "I" ∷ []) ∷ []) ∷ [])
    ≡ Some (codes "7122")
unfolding digits
quit_leaves_the_innermost_for = refl

--  FOR I=7,8 WRITE I QUIT /  WRITE "e"
quit_leaves_all_ranges : says (line (cmd (For (local (codes "I")) (Single (text "7") ∷ Single (text "8") ∷ [])) ∷ write (get "I" ∷ []) ∷ cmd (Quit None) ∷ []) ∷
    line (write (text "e" ∷ []) ∷ []) ∷ [])
    ≡ Some (codes "7e")
unfolding digits
quit_leaves_all_ranges = refl

--  FOR I=1:1:3 GOTO B:I=2 WRITE I / B WRITE "b",I
goto_leaves_a_for : says (line (cmd (For (local (codes "I")) (UpTo (text "1") (text "1") (text "3") ∷ []))
    ∷ cmd (Goto (go_if (Chain (Value (local (codes "I"))) (Then (Is Equal) (Literal (codes "2")) Done)) (here "B") ∷ [])) ∷ write (get "I" ∷ []) ∷ []) ∷
    at "B" (write (text "b" ∷ get "I" ∷ []) ∷ []) ∷ [])
    ≡ Some (codes "1b2")
unfolding digits
goto_leaves_a_for = refl

--  DO A WRITE "e" QUIT / A FOR I=1:1:2 FOR J=1:1:2 WRITE I,J GOTO B /  WRITE "x" / B QUIT /  WRITE "x"
-- a QUIT behind it is that of the frame
goto_leaves_every_for : says (line (cmd (Do (do_it (here "A") [] ∷ [])) ∷ write (text "e" ∷ []) ∷ cmd (Quit None) ∷ []) ∷
    at "A" (cmd (For (local (codes "I")) (UpTo (text "1") (text "1") (text "2") ∷ []))
    ∷ cmd (For (local (codes "J")) (UpTo (text "1") (text "1") (text "2") ∷ [])) ∷ write (get "I" ∷ get "J" ∷ []) ∷ cmd (Goto (go (here "B") ∷ [])) ∷ []) ∷
    line (write (text "x" ∷ []) ∷ []) ∷
    at "B" (cmd (Quit None) ∷ []) ∷
    line (write (text "x" ∷ []) ∷ []) ∷ [])
    ≡ Some (codes "11e")
unfolding digits
goto_leaves_every_for = refl

--  FOR I=1:1:3 IF I'=2 WRITE I /  FOR I=1,2 WRITE I ELSE  WRITE "x" /  FOR I=1,2 WRITE I IF 0 /  FOR I=1,2 WRITE I IF  WRITE "x" /  WRITE "e"
a_false_condition_ends_a_pass : says (line (cmd (For (local (codes "I")) (UpTo (text "1") (text "1") (text "3") ∷ []))
    ∷ cmd (If (Chain (Value (local (codes "I"))) (Then (IsNot Equal) (Literal (codes "2")) Done) ∷ [])) ∷ write (get "I" ∷ []) ∷ []) ∷
    line (cmd (For (local (codes "I")) (Single (text "1") ∷ Single (text "2") ∷ [])) ∷ write (get "I" ∷ []) ∷ cmd Else ∷ write (text "x" ∷ []) ∷ []) ∷
    line (cmd (For (local (codes "I")) (Single (text "1") ∷ Single (text "2") ∷ [])) ∷ write (get "I" ∷ []) ∷ cmd (If (text "0" ∷ [])) ∷ []) ∷
    line (cmd (For (local (codes "I")) (Single (text "1") ∷ Single (text "2") ∷ [])) ∷ write (get "I" ∷ []) ∷ cmd (If []) ∷ write (text "x" ∷ []) ∷ []) ∷
    line (write (text "e" ∷ []) ∷ []) ∷ [])
    ≡ Some (codes "13121212e")
unfolding digits
a_false_condition_ends_a_pass = refl

--  FOR I=1:1:2 FOR J=1:1:3 IF I<J WRITE I,J,","
a_false_condition_ends_an_inner_pass : says
    (line (cmd (For (local (codes "I")) (UpTo (text "1") (text "1") (text "2") ∷ [])) ∷ cmd (For (local (codes "J")) (UpTo (text "1") (text "1") (text "3") ∷ []))
    ∷ cmd (If (Chain (Value (local (codes "I"))) (Then (Is Less) (Value (local (codes "J"))) Done) ∷ [])) ∷ write (get "I" ∷ get "J" ∷ text "," ∷ []) ∷ []) ∷ [])
    ≡ Some (codes "12,13,23,")
unfolding digits
a_false_condition_ends_an_inner_pass = refl

--  IF 1,0 WRITE "x" /  WRITE $TEST ELSE  WRITE "e" /  IF 1,$TEST WRITE "t" /  ELSE  WRITE "x"
each_condition_sets_test : says (line (cmd (If (text "1" ∷ text "0" ∷ [])) ∷ write (text "x" ∷ []) ∷ []) ∷
    line (write (test ∷ []) ∷ cmd Else ∷ write (text "e" ∷ []) ∷ []) ∷
    line (cmd (If (text "1" ∷ test ∷ [])) ∷ write (text "t" ∷ []) ∷ []) ∷
    line (cmd Else ∷ write (text "x" ∷ []) ∷ []) ∷ [])
    ≡ Some (codes "0et")
unfolding digits
each_condition_sets_test = refl

--  IF 0,1/0 WRITE "x" /  WRITE $TEST IF  WRITE "x" /  IF 1 SET X=1 /  IF  WRITE "a"
conditions_stop_at_a_false_one : says (line (cmd (If (text "0" ∷ Chain (Literal (codes "1")) (Then Divide (Literal (codes "0")) Done) ∷ [])) ∷ write (text "x" ∷ []) ∷ []) ∷
    line (write (test ∷ []) ∷ cmd (If []) ∷ write (text "x" ∷ []) ∷ []) ∷
    line (cmd (If (text "1" ∷ [])) ∷ assign (let_be "X" (text "1") ∷ []) ∷ []) ∷
    line (cmd (If []) ∷ write (text "a" ∷ []) ∷ []) ∷ [])
    ≡ Some (codes "0a")
unfolding digits
conditions_stop_at_a_false_one = refl

--  WRITE $TEST IF  WRITE "x" /  ELSE  WRITE "e"
test_begins_as_false : says (line (write (test ∷ []) ∷ cmd (If []) ∷ write (text "x" ∷ []) ∷ []) ∷
    line (cmd Else ∷ write (text "e" ∷ []) ∷ []) ∷ [])
    ≡ Some (codes "0e")
unfolding digits
test_begins_as_false = refl

-- Blocks and levels.

-- A IF 1 DO  WRITE Y /  . SET Y=1 IF 0 /  . SET Y=2 /  ELSE  WRITE "e"
block_restores_test : says (at "A" (cmd (If (text "1" ∷ [])) ∷ cmd (Do []) ∷ write (get "Y" ∷ []) ∷ []) ∷
    deep 2 (assign (let_be "Y" (text "1") ∷ []) ∷ cmd (If (text "0" ∷ [])) ∷ []) ∷
    deep 2 (assign (let_be "Y" (text "2") ∷ []) ∷ []) ∷
    line (cmd Else ∷ write (text "e" ∷ []) ∷ []) ∷ [])
    ≡ Some (codes "2")
unfolding digits
block_restores_test = refl

--  IF 1 DO  WRITE $TEST /  . IF 0 /  . QUIT /  . WRITE "x" /  IF 0 /  DO  WRITE $TEST /  . IF 1
block_left_restores_test : says (line (cmd (If (text "1" ∷ [])) ∷ cmd (Do []) ∷ write (test ∷ []) ∷ []) ∷
    deep 2 (cmd (If (text "0" ∷ [])) ∷ []) ∷
    deep 2 (cmd (Quit None) ∷ []) ∷
    deep 2 (write (text "x" ∷ []) ∷ []) ∷
    line (cmd (If (text "0" ∷ [])) ∷ []) ∷
    line (cmd (Do []) ∷ write (test ∷ []) ∷ []) ∷
    deep 2 (cmd (If (text "1" ∷ [])) ∷ []) ∷ [])
    ≡ Some (codes "10")
unfolding digits
block_left_restores_test = refl

--  IF 1 DO A WRITE $TEST QUIT / A IF 0
do_of_a_label_leaves_test : says (line (cmd (If (text "1" ∷ [])) ∷ cmd (Do (do_it (here "A") [] ∷ [])) ∷ write (test ∷ []) ∷ cmd (Quit None) ∷ []) ∷
    at "A" (cmd (If (text "0" ∷ [])) ∷ []) ∷ [])
    ≡ Some (codes "0")
unfolding digits
do_of_a_label_leaves_test = refl

--  DO A WRITE $TEST QUIT / A IF 1
do_of_a_label_gives_test : says (line (cmd (Do (do_it (here "A") [] ∷ [])) ∷ write (test ∷ []) ∷ cmd (Quit None) ∷ []) ∷
    at "A" (cmd (If (text "1" ∷ [])) ∷ []) ∷ [])
    ≡ Some (codes "1")
unfolding digits
do_of_a_label_gives_test = refl

--  FOR I=1:1:2 DO  WRITE "a" /  . WRITE I QUIT /  . WRITE "x"
-- it is not that of the FOR
quit_of_a_block : says (line (cmd (For (local (codes "I")) (UpTo (text "1") (text "1") (text "2") ∷ [])) ∷ cmd (Do []) ∷ write (text "a" ∷ []) ∷ []) ∷
    deep 2 (write (get "I" ∷ []) ∷ cmd (Quit None) ∷ []) ∷
    deep 2 (write (text "x" ∷ []) ∷ []) ∷ [])
    ≡ Some (codes "1a2a")
unfolding digits
quit_of_a_block = refl

--  WRITE 1 /  . WRITE "x" /  WRITE 2 DO  WRITE "e" /  . . WRITE "x" /  . WRITE 3 /  . . WRITE "x" /  . WRITE 4
deeper_lines_are_passed_over : says (line (write (text "1" ∷ []) ∷ []) ∷
    deep 2 (write (text "x" ∷ []) ∷ []) ∷
    line (write (text "2" ∷ []) ∷ cmd (Do []) ∷ write (text "e" ∷ []) ∷ []) ∷
    deep 3 (write (text "x" ∷ []) ∷ []) ∷
    deep 2 (write (text "3" ∷ []) ∷ []) ∷
    deep 3 (write (text "x" ∷ []) ∷ []) ∷
    deep 2 (write (text "4" ∷ []) ∷ []) ∷ [])
    ≡ Some (codes "1234e")
unfolding digits
deeper_lines_are_passed_over = refl

--  DO  WRITE "e" /  . WRITE 1 DO  WRITE "f" /  . . WRITE 2 /  WRITE 3 /  . WRITE "x"
a_less_deep_line_ends_blocks : says (line (cmd (Do []) ∷ write (text "e" ∷ []) ∷ []) ∷
    deep 2 (write (text "1" ∷ []) ∷ cmd (Do []) ∷ write (text "f" ∷ []) ∷ []) ∷
    deep 3 (write (text "2" ∷ []) ∷ []) ∷
    line (write (text "3" ∷ []) ∷ []) ∷
    deep 2 (write (text "x" ∷ []) ∷ []) ∷ [])
    ≡ Some (codes "12fe3")
unfolding digits
a_less_deep_line_ends_blocks = refl

--  DO  WRITE "a" /  WRITE "b"
an_empty_block : says (line (cmd (Do []) ∷ write (text "a" ∷ []) ∷ []) ∷
    line (write (text "b" ∷ []) ∷ []) ∷ [])
    ≡ Some (codes "ab")
unfolding digits
an_empty_block = refl

--  DO  WRITE "a"
a_block_at_the_end_of_a_routine : says (line (cmd (Do []) ∷ write (text "a" ∷ []) ∷ []) ∷ [])
    ≡ Some (codes "a")
unfolding digits
a_block_at_the_end_of_a_routine = refl

--  DO  WRITE "c" QUIT /  . DO A WRITE "b" / A WRITE "a" /  . WRITE "x"
a_label_in_a_block_calls_level_1 : says (line (cmd (Do []) ∷ write (text "c" ∷ []) ∷ cmd (Quit None) ∷ []) ∷
    deep 2 (cmd (Do (do_it (here "A") [] ∷ [])) ∷ write (text "b" ∷ []) ∷ []) ∷
    at "A" (write (text "a" ∷ []) ∷ []) ∷
    deep 2 (write (text "x" ∷ []) ∷ []) ∷ [])
    ≡ Some (codes "abc")
unfolding digits
a_label_in_a_block_calls_level_1 = refl
