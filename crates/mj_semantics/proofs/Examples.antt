-- What some small routines ask, by computing. The text of each stands above it, a `/` between its lines.
use Rattle.std.specs.Prelude.{◌≡◌, refl, ℕ, true, List, [], ◌∷◌, ◌++◌, Some, None, codes, replicate}
use Rattle.std.specs.Fmt.{digits}
use Rattle.mj_text.specs.declared.fault.Fault.TheVariants as faults
use Rattle.mj_store.specs.declared.access.Access.TheVariants as access
use Rattle.mj_store.specs.declared.access.Answer.TheVariants as answer
use Rattle.mj_ask.specs.declared.ask.Ask.TheVariants as ask
use Rattle.mj_ask.specs.declared.ask.SharedAsk.TheVariants as shared_asks
use Rattle.mj_ask.specs.declared.ask.DeviceAsk.TheVariants as device_asks
use Rattle.mj_ask.specs.declared.ask.Reply.{Reply}
use Rattle.mj_ask.specs.declared.ask.Reply.TheVariants as reply
use Rattle.mj_oper.specs.declared.op.Op.TheVariants.{Add, Multiply, Divide, Join, Is}
use Rattle.mj_oper.specs.declared.op.TruthOp.TheVariants.{Equal}
use Rattle.mj_oper.specs.declared.op.UnaryOp.TheVariants.{Minus}
use Rattle.mj_ast.specs.declared.routine.FormatMark.TheVariants.{NewLine}
use Rattle.mj_ast.specs.Syntax.{Chain, Done, Then, Value, Unary, No, More, Plain, Pieces, Several, One, Gone, Spared, Set, Write, Shown, Halt, Kill, Merge, About, Var}
use Rattle.mj_semantics.proofs.Talk.{asks, cmd, cmd_if, line, one, lit, local, local_at, global, global_at, name, name_at, to, set, show, marks}
use Rattle.mj_ast.specs.declared.expr.Scope.TheVariants.{Global}
use Rattle.mj_ast.specs.declared.function.NameFunction.TheVariants as names
use Rattle.mj_store.specs.declared.store.Direction.TheVariants.{Backward}

abbrev zero_name : List ℕ
zero_name = codes "0"

-- so many replies that say no more than that it is done, and then these
abbrev done : ℕ → List Reply → List Reply
done k replies = replicate k reply.Done ++ replies

-- SET ^A=2+3*4 WRITE ^A,! HALT
first_run : asks (
    line (cmd (Set (record { targets = to (global (codes "A")); value = Chain (lit (codes "2")) (Then Add (lit (codes "3")) (Then Multiply (lit (codes "4")) Done)) } ∷ []))
    ∷ cmd (Write (Shown (one (Value (global (codes "A")))) ∷ marks (NewLine ∷ []) ∷ [])) ∷ cmd Halt ∷ []) ∷ [])
    (done 1 (reply.Answer answer.Done ∷ reply.Answer (answer.Value (Some (codes "20"))) ∷ done 4 []))
    ≡ ask.Device zero_name device_asks.Begin ∷ ask.Shared (shared_asks.Access (access.Set (name (codes "A")) (codes "20"))) ∷ ask.Shared (shared_asks.Access (access.Value (name (codes "A"))))
    ∷ ask.Device zero_name (device_asks.Write (codes "20")) ∷ ask.Device zero_name (device_asks.Write (10 ∷ [])) ∷ ask.Device zero_name device_asks.End ∷ ask.Shared (shared_asks.Halt None) ∷ []
unfolding digits
first_run = refl

-- SET X=1,X(2)=X+1 WRITE X(2)_X,Y
undefined : asks (
    line (cmd (Set (record { targets = to (local (codes "X")); value = one (lit (codes "1")) }
    ∷ record { targets = to (local_at (codes "X") (one (lit (codes "2")))); value = Chain (Value (local (codes "X"))) (Then Add (lit (codes "1")) Done) } ∷ []))
    ∷ cmd (Write (Shown (Chain (Value (local_at (codes "X") (one (lit (codes "2"))))) (Then Join (Value (local (codes "X"))) Done)) ∷ Shown (one (Value (local (codes "Y")))) ∷ [])) ∷ []) ∷ [])
    (done 5 [])
    ≡ ask.Device zero_name device_asks.Begin ∷ ask.Device zero_name (device_asks.Write (codes "21"))
    ∷ ask.Device zero_name (device_asks.Write (10 ∷ codes "F1 UNDEF R:1" ++ 10 ∷ [])) ∷ ask.Device zero_name device_asks.End ∷ ask.Shared (shared_asks.Halt (Some faults.Undefined)) ∷ []
unfolding digits
undefined = refl

-- a routine without a line
no_line : asks [] (done 4 [])
    ≡ ask.Device zero_name device_asks.Begin ∷ ask.Device zero_name (device_asks.Write (codes "F8 NOLINE -" ++ 10 ∷ [])) ∷ ask.Device zero_name device_asks.End
    ∷ ask.Shared (shared_asks.Halt (Some faults.NoLine)) ∷ []
unfolding digits
no_line = refl

-- WRITE "a",! / WRITE:1=2 "b" WRITE:"x"=0 "c" WRITE:-3 "d" / HALT:"0" WRITE "" WRITE:1 "e"
conditions : asks (
    line (cmd (Write (Shown (one (lit (codes "a"))) ∷ marks (NewLine ∷ []) ∷ [])) ∷ [])
    ∷ line (cmd_if (Chain (lit (codes "1")) (Then (Is Equal) (lit (codes "2")) Done)) (Write (Shown (one (lit (codes "b"))) ∷ []))
    ∷ cmd_if (Chain (lit (codes "x")) (Then (Is Equal) (lit (codes "0")) Done)) (Write (Shown (one (lit (codes "c"))) ∷ []))
    ∷ cmd_if (one (Unary Minus (lit (codes "3")))) (Write (Shown (one (lit (codes "d"))) ∷ [])) ∷ [])
    ∷ line (cmd_if (one (lit (codes "0"))) Halt ∷ cmd (Write (Shown (one (lit [])) ∷ [])) ∷ cmd_if (one (lit (codes "1"))) (Write (Shown (one (lit (codes "e"))) ∷ [])) ∷ [])
    ∷ []) (done 6 [])
    ≡ ask.Device zero_name device_asks.Begin ∷ ask.Device zero_name (device_asks.Write (codes "a")) ∷ ask.Device zero_name (device_asks.Write (10 ∷ []))
    ∷ ask.Device zero_name (device_asks.Write (codes "d")) ∷ ask.Device zero_name (device_asks.Write (codes "e")) ∷ ask.Device zero_name device_asks.End ∷ ask.Shared (shared_asks.Halt None) ∷ []
unfolding digits
conditions = refl

-- WRITE "a" / SET A(^B)=1/0: the subscripts come before the value, an empty one is found before the value is looked at
subscript_first : asks (
    line (cmd (Set (record { targets = to (local_at (codes "A") (one (Value (global (codes "B"))))); value = one (Value (local (codes "Z"))) } ∷ [])) ∷ []) ∷ [])
    (done 1 (reply.Answer (answer.Value (Some [])) ∷ done 3 []))
    ≡ ask.Device zero_name device_asks.Begin ∷ ask.Shared (shared_asks.Access (access.Value (name (codes "B")))) ∷ ask.Device zero_name (device_asks.Write (codes "F6 SUBSCRIPT R:1" ++ 10 ∷ []))
    ∷ ask.Device zero_name device_asks.End ∷ ask.Shared (shared_asks.Halt (Some faults.Subscript)) ∷ []
unfolding digits
subscript_first = refl

-- WRITE 999999999999999999+1
range : asks (line (cmd (Write (Shown (Chain (lit (codes "999999999999999999")) (Then Add (lit (codes "1")) Done)) ∷ [])) ∷ []) ∷ []) (done 4 [])
    ≡ ask.Device zero_name device_asks.Begin ∷ ask.Device zero_name (device_asks.Write (codes "F4 RANGE R:1" ++ 10 ∷ [])) ∷ ask.Device zero_name device_asks.End
    ∷ ask.Shared (shared_asks.Halt (Some faults.Range)) ∷ []
unfolding digits
range = refl

-- SET X="a,b",$PIECE(X,",",4)="d" WRITE X
fourth_piece : asks (
    line (cmd (Set (set (to (local (codes "X"))) (one (lit (codes "a,b")))
    ∷ set (One (Pieces (local (codes "X")) (More (one (lit (codes ","))) (More (one (lit (codes "4"))) No)))) (one (lit (codes "d"))) ∷ []))
    ∷ cmd (Write (show (Value (local (codes "X"))) ∷ [])) ∷ []) ∷ [])
    (done 4 [])
    ≡ ask.Device zero_name device_asks.Begin ∷ ask.Device zero_name (device_asks.Write (codes "a,b,,d")) ∷ ask.Device zero_name device_asks.End ∷ ask.Shared (shared_asks.Halt None) ∷ []
unfolding digits
fourth_piece = refl

-- SET $PIECE(^X,"",1)=1,$PIECE(^X,"-",2)="b": by no separator it is neither read nor assigned
pieces_of_a_global : asks (
    line (cmd (Set (set (One (Pieces (global (codes "X")) (More (one (lit [])) (More (one (lit (codes "1"))) No)))) (one (lit (codes "1")))
    ∷ set (One (Pieces (global (codes "X")) (More (one (lit (codes "-"))) (More (one (lit (codes "2"))) No)))) (one (lit (codes "b"))) ∷ [])) ∷ []) ∷ [])
    (done 1 (reply.Answer (answer.Value None) ∷ reply.Answer answer.Done ∷ done 3 []))
    ≡ ask.Device zero_name device_asks.Begin ∷ ask.Shared (shared_asks.Access (access.Value (name (codes "X")))) ∷ ask.Shared (shared_asks.Access (access.Set (name (codes "X")) (codes "-b")))
    ∷ ask.Device zero_name device_asks.End ∷ ask.Shared (shared_asks.Halt None) ∷ []
unfolding digits
pieces_of_a_global = refl

-- SET (^A(I),I,^A(I))=2 after SET I=1: all names are whole before the value, and the assignments go from left to right
list_from_the_left : asks (
    line (cmd (Set (set (to (local (codes "I"))) (one (lit (codes "1")))
    ∷ set (Several (Plain (global_at (codes "A") (one (Value (local (codes "I"))))) ∷ Plain (local (codes "I")) ∷ Plain (global_at (codes "A") (one (Value (local (codes "I"))))) ∷ []))
    (Chain (Value (local (codes "I"))) (Then Add (lit (codes "1")) Done)) ∷ []))
    ∷ cmd (Write (show (Value (local (codes "I"))) ∷ [])) ∷ []) ∷ [])
    (done 1 (reply.Answer answer.Done ∷ reply.Answer answer.Done ∷ done 3 []))
    ≡ ask.Device zero_name device_asks.Begin ∷ ask.Shared (shared_asks.Access (access.Set (name_at (codes "A") (codes "1" ∷ [])) (codes "2")))
    ∷ ask.Shared (shared_asks.Access (access.Set (name_at (codes "A") (codes "1" ∷ [])) (codes "2")))
    ∷ ask.Device zero_name (device_asks.Write (codes "2")) ∷ ask.Device zero_name device_asks.End ∷ ask.Shared (shared_asks.Halt None) ∷ []
unfolding digits
list_from_the_left = refl

-- SET (X,$PIECE(X,",",2))="a" WRITE X: the pieces are those of the value as it then is
list_reads_what_it_assigned : asks (
    line (cmd (Set (set (Several (Plain (local (codes "X")) ∷ Pieces (local (codes "X")) (More (one (lit (codes ","))) (More (one (lit (codes "2"))) No)) ∷ [])) (one (lit (codes "a"))) ∷ []))
    ∷ cmd (Write (show (Value (local (codes "X"))) ∷ [])) ∷ []) ∷ [])
    (done 4 [])
    ≡ ask.Device zero_name device_asks.Begin ∷ ask.Device zero_name (device_asks.Write (codes "a,a")) ∷ ask.Device zero_name device_asks.End ∷ ask.Shared (shared_asks.Halt None) ∷ []
unfolding digits
list_reads_what_it_assigned = refl

-- SET (X,A(""))=^Y: a name that isn't one is found before the value is looked at, and nothing is assigned
list_of_bad_names : asks (
    line (cmd (Set (set (Several (Plain (local (codes "X")) ∷ Plain (local_at (codes "A") (one (lit []))) ∷ [])) (one (Value (global (codes "Y")))) ∷ [])) ∷ []) ∷ [])
    (done 4 [])
    ≡ ask.Device zero_name device_asks.Begin ∷ ask.Device zero_name (device_asks.Write (codes "F6 SUBSCRIPT R:1" ++ 10 ∷ [])) ∷ ask.Device zero_name device_asks.End
    ∷ ask.Shared (shared_asks.Halt (Some faults.Subscript)) ∷ []
unfolding digits
list_of_bad_names = refl

-- SET X=1,X(1)=2,Y=3 KILL X WRITE Y,X(1)
killed_below : asks (
    line (cmd (Set (set (to (local (codes "X"))) (one (lit (codes "1"))) ∷ set (to (local_at (codes "X") (one (lit (codes "1"))))) (one (lit (codes "2")))
    ∷ set (to (local (codes "Y"))) (one (lit (codes "3"))) ∷ []))
    ∷ cmd (Kill (Gone (local (codes "X")) ∷ [])) ∷ cmd (Write (show (Value (local (codes "Y"))) ∷ show (Value (local_at (codes "X") (one (lit (codes "1"))))) ∷ [])) ∷ []) ∷ [])
    (done 5 [])
    ≡ ask.Device zero_name device_asks.Begin ∷ ask.Device zero_name (device_asks.Write (codes "3")) ∷ ask.Device zero_name (device_asks.Write (10 ∷ codes "F1 UNDEF R:1" ++ 10 ∷ []))
    ∷ ask.Device zero_name device_asks.End
    ∷ ask.Shared (shared_asks.Halt (Some faults.Undefined)) ∷ []
unfolding digits
killed_below = refl

-- SET (X(1),Y)=1 KILL (X),^B(2) WRITE X(1),Y
killed_but_some : asks (
    line (cmd (Set (set (Several (Plain (local_at (codes "X") (one (lit (codes "1")))) ∷ Plain (local (codes "Y")) ∷ [])) (one (lit (codes "1"))) ∷ []))
    ∷ cmd (Kill (Spared (codes "X" ∷ []) ∷ Gone (global_at (codes "B") (one (lit (codes "2")))) ∷ []))
    ∷ cmd (Write (show (Value (local_at (codes "X") (one (lit (codes "1"))))) ∷ show (Value (local (codes "Y"))) ∷ [])) ∷ []) ∷ [])
    (done 1 (reply.Answer answer.Done ∷ done 4 []))
    ≡ ask.Device zero_name device_asks.Begin ∷ ask.Shared (shared_asks.Access (access.Kill (name_at (codes "B") (codes "2" ∷ [])))) ∷ ask.Device zero_name (device_asks.Write (codes "1"))
    ∷ ask.Device zero_name (device_asks.Write (10 ∷ codes "F1 UNDEF R:1" ++ 10 ∷ [])) ∷ ask.Device zero_name device_asks.End ∷ ask.Shared (shared_asks.Halt (Some faults.Undefined)) ∷ []
unfolding digits
killed_but_some = refl

-- SET X=1 KILL  WRITE X
killed_all : asks (line (cmd (Set (set (to (local (codes "X"))) (one (lit (codes "1"))) ∷ [])) ∷ cmd (Kill []) ∷ cmd (Write (show (Value (local (codes "X"))) ∷ [])) ∷ []) ∷ [])
    (done 4 [])
    ≡ ask.Device zero_name device_asks.Begin ∷ ask.Device zero_name (device_asks.Write (codes "F1 UNDEF R:1" ++ 10 ∷ [])) ∷ ask.Device zero_name device_asks.End
    ∷ ask.Shared (shared_asks.Halt (Some faults.Undefined)) ∷ []
unfolding digits
killed_all = refl

-- MERGE ^B=^A(1), where the globals have ^A(1)=1 and ^A(1,2)=2
merged : asks (line (cmd (Merge (record { into = global (codes "B"); from = global_at (codes "A") (one (lit (codes "1"))) } ∷ [])) ∷ []) ∷ [])
    (done 1 (reply.Answer (answer.Subtree (([], codes "1") ∷ (codes "2" ∷ [], codes "2") ∷ [])) ∷ reply.Answer answer.Done ∷ done 3 []))
    ≡ ask.Device zero_name device_asks.Begin ∷ ask.Shared (shared_asks.Access (access.Subtree (name_at (codes "A") (codes "1" ∷ []))))
    ∷ ask.Shared (shared_asks.Access (access.Put (name (codes "B")) (([], codes "1") ∷ (codes "2" ∷ [], codes "2") ∷ [])))
    ∷ ask.Device zero_name device_asks.End ∷ ask.Shared (shared_asks.Halt None) ∷ []
unfolding digits
merged = refl

-- MERGE ^B=^A,X=^A,^B=Y WRITE X, where the globals have nothing below ^A for the first time, and a value for the second; Y has none
merged_nothing : asks (
    line (cmd (Merge (record { into = global (codes "B"); from = global (codes "A") } ∷ record { into = local (codes "X"); from = global (codes "A") }
    ∷ record { into = global (codes "B"); from = local (codes "Y") } ∷ []))
    ∷ cmd (Write (show (Value (local (codes "X"))) ∷ [])) ∷ []) ∷ [])
    (done 1 (reply.Answer (answer.Subtree []) ∷ reply.Answer (answer.Subtree (([], codes "x") ∷ [])) ∷ done 3 []))
    ≡ ask.Device zero_name device_asks.Begin ∷ ask.Shared (shared_asks.Access (access.Subtree (name (codes "A")))) ∷ ask.Shared (shared_asks.Access (access.Subtree (name (codes "A"))))
    ∷ ask.Device zero_name (device_asks.Write (codes "x")) ∷ ask.Device zero_name device_asks.End ∷ ask.Shared (shared_asks.Halt None) ∷ []
unfolding digits
merged_nothing = refl

-- MERGE ^A(1)=^A
overlap : asks (line (cmd (Merge (record { into = global_at (codes "A") (one (lit (codes "1"))); from = global (codes "A") } ∷ [])) ∷ []) ∷ []) (done 4 [])
    ≡ ask.Device zero_name device_asks.Begin ∷ ask.Device zero_name (device_asks.Write (codes "F14 OVERLAP R:1" ++ 10 ∷ [])) ∷ ask.Device zero_name device_asks.End
    ∷ ask.Shared (shared_asks.Halt (Some faults.Overlap)) ∷ []
unfolding digits
overlap = refl

-- MERGE ^A=A: a global and a local don't overlap
apart : asks (line (cmd (Merge (record { into = global (codes "A"); from = local (codes "A") } ∷ [])) ∷ []) ∷ []) (done 3 [])
    ≡ ask.Device zero_name device_asks.Begin ∷ ask.Device zero_name device_asks.End ∷ ask.Shared (shared_asks.Halt None) ∷ []
unfolding digits
apart = refl

-- MERGE X(1)=^A, where the globals have a name with 31 subscripts: a limit of the locals, which stay as they are
merged_too_deep : asks (
    line (cmd (Merge (record { into = local_at (codes "X") (one (lit (codes "1"))); from = global (codes "A") } ∷ [])) ∷ []) ∷ [])
    (done 1 (reply.Answer (answer.Subtree (([], codes "x") ∷ (replicate 31 (codes "1"), codes "y") ∷ [])) ∷ done 3 []))
    ≡ ask.Device zero_name device_asks.Begin ∷ ask.Shared (shared_asks.Access (access.Subtree (name (codes "A")))) ∷ ask.Device zero_name (device_asks.Write (codes "F18 LIMIT R:1" ++ 10 ∷ []))
    ∷ ask.Device zero_name device_asks.End ∷ ask.Shared (shared_asks.Halt (Some faults.Limit)) ∷ []
unfolding digits
merged_too_deep = refl

-- WRITE $ORDER(^A(""),-1),$GET(^A,"d"),$NAME(A(1)),$DATA(A)
functions_of_names : asks (
    line (cmd (Write (Shown (one (About names.Order (Var Global (codes "A") (More (one (lit [])) No)) (More (one (Unary Minus (lit (codes "1")))) No)))
    ∷ Shown (one (About names.Get (global (codes "A")) (More (one (lit (codes "d"))) No)))
    ∷ Shown (one (About names.Name (local_at (codes "A") (one (lit (codes "1")))) No))
    ∷ Shown (one (About names.Data (local (codes "A")) No)) ∷ [])) ∷ []) ∷ [])
    (done 1 (reply.Answer (answer.Order (Some (codes "9"))) ∷ done 1 (reply.Answer (answer.Value None) ∷ done 5 [])))
    ≡ ask.Device zero_name device_asks.Begin
    ∷ ask.Shared (shared_asks.Access (access.Order (record { global = true; word = codes "A"; subscripts = [] ∷ [] }) Backward)) ∷ ask.Device zero_name (device_asks.Write (codes "9"))
    ∷ ask.Shared (shared_asks.Access (access.Value (name (codes "A")))) ∷ ask.Device zero_name (device_asks.Write (codes "d"))
    ∷ ask.Device zero_name (device_asks.Write (codes "A(1)")) ∷ ask.Device zero_name (device_asks.Write (codes "0")) ∷ ask.Device zero_name device_asks.End ∷ ask.Shared (shared_asks.Halt None) ∷ []
unfolding digits
functions_of_names = refl

-- $GET(^A(""),1/0) is SUBSCRIPT, before its other argument
empty_name : asks (
    line (cmd (Write (Shown (one (About names.Get (Var Global (codes "A") (More (one (lit [])) No)) (More (Chain (lit (codes "1")) (Then Divide (lit (codes "0")) Done)) No))) ∷ [])) ∷ []) ∷ [])
    (done 4 [])
    ≡ ask.Device zero_name device_asks.Begin ∷ ask.Device zero_name (device_asks.Write (codes "F6 SUBSCRIPT R:1" ++ 10 ∷ [])) ∷ ask.Device zero_name device_asks.End
    ∷ ask.Shared (shared_asks.Halt (Some faults.Subscript)) ∷ []
unfolding digits
empty_name = refl
