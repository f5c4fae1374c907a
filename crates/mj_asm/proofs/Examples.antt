-- The code of a small routine, by computing. Its text stands above it, a `/` between its lines.
use Rattle.std.specs.Prelude.{◌≡◌, refl, ℕ, true, false, List, [], ◌∷◌, Some, None, codes}
use Rattle.mj_ast.specs.declared.expr.Scope.TheVariants.{Local, Global}
use Rattle.mj_ast.specs.declared.routine.FormatMark.TheVariants.{NewLine}
use Rattle.mj_ast.specs.declared.routine.Serial.TheVariants.{Bare}
use Rattle.mj_ast.specs.Syntax.{Expr, Chain, Done, Then, Operand, Literal, Value, Extrinsic, NoActual, Given, Omitted, Var, No, More, One, Several, Plain, Pieces, Gone, Spared, Kill, Merge, Set, Write, Shown, Format, Halt, If, Else, For, Forever, Single, UpTo, Do, Goto, Quit, New, Fresh, Kept, Listed, TStart, TCommit, TRestart, TRollback, Break, Line}
use Rattle.mj_oper.specs.declared.op.Op.TheVariants.{Add, Is}
use Rattle.mj_oper.specs.declared.op.TruthOp.TheVariants.{Equal}
use Rattle.mj_pcode.specs.declared.instr.Restores.TheVariants as restores
use Rattle.mj_pcode.specs.declared.instr.Instr.TheVariants as instr
use Rattle.mj_asm.specs.Code.{lines_code, starts}
use Rattle.mj_semantics.specs.Lines.{Here}
use Rattle.mj_pcode.specs.declared.instr.Span.TheVariants as span
use Rattle.mj_pcode.specs.Labels.{line_with}
use Rattle.mj_asm.specs.Correct.{with_labels}

abbrev lit : ℕ → Operand
lit digit = Literal (digit ∷ [])

-- the first line of the routine R
abbrev here : Here
here = record { routine = codes "R"; line = 1 }

-- A SET ^X(1)=2+3 WRITE:Y=4 5,!! / B / A HALT
abbrev text : List Line
text =
    record {
      label = Some (codes "A");
      formals = [];
      level = 1;
      steps =
          record { condition = None; command = Set (record { targets = One (Plain (Var Global (codes "X") (More (Chain (lit 49) Done) No))); value = Chain (lit 50) (Then Add (lit 51) Done) } ∷ []) }
          ∷ record {
            condition = Some (Chain (Value (Var Local (codes "Y") No)) (Then (Is Equal) (lit 52) Done));
            command = Write (Shown (Chain (lit 53) Done) ∷ Format (record { marks = NewLine ∷ NewLine ∷ []; column = None }) ∷ []);
          } ∷ [];
    }
    ∷ record { label = Some (codes "B"); formals = []; level = 1; steps = [] }
    ∷ record { label = Some (codes "A"); formals = []; level = 1; steps = record { condition = None; command = Halt } ∷ [] }
    ∷ []

instructions : lines_code 0 here text
    ≡ instr.Line (record { line = 1; level = 1; next = 14 })
    ∷ instr.Push (49 ∷ []) ∷ instr.CheckName (record { scope = Global; word = codes "X"; count = 1 })
    ∷ instr.Push (50 ∷ []) ∷ instr.Push (51 ∷ []) ∷ instr.Binary Add ∷ instr.Store (record { scope = Global; word = codes "X"; count = 1 }) (record { above = 1; taken = 2 })
    ∷ instr.Load (record { scope = Local; word = codes "Y"; count = 0 }) ∷ instr.Push (52 ∷ []) ∷ instr.Binary (Is Equal) ∷ instr.JumpUnless 14
    ∷ instr.Push (53 ∷ []) ∷ instr.Write ∷ instr.WriteFormat (NewLine ∷ NewLine ∷ [])
    ∷ instr.Line (record { line = 2; level = 1; next = 15 })
    ∷ instr.Line (record { line = 3; level = 1; next = 17 }) ∷ instr.Halt ∷ []
instructions = refl

begins : starts 0 here text ≡ 0 ∷ 14 ∷ 15 ∷ []
begins = refl

-- A, B, A: the first line with a label counts
labels : with_labels [] 1 text ≡ (codes "A", 1) ∷ (codes "B", 2) ∷ []
labels = refl

first_of_two : line_with (codes "A") (with_labels [] 1 text) ≡ Some 1
first_of_two = refl

no_such_label : line_with (codes "C") (with_labels [] 1 text) ≡ None
no_such_label = refl

-- SET (X,$PIECE(^Y(1),"-"))=2 KILL ^Y(1),(X) KILL  MERGE ^Z=^Y(1)
abbrev commands : List Line
commands =
    record {
      label = None;
      formals = [];
      level = 1;
      steps =
          record {
            condition = None;
            command =
                Set (record {
                  targets = Several (Plain (Var Local (codes "X") No) ∷ Pieces (Var Global (codes "Y") (More (Chain (lit 49) Done) No)) (More (Chain (lit 45) Done) No) ∷ []);
                  value = Chain (lit 50) Done;
                } ∷ []);
          }
          ∷ record { condition = None; command = Kill (Gone (Var Global (codes "Y") (More (Chain (lit 49) Done) No)) ∷ Spared (codes "X" ∷ []) ∷ []) }
          ∷ record { condition = None; command = Kill [] }
          ∷ record { condition = None; command = Merge (record { into = Var Global (codes "Z") No; from = Var Global (codes "Y") (More (Chain (lit 49) Done) No) } ∷ []) } ∷ [];
    }
    ∷ []

their_instructions : lines_code 0 here commands
    ≡ instr.Line (record { line = 1; level = 1; next = 20 })
    ∷ instr.CheckName (record { scope = Local; word = codes "X"; count = 0 })
    ∷ instr.Push (49 ∷ []) ∷ instr.CheckName (record { scope = Global; word = codes "Y"; count = 1 }) ∷ instr.Push (45 ∷ [])
    ∷ instr.Push (50 ∷ [])
    ∷ instr.Store (record { scope = Local; word = codes "X"; count = 0 }) (record { above = 3; taken = 0 })
    ∷ instr.SetPiece (record { scope = Global; word = codes "Y"; count = 1 }) 1 (record { above = 1; taken = 0 })
    ∷ instr.Store (record { scope = Global; word = codes "Y"; count = 1 }) (record { above = 3; taken = 1 })
    ∷ instr.Discard 3
    ∷ instr.Push (49 ∷ []) ∷ instr.CheckName (record { scope = Global; word = codes "Y"; count = 1 }) ∷ instr.Kill (record { scope = Global; word = codes "Y"; count = 1 })
    ∷ instr.Discard 0 ∷ instr.KillExcept (codes "X" ∷ []) ∷ instr.KillExcept []
    ∷ instr.CheckName (record { scope = Global; word = codes "Z"; count = 0 })
    ∷ instr.Push (49 ∷ []) ∷ instr.MergeTake (record { scope = Global; word = codes "Z"; count = 0 }) (record { scope = Global; word = codes "Y"; count = 1 })
    ∷ instr.MergePut (record { scope = Global; word = codes "Z"; count = 0 }) ∷ []
their_instructions = refl

abbrev digit : ℕ → Expr
digit d = Chain (lit d) Done

-- A(X) FOR I=1,2:3:4 IF 5 QUIT:6  DO B^S(7) / . ELSE  DO
abbrev control : List Line
control =
    record {
      label = Some (codes "A");
      formals = codes "X" ∷ [];
      level = 1;
      steps =
          record { condition = None; command = For (Var Local (codes "I") No) (Single (digit 49) ∷ UpTo (digit 50) (digit 51) (digit 52) ∷ []) }
          ∷ record { condition = None; command = If (digit 53 ∷ []) }
          ∷ record { condition = Some (digit 54); command = Quit None }
          ∷ record { condition = None; command = Do (record { target = record { label = Some (codes "B"); routine = Some (codes "S") }; actuals = Some (digit 55) ∷ []; condition = None } ∷ []) } ∷ [];
    }
    ∷ record { label = None; formals = []; level = 2; steps = record { condition = None; command = Else } ∷ record { condition = None; command = Do [] } ∷ [] }
    ∷ []

control_instructions : lines_code 0 here control
    ≡ instr.Line (record { line = 1; level = 1; next = 17 })
    ∷ instr.ForOpen (codes "I") 0 9
    ∷ instr.Push (49 ∷ []) ∷ instr.ForBegin span.One
    ∷ instr.Push (50 ∷ []) ∷ instr.Push (51 ∷ []) ∷ instr.Push (52 ∷ []) ∷ instr.ForBegin span.UpTo
    ∷ instr.ForClose 17
    ∷ instr.Push (53 ∷ []) ∷ instr.SetTest 16
    ∷ instr.Push (54 ∷ []) ∷ instr.JumpUnless 14 ∷ instr.Jump 8
    ∷ instr.Push (55 ∷ []) ∷ instr.Do (record { label = Some (codes "B"); routine = codes "S" }) (true ∷ [])
    ∷ instr.ForAgain
    ∷ instr.Line (record { line = 2; level = 2; next = 20 }) ∷ instr.JumpIfTest 20 ∷ instr.DoBlock 2 ∷ []
control_instructions = refl

-- A(X) IF X,1 FOR I=1:1:3 QUIT:I=2  DO B(,I),^D:X / . ELSE  NEW Z,(Y) GOTO A / IF  FOR  DO  QUIT / QUIT:X
abbrev flow : List Line
flow =
    record {
      label = Some (codes "A");
      formals = codes "X" ∷ [];
      level = 1;
      steps =
          record { condition = None; command = If (Chain (Value (Var Local (codes "X") No)) Done ∷ Chain (lit 49) Done ∷ []) }
          ∷ record { condition = None; command = For (Var Local (codes "I") No) (UpTo (Chain (lit 49) Done) (Chain (lit 49) Done) (Chain (lit 51) Done) ∷ []) }
          ∷ record { condition = Some (Chain (Value (Var Local (codes "I") No)) (Then (Is Equal) (lit 50) Done)); command = Quit None }
          ∷ record {
            condition = None;
            command =
                Do (record { target = record { label = Some (codes "B"); routine = None }; actuals = None ∷ Some (Chain (Value (Var Local (codes "I") No)) Done) ∷ []; condition = None }
                ∷ record { target = record { label = None; routine = Some (codes "D") }; actuals = []; condition = Some (Chain (Value (Var Local (codes "X") No)) Done) } ∷ []);
          } ∷ [];
    }
    ∷ record {
      label = None;
      formals = [];
      level = 2;
      steps =
          record { condition = None; command = Else }
          ∷ record { condition = None; command = New (Fresh (codes "Z") ∷ Kept (codes "Y" ∷ []) ∷ []) }
          ∷ record { condition = None; command = Goto (record { target = record { label = Some (codes "A"); routine = None }; condition = None } ∷ []) } ∷ [];
    }
    ∷ record {
      label = None;
      formals = [];
      level = 1;
      steps = record {
        condition = None;
        command = If [];
      } ∷ record { condition = None; command = Forever } ∷ record { condition = None; command = Do [] } ∷ record { condition = None; command = Quit None } ∷ [];
    }
    ∷ record { label = None; formals = []; level = 1; steps = record { condition = Some (Chain (Value (Var Local (codes "X") No)) Done); command = Quit None } ∷ [] }
    ∷ []

flow_instructions : lines_code 0 here flow
    ≡ instr.Line (record { line = 1; level = 1; next = 22 })
    ∷ instr.Load (record { scope = Local; word = codes "X"; count = 0 }) ∷ instr.SetTest 22 ∷ instr.Push (49 ∷ []) ∷ instr.SetTest 22
    ∷ instr.ForOpen (codes "I") 0 11 ∷ instr.Push (49 ∷ []) ∷ instr.Push (49 ∷ []) ∷ instr.Push (51 ∷ []) ∷ instr.ForBegin span.UpTo ∷ instr.ForClose 22
    ∷ instr.Load (record { scope = Local; word = codes "I"; count = 0 }) ∷ instr.Push (50 ∷ []) ∷ instr.Binary (Is Equal) ∷ instr.JumpUnless 16 ∷ instr.Jump 10
    ∷ instr.Load (record { scope = Local; word = codes "I"; count = 0 }) ∷ instr.Do (record { label = Some (codes "B"); routine = codes "R" }) (false ∷ true ∷ [])
    ∷ instr.Load (record { scope = Local; word = codes "X"; count = 0 }) ∷ instr.JumpUnless 21 ∷ instr.Do (record { label = None; routine = codes "D" }) []
    ∷ instr.ForAgain
    ∷ instr.Line (record { line = 2; level = 2; next = 28 })
    ∷ instr.JumpIfTest 28 ∷ instr.New (codes "Z" ∷ []) ∷ instr.Discard 0 ∷ instr.NewExcept (codes "Y" ∷ []) ∷ instr.Goto (record { label = Some (codes "A"); routine = codes "R" })
    ∷ instr.Line (record { line = 3; level = 1; next = 35 })
    ∷ instr.JumpUnlessTest 35 ∷ instr.ForForever ∷ instr.ForClose 35 ∷ instr.DoBlock 3 ∷ instr.Jump 31 ∷ instr.ForAgain
    ∷ instr.Line (record { line = 4; level = 1; next = 39 })
    ∷ instr.Load (record { scope = Local; word = codes "X"; count = 0 }) ∷ instr.JumpUnless 39 ∷ instr.Quit ∷ []
flow_instructions = refl

--  TSTART (X,Y):SERIAL TSTART  TCOMMIT:1  TRESTART  TROLLBACK  BREAK
abbrev transactions : List Line
transactions =
    record {
      label = None;
      formals = [];
      level = 1;
      steps =
          record { condition = None; command = TStart (Some (record { restored = Listed (codes "X" ∷ codes "Y" ∷ []); serial = Bare })) }
          ∷ record { condition = None; command = TStart None }
          ∷ record { condition = Some (digit 49); command = TCommit }
          ∷ record { condition = None; command = TRestart }
          ∷ record { condition = None; command = TRollback }
          ∷ record { condition = None; command = Break } ∷ [];
    }
    ∷ []

transactions_instructions : lines_code 0 here transactions
    ≡ instr.Line (record { line = 1; level = 1; next = 15 })
    ∷ instr.Discard 0 ∷ instr.Discard 0 ∷ instr.StartTransaction (restores.Only (codes "X" ∷ codes "Y" ∷ [])) true ∷ instr.MarkRestart
    ∷ instr.StartTransaction restores.Never false ∷ instr.MarkRestart
    ∷ instr.Push (49 ∷ []) ∷ instr.JumpUnless 11 ∷ instr.Commit ∷ instr.BeginRestart
    ∷ instr.RollBackForRestart ∷ instr.BeginRestart ∷ instr.RollBack ∷ instr.Discard 0 ∷ []
transactions_instructions = refl

-- A SET X=$$F(2,)+1 / F(N,M) QUIT N /  FOR  QUIT 2
abbrev functions : List Line
functions =
    record {
      label = Some (codes "A");
      formals = [];
      level = 1;
      steps = record {
        condition = None;
        command = Set (record {
          targets = One (Plain (Var Local (codes "X") No));
          value = Chain (Extrinsic (record { label = Some (codes "F"); routine = None }) (Given (digit 50) (Omitted NoActual))) (Then Add (lit 49) Done);
        } ∷ []);
      } ∷ [];
    }
    ∷ record {
      label = Some (codes "F");
      formals = codes "N" ∷ codes "M" ∷ [];
      level = 1;
      steps = record { condition = None; command = Quit (Some (Chain (Value (Var Local (codes "N") No)) Done)) } ∷ [];
    }
    ∷ record {
      label = None;
      formals = [];
      level = 1;
      steps = record { condition = None; command = Forever } ∷ record { condition = None; command = Quit (Some (digit 50)) } ∷ [];
    }
    ∷ []

functions_instructions : lines_code 0 here functions
    ≡ instr.Line (record { line = 1; level = 1; next = 7 })
    ∷ instr.CheckName (record { scope = Local; word = codes "X"; count = 0 })
    ∷ instr.Push (50 ∷ []) ∷ instr.Invoke (record { label = Some (codes "F"); routine = None }) (true ∷ false ∷ []) ∷ instr.Push (49 ∷ []) ∷ instr.Binary Add
    ∷ instr.Store (record { scope = Local; word = codes "X"; count = 0 }) (record { above = 1; taken = 1 })
    ∷ instr.Line (record { line = 2; level = 1; next = 11 })
    ∷ instr.CheckFunction ∷ instr.Load (record { scope = Local; word = codes "N"; count = 0 }) ∷ instr.GiveValue
    ∷ instr.Line (record { line = 3; level = 1; next = 16 })
    ∷ instr.ForForever ∷ instr.ForClose 16 ∷ instr.FailQuit ∷ instr.ForAgain ∷ []
functions_instructions = refl
