-- What routines with OPEN, USE, CLOSE, READ, the forms of WRITE and the variables of devices ask, by computing. The text of each stands
-- above it.
use Rattle.std.specs.Prelude.{◌≡◌, refl, ℕ, pos, false, List, [], ◌∷◌, ◌++◌, Option, Some, None, codes, replicate}
use Rattle.std.specs.Fmt.{digits}
use Rattle.mj_text.specs.declared.fault.Fault.{Fault}
use Rattle.mj_text.specs.declared.fault.Fault.TheVariants as faults
use Rattle.mj_store.specs.declared.access.Access.TheVariants as access
use Rattle.mj_store.specs.declared.access.Answer.TheVariants as answer
use Rattle.mj_ask.specs.declared.ask.Ask.{Ask}
use Rattle.mj_ask.specs.declared.ask.Ask.TheVariants as ask
use Rattle.mj_ask.specs.declared.ask.SharedAsk.TheVariants as shared_asks
use Rattle.mj_ask.specs.declared.ask.DeviceAsk.TheVariants as device_asks
use Rattle.mj_ask.specs.declared.ask.Reply.{Reply}
use Rattle.mj_ask.specs.declared.ask.Reply.TheVariants as reply
use Rattle.mj_oper.specs.declared.op.UnaryOp.TheVariants.{Minus}
use Rattle.mj_ast.specs.declared.function.Special.TheVariants as special
use Rattle.mj_ast.specs.declared.routine.FormatMark.TheVariants.{NewLine, NewPage}
use Rattle.mj_ast.specs.declared.routine.ReadMode.TheVariants as mode
use Rattle.mj_ast.specs.Syntax.{Expr, Literal, Intrinsic, Unary, Variable, Output, Shown, Format, Coded, Input, Prompted, Arranged, Into, Write, OpenDevice, UseDevice, CloseDevice, Read, LineCommand}
use Rattle.mj_semantics.specs.State.{OpenDevice as Device, principal, untouched}
use Rattle.mj_semantics.specs.Outcome.{Outcome, no_restart, over}
use Rattle.mj_semantics.specs.Devices.{open_device}
use Rattle.mj_semantics.specs.Job.{opening}
use Rattle.mj_semantics.proofs.Talk.{bounds, asks, asked, cmd, line, one, local, global, name, text, get, test, write, marks}

-- the asks of a job of one line, where the replies are that it is done, these, and again that it is done
abbrev of_line : List LineCommand → List Reply → List Ask
of_line steps replies = asks (line steps ∷ []) (reply.Done ∷ replies ++ replicate 3 reply.Done)

-- the asks of a job of one line that asks these, and is then over
abbrev between : List Ask → List Ask
between list = ask.Device principal device_asks.Begin ∷ list ++ ask.Device principal device_asks.End ∷ ask.Shared (shared_asks.Halt None) ∷ []

-- the same, where it is over by a fault, of which it writes this
abbrev up_to : List Ask → List ℕ → Fault → List Ask
up_to list bytes fault = ask.Device principal device_asks.Begin ∷ list ++ ask.Device principal (device_asks.Write (bytes ++ 10 ∷ [])) ∷ ask.Device principal device_asks.End
    ∷ ask.Shared (shared_asks.Halt (Some fault)) ∷ []

abbrev says : List ℕ → Ask
says bytes = ask.Device principal (device_asks.Write bytes)

abbrev file : List ℕ
file = codes "F"

abbrev opens : Expr → Option Expr → LineCommand
opens e timeout = cmd (OpenDevice (record { device = e; timeout = timeout } ∷ []))

abbrev into : Variable → Option Expr → Input
into v timeout = Into (record { mode = mode.Line; variable = v; timeout = timeout })

abbrev byte_into : Variable → Option Expr → Input
byte_into v timeout = Into (record { mode = mode.Byte; variable = v; timeout = timeout })

abbrev shown : Expr → Output
shown e = Shown e

abbrev io : Expr
io = one (Intrinsic special.Io)

-- OPEN, USE and CLOSE.

--  OPEN "F" USE "F" WRITE "x" WRITE "y", of which the last one fails
fails : of_line (opens (text "F") None ∷ cmd (UseDevice (text "F" ∷ [])) ∷ write (text "x" ∷ []) ∷ write (text "y" ∷ []) ∷ [])
    (reply.Got ∷ reply.Done ∷ reply.Done ∷ reply.Failed ∷ reply.Done ∷ [])
    ≡ ask.Device principal device_asks.Begin ∷ ask.Shared (shared_asks.Open file None) ∷ ask.Device file device_asks.Begin ∷ ask.Device file (device_asks.Write (codes "x"))
    ∷ ask.Device file (device_asks.Write (codes "y"))
    ∷ says (codes "F16 DEVICE R:1" ++ 10 ∷ []) ∷ ask.Device file device_asks.End ∷ ask.Device principal device_asks.End ∷ ask.Shared (shared_asks.Halt (Some faults.Device)) ∷ []
unfolding digits
fails = refl

--  USE "F"
not_open : of_line (cmd (UseDevice (text "F" ∷ [])) ∷ []) (reply.Done ∷ []) ≡ up_to [] (codes "F15 NODEVICE R:1") faults.NoDevice
unfolding digits
not_open = refl

--  OPEN "F", where there is no session of it left
none_left : of_line (opens (text "F") None ∷ []) (reply.NoSession ∷ reply.Done ∷ []) ≡ up_to (ask.Shared (shared_asks.Open file None) ∷ []) (codes "F15 NODEVICE R:1") faults.NoDevice
unfolding digits
none_left = refl

--  OPEN "F", whose session doesn't begin: it is ended all the same
no_begin : of_line (opens (text "F") None ∷ []) (reply.Got ∷ reply.Failed ∷ reply.Done ∷ [])
    ≡ ask.Device principal device_asks.Begin ∷ ask.Shared (shared_asks.Open file None) ∷ ask.Device file device_asks.Begin ∷ says (codes "F16 DEVICE R:1" ++ 10 ∷ [])
    ∷ ask.Device file device_asks.End ∷ ask.Device principal device_asks.End ∷ ask.Shared (shared_asks.Halt (Some faults.Device)) ∷ []
unfolding digits
no_begin = refl

--  OPEN "F"::5 WRITE $TEST OPEN "F"::5 WRITE $TEST OPEN "F"::"x" WRITE $TEST, of which the first comes late, and the last asks nothing
late : of_line (opens (text "F") (Some (text "5")) ∷ write (test ∷ []) ∷ opens (text "F") (Some (text "5")) ∷ write (test ∷ []) ∷ opens (text "F") (Some (text "x")) ∷ write (test ∷ []) ∷ [])
    (reply.Late ∷ reply.Done ∷ reply.Got ∷ reply.Done ∷ reply.Done ∷ reply.Done ∷ reply.Done ∷ [])
    ≡ ask.Device principal device_asks.Begin ∷ ask.Shared (shared_asks.Open file (Some (pos 5))) ∷ says (codes "0") ∷ ask.Shared (shared_asks.Open file (Some (pos 5)))
    ∷ ask.Device file device_asks.Begin ∷ says (codes "1") ∷ says (codes "1")
    ∷ ask.Device file device_asks.End ∷ ask.Device principal device_asks.End ∷ ask.Shared (shared_asks.Halt None) ∷ []
unfolding digits
late = refl

--  OPEN 0::1 WRITE $TEST CLOSE 0,"F" OPEN 0 WRITE $IO: nothing is asked of the principal device, nor to close one that isn't open
principal_stays : of_line (opens (text "0") (Some (text "1")) ∷ write (test ∷ []) ∷ cmd (CloseDevice (text "0" ∷ text "F" ∷ [])) ∷ opens (text "0") None ∷ write (io ∷ []) ∷ [])
    (reply.Done ∷ reply.Done ∷ [])
    ≡ between (says (codes "1") ∷ says (codes "0") ∷ [])
unfolding digits
principal_stays = refl

--  OPEN "F" USE "F" WRITE $IO USE 0 WRITE $IO USE "F" CLOSE "F" WRITE $IO
current : of_line (opens (text "F") None ∷ cmd (UseDevice (text "F" ∷ [])) ∷ write (io ∷ []) ∷ cmd (UseDevice (text "0" ∷ [])) ∷ write (io ∷ []) ∷ cmd (UseDevice (text "F" ∷ []))
    ∷ cmd (CloseDevice (text "F" ∷ [])) ∷ write (io ∷ []) ∷ [])
    (reply.Got ∷ replicate 6 reply.Done)
    ≡ between (ask.Shared (shared_asks.Open file None) ∷ ask.Device file device_asks.Begin ∷ ask.Device file (device_asks.Write file) ∷ says (codes "0") ∷ ask.Device file device_asks.End
    ∷ ask.Shared (shared_asks.Close file) ∷ says (codes "0") ∷ [])
unfolding digits
current = refl

--  OPEN "F" CLOSE "F", whose session doesn't end well: the name is given up, and the job's end doesn't end it again
ends_badly : of_line (opens (text "F") None ∷ cmd (CloseDevice (text "F" ∷ [])) ∷ []) (reply.Got ∷ reply.Done ∷ reply.Failed ∷ reply.Done ∷ reply.Done ∷ [])
    ≡ up_to (ask.Shared (shared_asks.Open file None) ∷ ask.Device file device_asks.Begin ∷ ask.Device file device_asks.End ∷ ask.Shared (shared_asks.Close file) ∷ [])
    (codes "F16 DEVICE R:1") faults.Device
unfolding digits
ends_badly = refl

--  OPEN "F"::"9999999999999999999": the timeout is read before the device is asked for
timeout_first : of_line (opens (text "F") (Some (text "9999999999999999999")) ∷ []) (reply.Done ∷ []) ≡ up_to [] (codes "F4 RANGE R:1") faults.Range
unfolding digits
timeout_first = refl

-- with so many devices open beside the principal one
abbrev others : ℕ → List Device
others n = replicate n (record { name = codes "x"; column = 0; row = 0; failed = false })

abbrev with_open : ℕ → Outcome
with_open n = open_device file None over 9 no_restart (record (opening bounds 1) { devices = untouched ∷ others n }) []

-- a seventeenth one is LIMIT
no_more : (asked (with_open 15) ≡ ask.Shared (shared_asks.Open file None) ∷ []) × (asked (with_open 16) ≡ says (codes "F18 LIMIT -" ++ 10 ∷ []) ∷ [])
unfolding digits
no_more = (refl, refl)

-- READ.

--  READ X WRITE X READ Y:0 WRITE "[",Y,"]",$TEST, where the input ends behind one line
reads : of_line (cmd (Read (into (local (codes "X")) None ∷ [])) ∷ write (get "X" ∷ []) ∷ cmd (Read (into (local (codes "Y")) (Some (text "0")) ∷ []))
    ∷ write (text "[" ∷ get "Y" ∷ text "]" ∷ test ∷ []) ∷ [])
    (reply.Line (codes "hi") ∷ reply.Done ∷ reply.End ∷ reply.Done ∷ reply.Done ∷ reply.Done ∷ [])
    ≡ between (ask.Device principal (device_asks.Line None) ∷ says (codes "hi") ∷ ask.Device principal (device_asks.Line (Some (pos 0))) ∷ says (codes "[") ∷ says (codes "]") ∷ says (codes "0") ∷ [])
unfolding digits
reads = refl

--  READ "n? ",!,^V:1,*X WRITE $TEST,X,$X,$Y: a READ moves neither `$X` nor `$Y`, and without a timeout it leaves `$TEST`
reads_on : of_line
    (cmd (Read (Prompted (codes "n? ") ∷ Arranged (record { marks = NewLine ∷ []; column = None }) ∷ into (global (codes "V")) (Some (text "1")) ∷ byte_into (local (codes "X")) None ∷ []))
    ∷ write (test ∷ get "X" ∷ one (Intrinsic special.X) ∷ one (Intrinsic special.Y) ∷ []) ∷ [])
    (reply.Done ∷ reply.Done ∷ reply.Line (codes "seven") ∷ reply.Answer answer.Done ∷ reply.End ∷ replicate 4 reply.Done)
    ≡ between (says (codes "n? ") ∷ says (10 ∷ []) ∷ ask.Device principal (device_asks.Line (Some (pos 1))) ∷ ask.Shared (shared_asks.Access (access.Set (name (codes "V")) (codes "seven")))
    ∷ ask.Device principal (device_asks.Byte None) ∷ says (codes "1") ∷ says (codes "-1") ∷ says (codes "3") ∷ says (codes "1") ∷ [])
unfolding digits
reads_on = refl

--  READ *X:3,^V:3 WRITE X,$TEST, where the byte is 104 and the line comes late: the empty text is stored
reads_late : of_line (cmd (Read (byte_into (local (codes "X")) (Some (text "3")) ∷ into (global (codes "V")) (Some (text "3")) ∷ [])) ∷ write (get "X" ∷ test ∷ []) ∷ [])
    (reply.Byte 104 ∷ reply.Late ∷ reply.Answer answer.Done ∷ reply.Done ∷ reply.Done ∷ [])
    ≡ between (ask.Device principal (device_asks.Byte (Some (pos 3))) ∷ ask.Device principal (device_asks.Line (Some (pos 3))) ∷ ask.Shared (shared_asks.Access (access.Set (name (codes "V")) []))
    ∷ says (codes "104") ∷ says (codes "0") ∷ [])
unfolding digits
reads_late = refl

--  READ X, where the device fails
reads_nothing : of_line (cmd (Read (into (local (codes "X")) None ∷ [])) ∷ []) (reply.Failed ∷ [])
    ≡ ask.Device principal device_asks.Begin ∷ ask.Device principal (device_asks.Line None) ∷ ask.Device principal device_asks.End ∷ ask.Shared (shared_asks.Halt (Some faults.Device)) ∷ []
unfolding digits
reads_nothing = refl

-- WRITE.

--  WRITE "ab",?5,"c",!,$X," ",$Y
columns : of_line (cmd (Write (shown (text "ab") ∷ Format (record { marks = []; column = Some (text "5") })
    ∷ shown (text "c") ∷ marks (NewLine ∷ []) ∷ shown (one (Intrinsic special.X)) ∷ shown (text " ") ∷ shown (one (Intrinsic special.Y)) ∷ [])) ∷ [])
    (replicate 7 reply.Done)
    ≡ between (says (codes "ab") ∷ says (codes "   ") ∷ says (codes "c") ∷ says (10 ∷ []) ∷ says (codes "0") ∷ says (codes " ") ∷ says (codes "1") ∷ [])
unfolding digits
columns = refl

--  WRITE "abc",!#?2,?1,?-1: the marks come first, by one ask with the spaces; a column that is reached already writes nothing
no_spaces : of_line (cmd (Write (shown (text "abc") ∷ Format (record { marks = NewLine ∷ NewPage ∷ []; column = Some (text "2") }) ∷ Format (record { marks = []; column = Some (text "1") })
    ∷ Format (record { marks = []; column = Some (one (Unary Minus (Literal (codes "1")))) }) ∷ [])) ∷ [])
    (replicate 2 reply.Done)
    ≡ between (says (codes "abc") ∷ says (10 ∷ 12 ∷ codes "  ") ∷ [])
unfolding digits
no_spaces = refl

--  WRITE *65,*255,*256
bytes : of_line (cmd (Write (Coded (text "65") ∷ Coded (text "255") ∷ Coded (text "256") ∷ [])) ∷ []) (replicate 3 reply.Done)
    ≡ up_to (says (codes "A") ∷ says (255 ∷ []) ∷ []) (10 ∷ codes "F21 CHAR R:1") faults.Char
unfolding digits
bytes = refl

--  WRITE *-1
no_byte : of_line (cmd (Write (Coded (one (Unary Minus (Literal (codes "1")))) ∷ [])) ∷ []) (reply.Done ∷ []) ≡ up_to [] (codes "F21 CHAR R:1") faults.Char
unfolding digits
no_byte = refl
