-- The numbers and the names of the faults.
use Rattle.std.specs.Prelude.{ℕ, List, codes}
use Rattle.mj_text.specs.declared.fault.Fault.{Fault}
use Rattle.mj_text.specs.declared.fault.Fault.TheVariants.{Undefined, Divide, Fraction, Range, Length, Subscript, Select, NoLine, Quit, QuitInTransaction, NoTransaction, NoRestart, InTransaction, Overlap, NoDevice, Device, Depth, Limit, Steps, ForIndex, Char, Params}

-- a fault's number: the digits after the F of its printed name
abbrev pub code_of : Fault → ℕ
code_of Undefined = 1
code_of Divide = 2
code_of Fraction = 3
code_of Range = 4
code_of Length = 5
code_of Subscript = 6
code_of Select = 7
code_of NoLine = 8
code_of Quit = 9
code_of QuitInTransaction = 10
code_of NoTransaction = 11
code_of NoRestart = 12
code_of InTransaction = 13
code_of Overlap = 14
code_of NoDevice = 15
code_of Device = 16
code_of Depth = 17
code_of Limit = 18
code_of Steps = 19
code_of ForIndex = 20
code_of Char = 21
code_of Params = 22

-- what is printed of a fault (this profile)
abbrev pub name_of : Fault → List ℕ
name_of Undefined = codes "F1 UNDEF"
name_of Divide = codes "F2 DIVIDE"
name_of Fraction = codes "F3 FRACTION"
name_of Range = codes "F4 RANGE"
name_of Length = codes "F5 LENGTH"
name_of Subscript = codes "F6 SUBSCRIPT"
name_of Select = codes "F7 SELECT"
name_of NoLine = codes "F8 NOLINE"
name_of Quit = codes "F9 QUIT"
name_of QuitInTransaction = codes "F10 TXQUIT"
name_of NoTransaction = codes "F11 NOTX"
name_of NoRestart = codes "F12 NORESTART"
name_of InTransaction = codes "F13 INTX"
name_of Overlap = codes "F14 OVERLAP"
name_of NoDevice = codes "F15 NODEVICE"
name_of Device = codes "F16 DEVICE"
name_of Depth = codes "F17 DEPTH"
name_of Limit = codes "F18 LIMIT"
name_of Steps = codes "F19 STEPS"
name_of ForIndex = codes "F20 FORINDEX"
name_of Char = codes "F21 CHAR"
name_of Params = codes "F22 PARAMS"
