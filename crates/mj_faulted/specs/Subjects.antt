-- What a fault is about: the variable, the entry or the device that the instruction names at which it comes (this profile).
use Rattle.std.specs.Prelude.{ℕ, Bool, true, false, List, [], ◌∷◌, ◌++◌, take, drop, nat_lt, length, Option, Some, None, slice_get, codes, if◌then◌else◌}
use Rattle.mj_text.specs.declared.fault.Fault.{Fault}
use Rattle.mj_text.specs.declared.fault.Fault.TheVariants.{Subscript, NoLine, Device, Steps, Params}
use Rattle.mj_ask.specs.Written.{entry_text}
use Rattle.mj_ask.specs.declared.entry.Entry.{Entry}
use Rattle.mj_ast.specs.declared.expr.Scope.{Scope}
use Rattle.mj_ast.specs.declared.expr.Scope.TheVariants.{Local, Global}
use Rattle.mj_ast.specs.Trees.{target_of}
use Rattle.mj_semantics.specs.Lines.{entry_in}
use Rattle.mj_gfile.specs.Spelling.{listed_name, listed_text, listed_subscripts}
use Rattle.mj_pcode.specs.declared.instr.Instr.{Instr}
use Rattle.mj_pcode.specs.declared.instr.Instr.TheVariants as instrs
use Rattle.mj_pcode.specs.declared.instr.Reference.{Reference}
use Rattle.mj_pcode.specs.declared.instr.Wait.TheVariants.{Ever, Timed}
use Rattle.mj_pcode.specs.declared.instr.Unit.{Unit}
use Rattle.mj_pcode.specs.Context.{Loop}
use Rattle.mj_pcode.specs.Machine.{Stack, operands}
use Rattle.mj_machine.specs.declared.control.Control.{Control}
use Rattle.mj_machine.specs.declared.control.Control.TheVariants as controls
use Rattle.mj_machine.specs.Standing.{Standing}

-- ---- faults

-- it comes at an ask too many, whatever is asked
abbrev pub is_counted : Fault → Bool
is_counted Steps = true
is_counted _ = false

-- it comes where a line is called: there is none, or it has fewer formals
abbrev pub is_of_entry : Fault → Bool
is_of_entry NoLine = true
is_of_entry Params = true
is_of_entry _ = false

-- a device failed
abbrev pub is_of_device : Fault → Bool
is_of_device Device = true
is_of_device _ = false

-- a name may not have these subscripts
abbrev pub is_of_subscripts : Fault → Bool
is_of_subscripts Subscript = true
is_of_subscripts _ = false

-- ---- names

-- of a long name so many bytes are shown
abbrev pub name_most : ℕ
name_most = 150

-- a name, or its first bytes and `..`
abbrev pub shortened : List ℕ → List ℕ
shortened name = if nat_lt name_most (length name) then take name_most name ++ codes ".." else name

-- a word, behind the `^` of a global
abbrev pub word_in : Scope → List ℕ → List ℕ
word_in Local word = word
word_in Global word = 94 ∷ word

-- a variable whose subscripts are the topmost operands, so many, as a listing has it
abbrev pub named_upon : Scope → List ℕ → ℕ → Stack → List ℕ
named_upon scope word count stack = shortened (word_in scope word ++ listed_subscripts (operands count stack))

abbrev pub variable_upon : Reference → Stack → List ℕ
variable_upon r stack = named_upon r.scope r.word r.count stack

-- the variable that a MERGE takes from, where its subscripts make no name
abbrev pub merged_upon : Fault → Reference → Stack → List ℕ
merged_upon fault r stack = if is_of_subscripts fault then variable_upon r stack else []

-- the device that the topmost operand names
abbrev pub device_upon : Stack → List ℕ
device_upon [] = []
device_upon (v ∷ stack) = shortened (listed_text v)

-- the current device, where it failed
abbrev pub current_of : Fault → List ℕ → List ℕ
current_of fault current = if is_of_device fault then shortened (listed_text current) else []

-- the local of the innermost FOR
abbrev pub local_of : List Loop → List ℕ
local_of [] = []
local_of (l ∷ loops) = shortened (listed_name l.name)

-- what this fault of an instruction of the routine of this name is about, with this device current, with these operands and in these FORs
abbrev pub instr_subject : List ℕ → Fault → List ℕ → Instr → Stack → List Loop → List ℕ
instr_subject routine fault current (instrs.Load r) stack loops = variable_upon r stack
instr_subject routine fault current (instrs.CheckName r) stack loops = variable_upon r stack
instr_subject routine fault current (instrs.CheckNamed f r) stack loops = variable_upon r stack
instr_subject routine fault current (instrs.MergeTake into from) stack loops = merged_upon fault from stack
instr_subject routine fault current (instrs.ForOpen word count body) stack loops = named_upon Local word count stack
instr_subject routine fault current (instrs.Do entry shape) stack loops = entry_text entry
instr_subject routine fault current (instrs.Goto entry) stack loops = entry_text entry
instr_subject routine fault current (instrs.Invoke target shape) stack loops = codes "$$" ++ entry_text (entry_in routine (target_of target))
instr_subject routine fault current (instrs.OpenDevice Ever) stack loops = device_upon stack
instr_subject routine fault current (instrs.OpenDevice Timed) stack loops = device_upon (drop 1 stack)
instr_subject routine fault current instrs.BeginSession stack loops = device_upon stack
instr_subject routine fault current instrs.UseDevice stack loops = device_upon stack
instr_subject routine fault current instrs.GiveUpFailedDevice stack loops = device_upon stack
instr_subject routine fault current instrs.Write stack loops = current_of fault current
instr_subject routine fault current (instrs.WriteFormat marks) stack loops = current_of fault current
instr_subject routine fault current (instrs.WriteTab marks) stack loops = current_of fault current
instr_subject routine fault current instrs.WriteByte stack loops = current_of fault current
instr_subject routine fault current (instrs.Read mode wait) stack loops = current_of fault current
instr_subject routine fault current instrs.ForAgain stack loops = local_of loops
instr_subject routine fault current _ stack loops = []

-- what stands at a place of a unit
abbrev pub unit_subject : Unit → Fault → List ℕ → Option Instr → Stack → List Loop → List ℕ
unit_subject u fault current None stack loops = []
unit_subject u fault current (Some i) stack loops = instr_subject u.name fault current i stack loops

abbrev pub place_subject : Option Unit → Fault → List ℕ → ℕ → Stack → List Loop → List ℕ
place_subject None fault current pc stack loops = []
place_subject (Some u) fault current pc stack loops = unit_subject u fault current (slice_get u.instrs.items pc) stack loops

-- before the job's first line, where it starts
abbrev pub start_subject : Fault → Entry → List ℕ
start_subject fault entry = if is_of_entry fault then entry_text entry else []

-- where it stands
abbrev pub control_subject : List Unit → Entry → Fault → Control → Standing → List ℕ
control_subject units entry fault controls.Begin at = start_subject fault entry
control_subject units entry fault (controls.At pc) at =
    place_subject (slice_get units at.context.unit) fault at.state.current pc at.stack at.context.loops
control_subject units entry fault (controls.Faulted other) at = []
control_subject units entry fault (controls.Closing done other) at = []
control_subject units entry fault controls.Over at = []

-- an ask too many is about nothing
abbrev pub subject_of : List Unit → Entry → Fault → Standing → List ℕ
subject_of units entry fault at = if is_counted fault then [] else control_subject units entry fault at.control at
