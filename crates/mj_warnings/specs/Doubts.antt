-- Why an instruction that leads to an entry fails there, whatever the values are.
use Rattle.std.specs.Prelude.{◌≡◌, ℕ, nat_lt, nat_eq, Bool, List, length, option_map, Option, Some, None, ⊤, if◌then◌else◌}
use Rattle.std.specs.List.{list_any}
use Rattle.std.specs.Str.{bytes_eq}
use Rattle.std.specs.Borrow.{Bor}
use Rattle.mj_text.specs.declared.fault.Fault.{Fault}
use Rattle.mj_text.specs.declared.fault.Fault.TheVariants as faults
use Rattle.mj_ast.specs.Trees.{target_of}
use Rattle.mj_semantics.specs.Lines.{entry_in}
use Rattle.mj_semantics.specs.Outcome.{fault}
use Rattle.mj_pcode.specs.declared.find.Target.{Target}
use Rattle.mj_pcode.specs.declared.instr.Instr.{Instr}
use Rattle.mj_pcode.specs.declared.instr.Instr.TheVariants.{Do, StartJob, Invoke, Goto}
use Rattle.mj_pcode.specs.declared.instr.Unit.{Unit}
use Rattle.mj_pcode.specs.Context.{Context}
use Rattle.mj_pcode.specs.Found.{Found, found}
use Rattle.mj_pcode.specs.Machine.{Next, Stack, act}
use Rattle.mj_warnings.specs.declared.doubts.Doubt.{Doubt}
use Rattle.mj_warnings.specs.declared.doubts.Doubt.TheVariants.{NoRoutine, NoLine, Deeper, Values}

-- a line that was found, without where it lies in memory
abbrev pub seen : Option Target → Option Found
seen t = option_map (λ (t : Target). record { at = t.at; unit = t.unit.now; line = t.line; head = t.head.now }) t

-- one of the units has this name
abbrev pub has_unit : List Unit → List ℕ → Bool
has_unit units name = list_any (λ u. bytes_eq u.name name) units

-- what is missing where no line was found
abbrev pub missing : List Unit → List ℕ → Doubt
missing units routine = if has_unit units routine then NoLine else NoRoutine

-- a call that gives so many values
abbrev pub call_doubt : List Unit → List ℕ → Option Found → ℕ → Option Doubt
call_doubt units routine None n = Some (missing units routine)
call_doubt units routine (Some to) n =
    if nat_eq to.head.level 1 then (if nat_lt (length to.head.formals) n then Some Values else None) else Some Deeper

-- a GOTO
abbrev pub jump_doubt : List Unit → List ℕ → Option Found → Option Doubt
jump_doubt units routine None = Some (missing units routine)
jump_doubt units routine (Some to) = None

-- an instruction of a unit
abbrev pub doubt_of : List Unit → Unit → Instr → Option Doubt
doubt_of units u (Do entry shape) = call_doubt units entry.routine (found units entry) (length shape)
doubt_of units u (StartJob entry shape wait) = call_doubt units entry.routine (found units entry) (length shape)
doubt_of units u (Invoke target shape) =
    call_doubt units (entry_in u.name (target_of target)).routine (found units (entry_in u.name (target_of target))) (length shape)
doubt_of units u (Goto entry) = jump_doubt units entry.routine (found units entry)
doubt_of units u _ = None

-- the fault that a doubt is
abbrev pub fault_of : Doubt → Fault
fault_of NoRoutine = faults.NoLine
fault_of NoLine = faults.NoLine
fault_of Deeper = faults.NoLine
fault_of Values = faults.Params

-- an instruction that leads to a line in its own job; JOB leads there in another
abbrev pub LeadsItself : Instr → Type 0
LeadsItself (StartJob entry shape wait) = ⊥
LeadsItself _ = ⊤

-- what is doubtful of an instruction is the fault that it ends the job by, whatever lies on the stack and whatever else would come
abbrev pub DoubtsFault : Type 0
DoubtsFault =
    (units : List Unit) (u : Unit) (i : Instr) (doubt : Doubt) (next : Next) (c : Context) (pc : ℕ) (stack : Stack)
    → LeadsItself i → doubt_of units u i ≡ Some doubt → act units u (Some i) next c pc stack ≡ fault (fault_of doubt)
