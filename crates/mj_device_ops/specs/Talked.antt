-- What comes next behind an ask to a device, by where the machine stands.
use Rattle.std.specs.Prelude.{ℕ, ℤ, ◌+◌, List, [], ◌∷◌, drop, Option, Some, None, Bool, Result, Ok, Err, if◌then◌else◌}
use Rattle.mj_text.specs.declared.fault.Fault.{Fault}
use Rattle.mj_text.specs.declared.fault.Fault.TheVariants.{Char, Device}
use Rattle.mj_ask.specs.declared.ask.Reply.{Reply}
use Rattle.mj_ast.specs.declared.routine.ReadMode.{ReadMode}
use Rattle.mj_semantics.specs.State.{broke}
use Rattle.mj_semantics.specs.Outcome.{Timed, change, fault, is_failed}
use Rattle.mj_semantics.specs.Sharing.{in_time}
use Rattle.mj_semantics.specs.Devices.{obtained, is_input, input_told}
use Rattle.mj_pcode.specs.Machine.{Next, top}
use Rattle.mj_machine.specs.declared.machine.Machine.{Machine}
use Rattle.mj_machine.specs.Kept.{context_of, stack_of}

-- `$TEST` behind an ask that was served in time, or wasn't
abbrev pub test_in : Option ℤ → Bool → Bool → Bool
test_in None in_time before = before
test_in (Some n) in_time before = in_time

-- the operand that lies below so many others
abbrev pub named_under : ℕ → Machine → List ℕ
named_under above m = top (drop above (stack_of m))

-- behind what begins the session of a device, without its name and what lies above it
abbrev pub past : Machine → ℕ → ℕ → Next → Timed
past m pc above next = next (context_of m) (pc + 2) (drop (1 + above) (stack_of m))

-- where the session of a device begins, with its name on top
abbrev pub at_session_begin : Machine → ℕ → ℕ → Next → Timed
at_session_begin m pc above next = next (context_of m) (pc + 1) (drop above (stack_of m))

-- what the reply leads to where a device was asked for
abbrev pub open_taken : Machine → ℕ → ℕ → Option ℤ → Reply → Next → Timed
open_taken m pc above timeout r next = obtained (named_under above m) timeout r (past m pc above next) (at_session_begin m pc above next)

-- what a reply of the current device leads to where a line or a byte was asked for
abbrev pub input_taken : List ℕ → ReadMode → Option ℤ → Reply → (List ℕ → Timed) → Timed
input_taken name mode timeout r rest =
    if is_failed r then change (broke name) (fault Device) else change (in_time timeout (is_input r)) (rest (input_told mode r))

-- a byte, if a code has one
abbrev pub coded_by : Option ℕ → Result (List ℕ) Fault
coded_by None = Err Char
coded_by (Some b) = Ok (b ∷ [])
