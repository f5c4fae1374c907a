-- What is asked for by operands: how long that may take, and names.
use Rattle.std.specs.Prelude.{ℤ, List, [], drop, Option, Some, None, Bool, true, false, not, Result, Ok, Err}
use Rattle.mj_text.specs.declared.fault.Fault.{Fault}
use Rattle.mj_text.specs.Failing.{then_value}
use Rattle.mj_num.specs.Number.{reading}
use Rattle.mj_subs.specs.Name.{Name}
use Rattle.mj_ask.specs.declared.ask.Ask.{Ask}
use Rattle.mj_ask.specs.declared.ask.Ask.TheVariants as asks
use Rattle.mj_ask.specs.declared.ask.SharedAsk.TheVariants as shared_asks
use Rattle.mj_pcode.specs.declared.instr.Instr.{Instr}
use Rattle.mj_pcode.specs.declared.instr.Instr.TheVariants.{Lock, Unlock}
use Rattle.mj_pcode.specs.declared.instr.Wait.{Wait}
use Rattle.mj_pcode.specs.declared.instr.Wait.TheVariants.{Ever, Timed}
use Rattle.mj_pcode.specs.declared.instr.Reference.{Reference}
use Rattle.mj_pcode.specs.Machine.{Stack, top, wait_size, names_on}

-- how long an ask may wait: the topmost operand says it, where it is limited
abbrev pub timeout_in : Wait → Stack → Result (Option ℤ) Fault
timeout_in Ever stack = Ok None
timeout_in Timed stack = then_value (reading (top stack)) (λ n. Ok (Some n))

-- `$TEST` behind a reply that came late or in time
abbrev pub test_after : Option ℤ → Bool → Bool → Bool
test_after None late before = before
test_after (Some n) late before = not late

-- names, if there are any
abbrev pub listed : Option (List Name) → List Name
listed None = []
listed (Some xs) = xs

-- what LOCK is to take or give up, and how long that may take: the names of its variables, whose subscripts lie below the timeout
abbrev pub wanted_in : List Reference → Wait → Stack → Result (Option ℤ × List Name) Fault
wanted_in references w stack =
    then_value (timeout_in w stack) (λ timeout. then_value (names_on references (drop (wait_size w) stack)) (λ xs. Ok (timeout, xs)))

-- what LOCK asks, to take names or to give them up
abbrev pub ask_of : Bool → List Name → Option ℤ → Ask
ask_of true xs timeout = asks.Shared (shared_asks.Try xs timeout)
ask_of false xs timeout = asks.Shared (shared_asks.Unlock xs)

-- the instruction that does so
abbrev pub lock_of : Bool → List Reference → Wait → Instr
lock_of true references w = Lock references w
lock_of false references w = Unlock references w

-- why variables have no names, if one of them has none
abbrev pub refused : Result (List Name) Fault → Option Fault
refused (Ok xs) = None
refused (Err f) = Some f
