-- Values that a fault may stand in the place of, and what calls answer for them.
use Rattle.std.specs.Prelude.{◌≡◌, ℕ, List, Result, Ok, Err, IsOk}
use Rattle.mj_text.specs.declared.fault.Fault.{Fault}
use Rattle.mj_text.specs.declared.fault.Failure.{Failure}
use Rattle.mj_text.specs.declared.fault.Failure.TheVariants.{Fault as FaultFailure, Memory}

-- what follows from a value, unless a fault stands in its place
abbrev pub then_value : {A B : Type 0} → Result A Fault → (A → Result B Fault) → Result B Fault
then_value (Ok a) f = f a
then_value (Err e) f = Err e

-- a fault as a failure of a call
abbrev pub failing : {A : Type 0} → Result A Fault → Result A Failure
failing (Ok a) = Ok a
failing (Err e) = Err (FaultFailure e)

-- what a call that may want memory answers for such a value: the text, the fault, or Memory where a text is meant
abbrev pub Answers : Result (List ℕ) Fault → Result (List ℕ) Failure → Type 0
Answers value (Ok text) = value ≡ Ok text
Answers value (Err (FaultFailure fault)) = value ≡ Err fault
Answers value (Err Memory) = IsOk value
