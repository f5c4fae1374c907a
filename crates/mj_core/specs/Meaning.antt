-- What it means at a step that a job asks a device: whoever answers says it.
use Rattle.std.specs.Prelude.{◌≡◌, ℕ, List, Bool, Option, Some, None}
use Rattle.mj_ask.specs.declared.ask.Ask.{Ask}
use Rattle.mj_ask.specs.declared.ask.Reply.{Reply}
use Rattle.mj_sessions.specs.Events.{Log, device_of}
use Rattle.mj_sys.specs.Shared.{Shared}

-- an ask that a device serves
abbrev pub IsOfDevice : Ask → Type 0
IsOfDevice a = (name : List ℕ) × (device_of a ≡ Some name)

-- What is said of a step for which this reply of a device is given or none, beside the rest that is said: of an event, by its job's log before, its ask
-- and its reply; that nothing is there to read yet, behind a job's log; and that nobody can answer, by the shared state, a job's log and whether it has a
-- session with the device of a name. Each holds with what else is said exactly where it holds alone and that holds; and there is nothing to say of what no
-- device is asked.
pub record Means : Type 1 where
  pub Told : Log → Option Reply → Ask → Bool → Reply → Type 0 → Type 0
  pub NotYet : Log → Ask → Bool → Type 0 → Type 0
  pub Unfit : Shared → Log → (List ℕ → Bool) → Ask → Bool → Option Reply → Type 0 → Type 0
  pub with_told : (log : Log) (given : Option Reply) (a : Ask) (late : Bool) (reply : Reply) (rest : Type 0)
      → Told log given a late reply (Unit {0}) → rest → Told log given a late reply rest
  pub with_not_yet : (log : Log) (a : Ask) (late : Bool) (rest : Type 0) → NotYet log a late (Unit {0}) → rest → NotYet log a late rest
  pub with_unfit : (s : Shared) (log : Log) (has : List ℕ → Bool) (a : Ask) (late : Bool) (given : Option Reply) (rest : Type 0)
      → Unfit s log has a late given (Unit {0}) → rest → Unfit s log has a late given rest
  pub told_rest : (log : Log) (given : Option Reply) (a : Ask) (late : Bool) (reply : Reply) (rest : Type 0) → Told log given a late reply rest → rest
  pub not_yet_rest : (log : Log) (a : Ask) (late : Bool) (rest : Type 0) → NotYet log a late rest → rest
  pub unfit_rest : (s : Shared) (log : Log) (has : List ℕ → Bool) (a : Ask) (late : Bool) (given : Option Reply) (rest : Type 0)
      → Unfit s log has a late given rest → rest
  pub of_no_device : (log : Log) (given : Option Reply) (a : Ask) (late : Bool) (reply : Reply) → device_of a ≡ None → Told log given a late reply (Unit {0})
