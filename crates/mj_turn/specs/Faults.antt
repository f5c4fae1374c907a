-- What is written of a fault, and the turns of a job's ending.
use Rattle.std.specs.Prelude.{ℕ, ◌+◌, ◌==◌, List, [], ◌∷◌, ◌++◌, slice_get, if◌then◌else◌, Option, Some, None}
use Rattle.mj_text.specs.declared.fault.Fault.{Fault}
use Rattle.mj_ask.specs.declared.ask.Ask.TheVariants as asks
use Rattle.mj_ask.specs.declared.ask.SharedAsk.TheVariants as shared_asks
use Rattle.mj_ask.specs.declared.ask.DeviceAsk.TheVariants as device_asks
use Rattle.mj_semantics.specs.State.{Place, principal, has_failed, ending_order}
use Rattle.mj_semantics.specs.Outcome.{Timed, look, asking, over, end, fault_bytes}
use Rattle.mj_semantics.specs.Faults.{fault_line}
use Rattle.mj_machine.specs.Standing.{ending}

-- what a fault writes, by the column of the device and the place of the innermost frame
abbrev pub told_bytes : Fault → ℕ → Option Place → List ℕ
told_bytes f column place = (if column == 0 then [] else 10 ∷ []) ++ fault_line f place ++ 10 ∷ []

-- the turn in which a fault is told of, unless the principal device failed
abbrev pub telling : Fault → Timed
telling f = look (λ s. if has_failed principal s then end (Some f) else asking (asks.Device principal (device_asks.Write (fault_bytes f s))) (λ r. end (Some f)))

-- the turn in which the session of a device ends, behind so many others
abbrev pub closing_one : ℕ → List ℕ → Option Fault → Timed
closing_one done name f = asking (asks.Device name device_asks.End) (λ r. ending (done + 1) f)

-- the turn in which the job ends
abbrev pub halting : Option Fault → Timed
halting f = asking (asks.Shared (shared_asks.Halt f)) (λ r. over)

-- the turn behind the ends of so many sessions: the next one ends, or, where there is none, the job
abbrev pub closing_by : ℕ → Option Fault → Option (List ℕ) → Timed
closing_by done f None = halting f
closing_by done f (Some name) = closing_one done name f

abbrev pub closing : ℕ → Option Fault → Timed
closing done f = look (λ s. closing_by done f (slice_get (ending_order s.devices) done))
