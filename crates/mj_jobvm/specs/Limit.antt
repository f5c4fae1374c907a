-- How many entries a job's log holds.
use Rattle.std.specs.Prelude.{◌≡◌, ℕ, ◌+◌, ◌<◌, ◌≤◌, [], ◌∷◌, length, ◌⊎◌, ⊤}
use Rattle.mj_text.specs.declared.fault.Fault.{Fault}
use Rattle.mj_ask.specs.declared.ask.Ask.{Ask}
use Rattle.mj_ask.specs.declared.ask.Ask.TheVariants as asks
use Rattle.mj_ask.specs.declared.ask.SharedAsk.TheVariants as shared_asks
use Rattle.mj_ask.specs.declared.ask.DeviceAsk.TheVariants as device_asks
use Rattle.mj_semantics.specs.State.{State, principal, devices_limit}
use Rattle.mj_semantics.specs.Outcome.{fault_bytes}
use Rattle.mj_jobvm.specs.Run.{Log}

-- an ask of a job's ending, behind so many others, where it may make so many before: first the line of its fault, if it has one, then the ends of its
-- sessions, the principal one's among them, and then its own
abbrev pub IsOfEnding : ℕ → ℕ → Ask → Type 0
IsOfEnding events k (asks.Device device (device_asks.Write bytes)) =
    (k ≤ events) × (device ≡ principal) × ((fault : Fault) × (s : State) × (bytes ≡ fault_bytes fault s))
IsOfEnding events k (asks.Device device device_asks.End) = k ≤ events + 1 + devices_limit
IsOfEnding events k (asks.Shared (shared_asks.Halt fault)) = k ≤ events + 2 + devices_limit
IsOfEnding events k _ = ⊥

-- an ask behind so many others is one of those that a job may make, or it is of its ending
abbrev pub IsAllowed : ℕ → ℕ → Ask → Type 0
IsAllowed events k a = (k < events) ⊎ IsOfEnding events k a

-- each ask of a log that goes on behind so many others
abbrev pub AreAllowed : ℕ → ℕ → Log → Type 0
AreAllowed events k [] = ⊤
AreAllowed events k (e ∷ log) = IsAllowed events k e.0 × AreAllowed events (k + 1) log

-- at most as many entries as a run of the program has events, but for those of the ending: a line, the ends of 17 sessions at most, and its own
pub record IsLimited (events : ℕ) (log : Log) : Type 0 where
  pub allowed : AreAllowed events 0 log
  pub short : length log ≤ events + 3 + devices_limit
