-- Which jobs ended by a fault.
use Rattle.std.specs.Prelude.{Bool, false, ◌||◌, Option, Some, None, is_some, [], ◌∷◌}
use Rattle.mj_ask.specs.declared.ask.Ask.{Ask}
use Rattle.mj_ask.specs.declared.ask.Ask.TheVariants as asks
use Rattle.mj_ask.specs.declared.ask.SharedAsk.TheVariants as shared_asks
use Rattle.mj_sys.specs.declared.event.Event.{Event}
use Rattle.mj_sys.specs.History.{History}

-- a job ended by a fault
abbrev pub is_fault : Ask → Bool
is_fault (asks.Shared (shared_asks.Halt fault)) = is_some fault
is_fault _ = false

-- the event is that a job ended by a fault
abbrev pub event_faults : Option Event → Bool
event_faults None = false
event_faults (Some e) = is_fault e.ask

-- some job of the history did
abbrev pub has_faulted : History → Bool
has_faulted [] = false
has_faulted (e ∷ history) = is_fault e.ask || has_faulted history
