-- Events of a kind.
use Rattle.std.specs.Prelude.{◌==◌, Bool, true, false, [], ◌∷◌, Option, Some, None, is_some, length}
use Rattle.std.specs.List.{count_by}
use Rattle.mj_text.specs.declared.fault.Fault.{Fault}
use Rattle.mj_ask.specs.declared.ask.Ask.{Ask}
use Rattle.mj_ask.specs.declared.ask.Ask.TheVariants as asks
use Rattle.mj_ask.specs.declared.ask.SharedAsk.TheVariants as shared_asks
use Rattle.mj_ask.specs.declared.ask.Reply.{Reply}
use Rattle.mj_ask.specs.declared.ask.Reply.TheVariants as replies
use Rattle.mj_sys.specs.declared.event.Event.{Event}
use Rattle.mj_sys.specs.Shared.{Shared}
use Rattle.mj_sys.specs.History.{History, state_of}
use Rattle.mj_judge.specs.declared.marks.Mark.{Mark}
use Rattle.mj_judge.specs.declared.marks.Mark.TheVariants as marks

-- a job ends by a fault
abbrev pub is_fault : Ask → Bool
is_fault (asks.Shared (shared_asks.Halt fault)) = is_some fault
is_fault _ = false

-- a job ends
abbrev pub is_halt : Ask → Bool
is_halt (asks.Shared (shared_asks.Halt fault)) = true
is_halt _ = false

-- a commit clashes
abbrev pub is_clash : Reply → Bool
is_clash (replies.Clash clash) = true
is_clash _ = false

-- an event with this ask and this reply is of a kind
abbrev pub bears_by : Mark → Ask → Reply → Bool
bears_by marks.Fault ask reply = is_fault ask
bears_by marks.Clash ask reply = is_clash reply
bears_by marks.End ask reply = is_halt ask

-- an event is of a kind
abbrev pub bears : Mark → Event → Bool
bears mark e = bears_by mark e.ask e.reply

-- there is one, and it is of that kind
abbrev pub bears_at : Mark → Option Event → Bool
bears_at mark None = false
bears_at mark (Some e) = bears mark e

-- as many jobs have ended as there are: a job ends but once
abbrev pub is_over : Shared → History → Bool
is_over opening history = count_by (bears marks.End) history == length (state_of opening history).rows

-- the fault by which a job ends with this ask, if it ends by one
abbrev pub fault_of : Ask → Option Fault
fault_of (asks.Shared (shared_asks.Halt fault)) = fault
fault_of _ = None

-- the one by which a job ends with this event, if there is one
abbrev pub fault_at : Option Event → Option Fault
fault_at None = None
fault_at (Some e) = fault_of e.ask

-- the earlier of two, if there are any
abbrev pub earlier : Option Fault → Option Fault → Option Fault
earlier (Some fault) later = Some fault
earlier None later = later

-- the first fault by which a job ended
abbrev pub fault_in : History → Option Fault
fault_in [] = None
fault_in (e ∷ history) = earlier (fault_at (Some e)) (fault_in history)
