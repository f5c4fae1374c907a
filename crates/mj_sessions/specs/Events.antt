-- What a job's asks with their replies are in the talks with its devices.
use Rattle.std.specs.Prelude.{ℕ, List, [], ◌∷◌, Option, Some, None, if◌then◌else◌}
use Rattle.std.specs.Str.{bytes_eq}
use Rattle.mj_ask.specs.declared.ask.Ask.{Ask}
use Rattle.mj_ask.specs.declared.ask.Ask.TheVariants as asks
use Rattle.mj_ask.specs.declared.ask.DeviceAsk.{DeviceAsk}
use Rattle.mj_ask.specs.declared.ask.DeviceAsk.TheVariants as device_asks
use Rattle.mj_ask.specs.declared.ask.Reply.{Reply}
use Rattle.mj_ask.specs.declared.ask.Reply.TheVariants as replies
use Rattle.mj_dev.specs.declared.device.Did.{Did}
use Rattle.mj_dev.specs.declared.device.Did.TheVariants as did
use Rattle.mj_dev.specs.declared.device.Input.{Input}
use Rattle.mj_dev.specs.declared.device.Input.TheVariants as input
use Rattle.mj_dev.specs.declared.talk.Code.{Code}
use Rattle.mj_dev.specs.declared.talk.Code.TheVariants as codes
use Rattle.mj_dev.specs.Talk.{Exchange, Begun, Written, LineRead, ByteRead, Ended}

-- what a job asked and was told, in order
abbrev pub Log : Type 0
Log = List (Ask × Reply)

-- the device whose session serves the ask, if one does
abbrev pub device_of : Ask → Option (List ℕ)
device_of (asks.Device device ask) = Some device
device_of _ = None

-- how a call went that reads nothing. (What is told is never that memory was refused.)
abbrev pub did_of : Reply → Did
did_of replies.Done = did.Done
did_of replies.Failed = did.Failed
did_of _ = did.Memory

-- what was read of a line: one that came late wasn't there yet
abbrev pub input_of : Reply → Input
input_of (replies.Line line) = input.Line line
input_of replies.End = input.End
input_of replies.Late = input.NotYet
input_of replies.Failed = input.Failed
input_of _ = input.Memory

-- what was read of a byte
abbrev pub code_of : Reply → Code
code_of (replies.Byte code) = codes.Byte code
code_of replies.End = codes.End
code_of replies.Late = codes.NotYet
code_of replies.Failed = codes.Failed
code_of _ = codes.Memory

-- the call to a session that an ask of its device is with its reply
abbrev pub exchange_of : DeviceAsk → Reply → Exchange
exchange_of device_asks.Begin reply = Begun (did_of reply)
exchange_of (device_asks.Write bytes) reply = Written bytes (did_of reply)
exchange_of (device_asks.Line timeout) reply = LineRead (input_of reply)
exchange_of (device_asks.Byte timeout) reply = ByteRead (code_of reply)
exchange_of device_asks.End reply = Ended (did_of reply)

-- the call to a session with the device of this name that an ask is with its reply, if it is one
abbrev pub exchange_on : List ℕ → Ask → Reply → Option Exchange
exchange_on name (asks.Device device ask) reply = if bytes_eq device name then Some (exchange_of ask reply) else None
exchange_on name _ reply = None

-- all calls to a job's sessions with the device of a name, one session after the other
abbrev pub talk_on : List ℕ → Log → List Exchange
talk_on name [] = []
talk_on name (e ∷ log) = elim (exchange_on name e.0 e.1) [ None ↦ talk_on name log | Some exchange ↦ exchange ∷ talk_on name log ]
