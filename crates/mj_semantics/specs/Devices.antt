-- What a job does with its devices once its arguments have their values: OPEN, USE, CLOSE and READ (ISO/IEC 11756:1999, 8.2.15, 8.2.23,
-- 8.2.2, 8.2.17).
use Rattle.std.specs.Prelude.{ℕ, ℤ, pos, negsuc, List, [], Option, Bool, true, false, length, nat_lt, if◌then◌else◌}
use Rattle.mj_text.specs.declared.fault.Fault.TheVariants.{NoDevice, Device, Limit}
use Rattle.mj_num.specs.Number.{canonic_text}
use Rattle.mj_ask.specs.declared.ask.Ask.TheVariants as asks
use Rattle.mj_ask.specs.declared.ask.SharedAsk.TheVariants as shared_asks
use Rattle.mj_ask.specs.declared.ask.DeviceAsk.{DeviceAsk}
use Rattle.mj_ask.specs.declared.ask.DeviceAsk.TheVariants as device_asks
use Rattle.mj_ask.specs.declared.ask.Reply.{Reply}
use Rattle.mj_ask.specs.declared.ask.Reply.TheVariants as replies
use Rattle.mj_ast.specs.declared.routine.ReadMode.{ReadMode}
use Rattle.mj_ast.specs.declared.routine.ReadMode.TheVariants as mode
use Rattle.mj_semantics.specs.State.{devices_limit, is_open, may_close, with_device, used, dropped}
use Rattle.mj_semantics.specs.Outcome.{Timed, turn, look, change, ask, tell, is_failed, to_device, fault}
use Rattle.mj_semantics.specs.Sharing.{in_time}

-- OPEN.

-- the job has the device now
abbrev pub is_got : Reply → Bool
is_got replies.Got = true
is_got _ = false

-- the device isn't known, or has no session left
abbrev pub has_no_session : Reply → Bool
has_no_session replies.NoSession = true
has_no_session _ = false

-- what the reply leads to: without a session it is NODEVICE; what the job has got is open; and what came late isn't
abbrev pub obtained : List ℕ → Option ℤ → Reply → Timed → Timed → Timed
obtained name timeout r late got =
    if has_no_session r then fault NoDevice
    else if is_got r then change (in_time timeout true) (change (with_device name) got)
    else change (in_time timeout false) late

-- A device is asked for, and then one of two rests follows: the first without it, or where it is open already, as the principal one always
-- is, which asks nothing and is in time; the second where the job has got it. It is LIMIT, and nothing is asked, where as many are open as
-- may be beside the principal one (this profile).
abbrev pub request_device : List ℕ → Option ℤ → Timed → Timed → Timed
request_device name timeout as_it_was got = look (λ s.
    if is_open name s then change (in_time timeout true) as_it_was
    else if nat_lt devices_limit (length s.devices) then fault Limit
    else ask (asks.Shared (shared_asks.Open name timeout)) (λ r. obtained name timeout r as_it_was got))

-- the session of a device that was opened begins
abbrev pub begin_session : List ℕ → Timed → Timed
begin_session name rest = to_device name device_asks.Begin (λ r. rest)

-- the session of a device that the job has got begins in a turn of its own (this profile)
abbrev pub open_device : List ℕ → Option ℤ → Timed → Timed
open_device name timeout rest = request_device name timeout rest (turn (begin_session name rest))

-- USE: an open device becomes the current one; another one is NODEVICE
abbrev pub use_device : List ℕ → Timed → Timed
use_device name rest = look (λ s. if is_open name s then change (used name) rest else fault NoDevice)

-- CLOSE.

-- A session ends, and one of three rests follows: the first where there is none, or it is the principal one, of which nothing is asked; the
-- second where it didn't end well; the third where it did. The device isn't open any more, so the job's end doesn't end it again.
abbrev pub end_session : List ℕ → Timed → Timed → Timed → Timed
end_session name as_it_was badly well = look (λ s.
    if may_close name s
    then ask (asks.Device name device_asks.End) (λ r. change (dropped name) (if is_failed r then badly else well))
    else as_it_was)

-- the name of a device is given up
abbrev pub give_up : List ℕ → Timed → Timed
give_up name rest = tell (asks.Shared (shared_asks.Close name)) rest

-- its session ends, and in a turn of its own its name is given up. Only then it is DEVICE, where the session didn't end well
abbrev pub close : List ℕ → Timed → Timed
close name rest = end_session name rest (turn (give_up name (fault Device))) (turn (give_up name rest))

-- READ.

-- the device gave what it was asked for, before the end of its input and in time
abbrev pub is_input : Reply → Bool
is_input (replies.Line text) = true
is_input (replies.Byte code) = true
is_input _ = false

-- what is asked for: a line, or a byte
abbrev pub input_ask : ReadMode → Option ℤ → DeviceAsk
input_ask mode.Line timeout = device_asks.Line timeout
input_ask mode.Byte timeout = device_asks.Byte timeout

-- what a reply brings: a line, the empty text where it brings none; the code of a byte, -1 where it brings none
abbrev pub input_told : ReadMode → Reply → List ℕ
input_told mode.Line (replies.Line text) = text
input_told mode.Line _ = []
input_told mode.Byte (replies.Byte code) = canonic_text (pos code)
input_told mode.Byte _ = canonic_text (negsuc 0)

-- the current device gives a line or a byte, and then the rest with it; this moves neither `$X` nor `$Y` (this profile)
abbrev pub read_input : ReadMode → Option ℤ → (List ℕ → Timed) → Timed
read_input m timeout rest = look (λ s.
    to_device s.current (input_ask m timeout) (λ r. change (in_time timeout (is_input r)) (rest (input_told m r))))
