-- What the sessions with a device may be told, by what they were told before: where their talks may stand. Of a line of which bytes were read
-- nobody knows the rest, but how long it may be.
use Rattle.std.specs.Prelude.{◌≡◌, ℕ, ◌+◌, ◌≤◌, nat_le, nat_lt, ◌==◌, ◌||◌, not, List, [], ◌∷◌, ◌++◌, Bool, true, false, Option, Some, None, ⊤, length, if◌then◌else◌}
use Rattle.std.specs.List.{filter}
use Rattle.std.specs.Str.{bytes_eq}
use Rattle.mj_text.specs.declared.text.TheConstants.{TEXT_LIMIT}
use Rattle.mj_ask.specs.declared.ask.Ask.{Ask}
use Rattle.mj_ask.specs.declared.ask.Ask.TheVariants as asks
use Rattle.mj_ask.specs.declared.ask.DeviceAsk.{DeviceAsk}
use Rattle.mj_ask.specs.declared.ask.Reply.{Reply}
use Rattle.mj_dev.specs.declared.device.Did.{Did}
use Rattle.mj_dev.specs.declared.device.Did.TheVariants as did
use Rattle.mj_dev.specs.declared.device.Input.{Input}
use Rattle.mj_dev.specs.declared.device.Input.TheVariants as input
use Rattle.mj_dev.specs.declared.talk.Code.{Code}
use Rattle.mj_dev.specs.declared.talk.Code.TheVariants as codes
use Rattle.mj_dev.specs.declared.talk.State.TheVariants as states
use Rattle.mj_dev.specs.Talk.{Exchange, Begun, Written, LineRead, ByteRead, Ended, TalkStand, beginning}
use Rattle.mj_sessions.specs.Events.{Log, exchange_of, talk_on}
use Rattle.mj_sessions.specs.Follow.{Follow, AreTalks}
use Rattle.mj_expect.specs.declared.heed.Heed.{Heed}
use Rattle.mj_expect.specs.declared.heed.Heed.TheVariants as heeds

-- what may be left of a line of which so many bytes were read: no more than a text may have; or nothing, where the line may be over
abbrev pub IsLeft : ℕ → Bool → Option (List ℕ) → Type 0
IsLeft read over None = over ≡ true
IsLeft read over (Some rest) = length rest + read ≤ TEXT_LIMIT

-- where a talk may stand
abbrev pub MayStand : Heed → TalkStand → Type 0
MayStand heeds.Quiet stand = (stand.state ≡ states.Open) × (stand.rest ≡ None)
MayStand (heeds.Rest read over) stand = (stand.state ≡ states.Open) × IsLeft read over stand.rest
MayStand heeds.Failed stand = stand.state ≡ states.Failed

-- ---- one call more. None where no device may have answered so

abbrev pub called : Heed → Did → Option Heed
called h did.Done = Some h
called h did.Failed = Some heeds.Failed
called h did.Memory = Some h

abbrev pub after_call : Heed → Did → Option Heed
after_call heeds.Quiet answer = called heeds.Quiet answer
after_call (heeds.Rest read over) answer = called (heeds.Rest read over) answer
after_call heeds.Failed answer = None

abbrev pub after_end : Did → Option Heed
after_end did.Done = Some heeds.Quiet
after_end did.Failed = Some heeds.Quiet
after_end did.Memory = None

-- a line is read where none was begun
abbrev pub new_line : Input → Option Heed
new_line (input.Line line) = Some heeds.Quiet
new_line input.End = Some heeds.Quiet
new_line input.NotYet = Some heeds.Quiet
new_line input.Failed = Some heeds.Failed
new_line input.Memory = Some heeds.Quiet

-- a line is read where so many bytes of one were read, which may be over
abbrev pub rest_line : ℕ → Bool → Input → Option Heed
rest_line read over (input.Line line) = if over || nat_le (length line + read) TEXT_LIMIT then Some heeds.Quiet else None
rest_line read over input.End = if over then Some heeds.Quiet else None
rest_line read over input.NotYet = if over then Some heeds.Quiet else None
rest_line read over input.Failed = if over then Some heeds.Failed else None
rest_line read over input.Memory = Some (heeds.Rest read over)

abbrev pub after_line : Heed → Input → Option Heed
after_line heeds.Quiet read = new_line read
after_line (heeds.Rest n over) read = rest_line n over read
after_line heeds.Failed read = None

-- a byte's code is read where no line was begun: 10 may be the end of an empty one
abbrev pub new_byte : Code → Option Heed
new_byte (codes.Byte code) = Some (heeds.Rest 1 (code == 10))
new_byte codes.End = Some heeds.Quiet
new_byte codes.NotYet = Some heeds.Quiet
new_byte codes.Failed = Some heeds.Failed
new_byte codes.Memory = Some heeds.Quiet

-- a byte more of a line: where it has as many as a text may have, it is over
abbrev pub one_more : ℕ → ℕ → Option Heed
one_more read code =
    if nat_lt read TEXT_LIMIT then Some (heeds.Rest (read + 1) (code == 10))
    else if code == 10 then Some heeds.Quiet else None

-- a byte's code is read where so many bytes of a line were read, which may be over
abbrev pub rest_byte : ℕ → Bool → Code → Option Heed
rest_byte read true code = new_byte code
rest_byte read false (codes.Byte code) = one_more read code
rest_byte read false codes.End = None
rest_byte read false codes.NotYet = None
rest_byte read false codes.Failed = None
rest_byte read false codes.Memory = None

abbrev pub after_byte : Heed → Code → Option Heed
after_byte heeds.Quiet code = new_byte code
after_byte (heeds.Rest read over) code = rest_byte read over code
after_byte heeds.Failed code = None

abbrev pub heed_after : Heed → Exchange → Option Heed
heed_after h (Begun answer) = after_call h answer
heed_after h (Written bytes answer) = after_call h answer
heed_after h (LineRead read) = after_line h read
heed_after h (ByteRead code) = after_byte h code
heed_after h (Ended answer) = after_end answer

-- the same for an ask of the device with its reply
abbrev pub heed_by : Heed → DeviceAsk → Reply → Option Heed
heed_by h ask reply = heed_after h (exchange_of ask reply)

-- ---- all devices of a job

-- those of which more is known than where a talk begins
abbrev pub Heeds : Type 0
Heeds = List (List ℕ × Heed)

abbrev pub heed_of : List ℕ → Heeds → Heed
heed_of name [] = heeds.Quiet
heed_of name (e ∷ es) = if bytes_eq e.0 name then e.1 else heed_of name es

-- what is to be kept of a device
abbrev pub kept_of : List ℕ → Heed → Heeds
kept_of name heeds.Quiet = []
kept_of name (heeds.Rest read over) = (name, heeds.Rest read over) ∷ []
kept_of name heeds.Failed = (name, heeds.Failed) ∷ []

abbrev pub is_other : List ℕ → List ℕ × Heed → Bool
is_other name e = not (bytes_eq e.0 name)

abbrev pub with_heed : List ℕ → Heed → Heeds → Heeds
with_heed name h es = filter (is_other name) es ++ kept_of name h

-- ---- what it means

-- each stand where the talk may be is one to which it may have gone
abbrev pub AllFollow : Heed → List Exchange → Type 0
AllFollow heeds.Quiet talk = (stand : TalkStand) → MayStand heeds.Quiet stand → Follow beginning talk stand
AllFollow (heeds.Rest read over) talk = (stand : TalkStand) → MayStand (heeds.Rest read over) stand → Follow beginning talk stand
AllFollow heeds.Failed talk = ⊤

-- where the talk may stand, which obeys the protocol
pub record IsHeed (h : Heed) (talk : List Exchange) : Type 0 where
  pub some : (stand : TalkStand) × Follow beginning talk stand
  pub only : (stand : TalkStand) → Follow beginning talk stand → MayStand h stand
  pub all : AllFollow h talk

-- the same of the talks with all devices of which a log tells
abbrev pub AreHeeds : Log → Heeds → Type 0
AreHeeds log es = (name : List ℕ) → IsHeed (heed_of name es) (talk_on name log)

-- what is told of an ask that the shared state doesn't serve is one that the protocol allows, and what is known goes on; or it isn't
abbrev pub Heard : Log → Ask → Reply → Bool → Heeds → Type 0
Heard log ask reply true new = AreHeeds (log ++ (ask, reply) ∷ []) new
Heard log ask reply false new = AreTalks (log ++ (ask, reply) ∷ []) → ⊥

-- what is known of a device is what is reached by a call more, if it is reached
abbrev pub TakesOn : List ℕ → Heeds → Option Heed → Bool → Heeds → Type 0
TakesOn device es None heard new = heard ≡ false
TakesOn device es (Some h) heard new = (heard ≡ true) × (new ≡ with_heed device h es)

-- what an ask that a session serves takes in with its reply; any other nothing
abbrev pub TakesIn : Heeds → Ask → Reply → Bool → Heeds → Type 0
TakesIn es (asks.Device device ask) reply heard new = TakesOn device es (heed_by (heed_of device es) ask reply) heard new
TakesIn es _ reply heard new = (heard ≡ true) × (new ≡ es)
