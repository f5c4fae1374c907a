-- What comes of an ask that a job's own sessions serve, or none.
use Rattle.std.specs.Prelude.{◌≡◌, ℕ, List, Bool, true, false, Some, None, not, ◌&&◌, ◌||◌, ◌⊎◌, if◌then◌else◌}
use Rattle.std.specs.Option.{is_some}
use Rattle.mj_ask.specs.declared.ask.Ask.{Ask}
use Rattle.mj_ask.specs.declared.ask.Ask.TheVariants as asks
use Rattle.mj_ask.specs.declared.ask.DeviceAsk.{DeviceAsk}
use Rattle.mj_ask.specs.declared.ask.DeviceAsk.TheVariants as device_asks
use Rattle.mj_ask.specs.declared.ask.Reply.{Reply}
use Rattle.mj_ask.specs.declared.ask.Reply.TheVariants as replies
use Rattle.mj_ask.specs.Fits.{is_device_reply, device_timeout, is_late}
use Rattle.mj_ask.specs.Late.{is_timed_out}
use Rattle.mj_dev.specs.declared.device.Did.{Did}
use Rattle.mj_dev.specs.declared.device.Did.TheVariants as did
use Rattle.mj_dev.specs.declared.device.Input.{Input}
use Rattle.mj_dev.specs.declared.device.Input.TheVariants as input
use Rattle.mj_dev.specs.declared.talk.Code.{Code}
use Rattle.mj_dev.specs.declared.talk.Code.TheVariants as codes
use Rattle.mj_dev.specs.declared.talk.State.TheVariants as states
use Rattle.mj_dev.specs.Heard.{Heard, called}
use Rattle.mj_dev.specs.Talk.{Exchanges}
use Rattle.mj_sessions.specs.declared.answer.Answer.{Answer}
use Rattle.mj_sessions.specs.declared.answer.Answer.TheVariants as answers
use Rattle.mj_sessions.specs.Events.{exchange_of}
use Rattle.mj_sessions.specs.Named.{Named, session_of, with_session, without}

-- an ask of a device that reads
abbrev pub Reads : DeviceAsk → Type 0
Reads (device_asks.Line timeout) = Unit {0}
Reads (device_asks.Byte timeout) = Unit {0}
Reads _ = ⊥

-- an ask that reads
abbrev pub IsReading : Ask → Type 0
IsReading (asks.Device device ask) = Reads ask
IsReading _ = ⊥

-- an ask that is one call to a session, which goes on behind it
abbrev pub IsCall : DeviceAsk → Type 0
IsCall device_asks.End = ⊥
IsCall _ = Unit {0}

-- the reply is one to this ask of a device: it stands in the table, and only what has a timeout is late
abbrev pub fits_call : DeviceAsk → Reply → Bool
fits_call ask reply = is_device_reply ask reply && (not (is_late reply) || is_some (device_timeout ask))

-- what is told of a call that reads nothing
abbrev pub answer_to : Did → Answer
answer_to did.Done = answers.Told replies.Done
answer_to did.Failed = answers.Told replies.Failed
answer_to did.Memory = answers.Memory

-- what is told where nothing can be read yet
abbrev pub not_yet : Bool → Answer
not_yet over = if over then answers.Told replies.Late else answers.NotYet

-- what is told of a line
abbrev pub answer_to_line : Input → Bool → Answer
answer_to_line (input.Line line) over = answers.Told (replies.Line line)
answer_to_line input.End over = answers.Told replies.End
answer_to_line input.NotYet over = not_yet over
answer_to_line input.Failed over = answers.Told replies.Failed
answer_to_line input.Memory over = answers.Memory

-- what is told of a byte
abbrev pub answer_to_byte : Code → Bool → Answer
answer_to_byte (codes.Byte code) over = answers.Told (replies.Byte code)
answer_to_byte codes.End over = answers.Told replies.End
answer_to_byte codes.NotYet over = not_yet over
answer_to_byte codes.Failed over = answers.Told replies.Failed
answer_to_byte codes.Memory over = answers.Memory

-- The session is asked: it is told what it answers to one call, late only where the timeout is over; or there is nothing to read yet, and the
-- timeout isn't over; or it can't be used, as its device failed; or memory was refused. Where nothing is told, only what the device keeps may be another.
abbrev pub Hears : Heard → DeviceAsk → Bool → Answer → Heard → Type 0
Hears old ask late (answers.Told reply) new =
    (old.state ≡ states.Open)
    × Exchanges old (exchange_of ask reply) new
    × (fits_call ask reply ≡ true)
    × (reply ≡ replies.Late → is_timed_out (device_timeout ask) late ≡ true)
Hears old ask late answers.NotYet new =
    (old.state ≡ states.Open) × Reads ask × (old.rest ≡ None) × (is_timed_out (device_timeout ask) late ≡ false)
    × (new ≡ called old new)
Hears old ask late answers.Unfit new = (old.state ≡ states.Open → ⊥) × (new ≡ old)
Hears old ask late answers.Memory new = (old.state ≡ states.Open) × (new ≡ called old new)

-- the job has no session with this device, which is unfit
abbrev pub IsAbsent : List ℕ → List Named → Answer → List Named → Type 0
IsAbsent name old answer new = (session_of name old ≡ None) × (answer ≡ answers.Unfit) × (new ≡ old)

-- the session with this device is asked
abbrev pub Asked : List ℕ → List Named → DeviceAsk → Bool → Answer → List Named → Type 0
Asked name old ask late answer new =
    IsAbsent name old answer new
    ⊎ ((s : Named) × (session_of name old ≡ Some s) × ((heard : Heard) × Hears s.session ask late answer heard × (new ≡ with_session name heard old)))

-- what the end of a session is told, which wasn't ended before
abbrev pub IsEnding : Heard → Answer → Type 0
IsEnding session answer =
    (session.state ≡ states.Ended → ⊥) × ((answer ≡ answers.Told replies.Done) ⊎ (answer ≡ answers.Told replies.Failed))

-- the session with this device ends, and is gone
abbrev pub SessionEnds : List ℕ → List Named → Answer → List Named → Type 0
SessionEnds name old answer new =
    IsAbsent name old answer new
    ⊎ ((s : Named) × (session_of name old ≡ Some s) × IsEnding s.session answer × (new ≡ without name old))

-- what comes of an ask of the device of this name
abbrev pub AnswersOf : List ℕ → List Named → DeviceAsk → Bool → Answer → List Named → Type 0
AnswersOf name old device_asks.End late answer new = SessionEnds name old answer new
AnswersOf name old ask late answer new = Asked name old ask late answer new

-- what comes of an ask that isn't one to the shared state: a rest is over at once
abbrev pub Answers : List Named → Ask → Bool → Answer → List Named → Type 0
Answers old (asks.Device name ask) late answer new = AnswersOf name old ask late answer new
Answers old (asks.Rest time) late answer new = (answer ≡ answers.Told replies.Done) × (new ≡ old)
Answers old (asks.Shared ask) late answer new = ⊥
