-- That what a job is told of its device is what the device was asked, and answered.
use Rattle.std.specs.Prelude.{◌≡◌, ◌+◌, ℕ, List, Bool, Some, IsSome, ◌⊎◌}
use Rattle.mj_ask.specs.declared.ask.Ask.{Ask}
use Rattle.mj_ask.specs.declared.ask.Ask.TheVariants as asks
use Rattle.mj_ask.specs.declared.ask.DeviceAsk.{DeviceAsk}
use Rattle.mj_ask.specs.declared.ask.DeviceAsk.TheVariants as device_asks
use Rattle.mj_ask.specs.Late.{is_timed_out}
use Rattle.mj_dev.specs.declared.device.Did.{Did}
use Rattle.mj_dev.specs.Did.{failures_of}
use Rattle.mj_dev.specs.declared.device.Input.{Input}
use Rattle.mj_dev.specs.declared.talk.Code.{Code}
use Rattle.mj_dev.specs.Heard.{Heard}
use Rattle.mj_dev.specs.Told.{DeviceCall, IsCodeOf}
use Rattle.mj_sessions.specs.declared.answer.Answer.{Answer}
use Rattle.mj_sessions.specs.declared.answer.Answer.TheVariants as answers
use Rattle.mj_sessions.specs.Answers.{answer_to, answer_to_line, answer_to_byte}
use Rattle.mj_sessions.specs.Named.{Named, session_of, with_session}

-- between an old session and a new one, its device was told so: this call alone was made to it, and was answered so
abbrev pub Answering : Type 1
Answering = Heard → Heard → DeviceCall → Type 0

-- the answer is the device's to such a call
abbrev pub Calls : Answering → (Did → DeviceCall) → Heard → Answer → Heard → Type 0
Calls tells call old answer new = (did : Did) × tells old new (call did) × (answer ≡ answer_to did)

-- the rest of a line that was begun is read, and the device isn't called
abbrev pub IsUncalled : Heard → Heard → Type 0
IsUncalled old new = IsSome old.rest × (new.inside ≡ old.inside)

-- The session's device was asked, and the answer comes of what it answered: where a line or a byte is read this is so unless a line was begun,
-- whose rest is read. An end is no such ask.
abbrev pub IsAsked : Answering → Heard → DeviceAsk → Bool → Answer → Heard → Type 0
IsAsked tells old device_asks.Begin late answer new = Calls tells DeviceCall.Begun old answer new
IsAsked tells old (device_asks.Write bytes) late answer new = Calls tells (DeviceCall.Wrote bytes) old answer new
IsAsked tells old (device_asks.Line timeout) late answer new =
    IsUncalled old new ⊎ ((input : Input) × tells old new (DeviceCall.Gave input) × (answer ≡ answer_to_line input (is_timed_out timeout late)))
IsAsked tells old (device_asks.Byte timeout) late answer new =
    IsUncalled old new
    ⊎ ((input : Input) × tells old new (DeviceCall.Gave input)
    × ((code : Code) × IsCodeOf input code × (answer ≡ answer_to_byte code (is_timed_out timeout late))))
IsAsked tells old device_asks.End late answer new = ⊥

-- the session with its device as it is behind its end
abbrev pub ended : Heard → Did → ℕ → Heard
ended old did inside = record old { inside = inside; failures = old.failures + failures_of did }

-- the session's device was ended, and the answer comes of what it answered
abbrev pub IsOver : Answering → Heard → Answer → Type 0
IsOver tells old answer = (did : Did) × ((inside : ℕ) × tells old (ended old did inside) (DeviceCall.Over did)) × (answer ≡ answer_to did)

-- unless the ask is unfit, the session of this name was asked so
abbrev pub IsAskedOf : Answering → List ℕ → List Named → DeviceAsk → Bool → Answer → List Named → Type 0
IsAskedOf tells name old ask late answer new =
    (answer ≡ answers.Unfit)
    ⊎ ((s : Named) × (session_of name old ≡ Some s)
    × ((heard : Heard) × IsAsked tells s.session ask late answer heard × (new ≡ with_session name heard old)))

-- unless the ask is unfit, the session of this name was ended so
abbrev pub IsOverOf : Answering → List ℕ → List Named → Answer → Type 0
IsOverOf tells name old answer = (answer ≡ answers.Unfit) ⊎ ((s : Named) × (session_of name old ≡ Some s) × IsOver tells s.session answer)

-- what is answered to an ask of the device of this name comes of a call to it, but where the ask is unfit, or the rest of a line is read
abbrev pub AreAskedOf : Answering → List ℕ → List Named → DeviceAsk → Bool → Answer → List Named → Type 0
AreAskedOf tells name old device_asks.End late answer new = IsOverOf tells name old answer
AreAskedOf tells name old ask late answer new = IsAskedOf tells name old ask late answer new

-- and so of any ask that isn't one to the shared state, but where a rest is over
abbrev pub AreAsked : Answering → List Named → Ask → Bool → Answer → List Named → Type 0
AreAsked tells old (asks.Device name ask) late answer new = AreAskedOf tells name old ask late answer new
AreAsked tells old (asks.Rest time) late answer new = Unit {0}
AreAsked tells old (asks.Shared ask) late answer new = ⊥
