-- The talks of sessions with one device, one after the other: behind the end of one the next begins.
use Rattle.std.specs.Prelude.{◌≡◌, ℕ, zero, suc, List, [], ◌∷◌, ◌++◌, Bool, true, false, if◌then◌else◌}
use Rattle.std.specs.Str.{bytes_eq}
use Rattle.mj_ask.specs.declared.ask.Ask.{Ask}
use Rattle.mj_ask.specs.declared.ask.Ask.TheVariants as asks
use Rattle.mj_ask.specs.declared.ask.DeviceAsk.TheVariants as device_asks
use Rattle.mj_ask.specs.declared.ask.Reply.{Reply}
use Rattle.mj_ask.specs.declared.ask.Reply.TheVariants as replies
use Rattle.mj_dev.specs.Talk.{Exchange, Ended, written_by, TalkStand, Allows, beginning}
use Rattle.mj_sessions.specs.Events.{Log, talk_on}

-- the call that a session ends by
abbrev pub is_end : Exchange → Bool
is_end (Ended answer) = true
is_end _ = false

-- where the talks stand behind a call that left its session so
abbrev pub stand_behind : Exchange → TalkStand → TalkStand
stand_behind exchange stand = if is_end exchange then beginning else stand

-- the device protocol: each call is one that it allows, where the session stands
abbrev pub Follow : TalkStand → List Exchange → TalkStand → Type 0
Follow old [] new = new ≡ old
Follow old (exchange ∷ talk) new = (between : TalkStand) × Allows old old.state exchange between × Follow (stand_behind exchange between) talk new

-- the talks of a job with all devices obey the protocol
abbrev pub AreTalks : Log → Type 0
AreTalks log = (name : List ℕ) → (last : TalkStand) × Follow beginning (talk_on name log) last

-- what the session that isn't ended took, where it and those before it took so much before
abbrev pub taken_behind : List ℕ → List Exchange → List ℕ
taken_behind taken [] = taken
taken_behind taken (exchange ∷ talk) = taken_behind (if is_end exchange then [] else taken ++ written_by exchange) talk

-- what the session took that isn't ended
abbrev pub taken_by : List Exchange → List ℕ
taken_by talk = taken_behind [] talk

-- what was talked with the session that isn't ended, where this was talked with it before
abbrev pub talk_behind : List Exchange → List Exchange → List Exchange
talk_behind said [] = said
talk_behind said (exchange ∷ talk) = talk_behind (if is_end exchange then [] else said ++ exchange ∷ []) talk

-- what was talked with the session that isn't ended: the calls behind the last end
abbrev pub open_talk : List Exchange → List Exchange
open_talk talk = talk_behind [] talk

-- device output: the bytes of the writes that were done on a session; the first is 1, and one more is counted behind each end
abbrev pub output_on : ℕ → List Exchange → List ℕ
output_on k [] = []
output_on zero (exchange ∷ talk) = []
output_on (suc zero) (exchange ∷ talk) = if is_end exchange then [] else written_by exchange ++ output_on 1 talk
output_on (suc (suc k)) (exchange ∷ talk) = output_on (if is_end exchange then suc k else suc (suc k)) talk

-- the bytes that the session of a name took, by a log
abbrev pub output_of_log : Log → List ℕ → ℕ → List ℕ
output_of_log log name k = output_on k (talk_on name log)

-- an ask that ends a session with the device of a name
abbrev pub ends_on : List ℕ → Ask → Bool
ends_on name (asks.Device device device_asks.End) = bytes_eq device name
ends_on name _ = false

-- the bytes that the device of a name took by an ask with its reply
abbrev pub written_on : List ℕ → Ask → Reply → List ℕ
written_on name (asks.Device device (device_asks.Write bytes)) replies.Done = if bytes_eq device name then bytes else []
written_on name _ _ = []
