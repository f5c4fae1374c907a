-- How a run that is fed with replies stops, and the words that the rows of the language are written in.
use Rattle.std.specs.Prelude.{ℕ, zero, suc, ◌==◌, List, [], ◌∷◌, ◌++◌, Option, Some, None, Bool, true, false, Result, Ok, Err, nat_lt, nat_le, if◌then◌else◌}
use Rattle.mj_text.specs.declared.fault.Fault.{Fault}
use Rattle.mj_text.specs.declared.fault.Fault.TheVariants.{Steps, Device}
use Rattle.mj_text.specs.declared.limit.Limit.{Limit}
use Rattle.mj_ask.specs.declared.ask.Ask.{Ask}
use Rattle.mj_ask.specs.declared.ask.Ask.TheVariants as asks
use Rattle.mj_ask.specs.declared.ask.SharedAsk.TheVariants as shared_asks
use Rattle.mj_ask.specs.declared.ask.DeviceAsk.{DeviceAsk}
use Rattle.mj_ask.specs.declared.ask.DeviceAsk.TheVariants as device_asks
use Rattle.mj_ask.specs.declared.ask.Reply.{Reply}
use Rattle.mj_ask.specs.declared.ask.Reply.TheVariants as replies_are
use Rattle.mj_semantics.specs.State.{State, Locals, Place, places, place_of, principal, column_at, has_failed, ending_order, broke, counted}
use Rattle.mj_semantics.specs.Faults.{fault_line}

-- the replies are used up at an ask, with the locals and the frames' places there, the innermost first; or the run is
-- over; or its turns are used up
pub data Outcome : Type 0 where
  Needs : (a : Ask) (locals : Locals) (places : List Place) → Outcome
  Ended : Outcome
  More : Outcome

-- how a run goes on from a state, for some turns and with the replies to come
abbrev pub Handler : Type 0
Handler = ℕ → State → List Reply → Outcome

-- what is left to do: given its turns, what a restart goes on with, the state and the replies to come
abbrev pub Timed : Type 0
Timed = ℕ → Handler → State → List Reply → Outcome

-- one turn of those that it may take, and then the rest
abbrev pub turn : Timed → Timed
turn rest zero = λ h s replies. More
turn rest (suc n) = rest n

-- so many turns, and then the rest
abbrev pub turns : ℕ → Timed → Timed
turns zero rest = rest
turns (suc k) rest = turn (turns k rest)

-- the rest, by the state
abbrev pub look : (State → Timed) → Timed
look rest = λ n h s. rest s n h s

-- a change of the state, and then the rest
abbrev pub change : (State → State) → Timed → Timed
change f rest = λ n h s. rest n h (f s)

-- an ask that is made in any case, and then the rest with its reply
abbrev pub asking : Ask → (Reply → Timed) → Timed
asking a rest n h s [] = Needs a s.locals (places s)
asking a rest n h s (r ∷ replies) = rest r n h s replies

-- the job is over, which takes a turn to see
abbrev pub over : Timed
over = turn (λ n h s replies. Ended)

-- outside a transaction nothing goes back, so nothing is left to do
abbrev pub no_restart : Handler
no_restart zero = λ s replies. More
no_restart (suc n) = λ s replies. Ended

-- a restart goes on as said, for no more turns than these; that it does so again is for it to say
abbrev pub until : ℕ → Timed → Handler
until n again m = if nat_le m n then again m no_restart else λ s replies. More

-- the rest behind the outermost TSTART, in which a restart goes on as said. What was said of an earlier transaction is forgotten
abbrev pub restartable : Timed → Timed → Timed
restartable again rest n h = rest n (until n again)

-- behind the outermost TSTART again
abbrev pub go_back : Timed
go_back n h = h n

-- the last asks of a job, each in a turn: its sessions end, the principal one last, and then the job (8.2.7, HALT). Whether a session
-- ends well changes nothing
abbrev pub halt : Option Fault → Timed
halt f = turn (asking (asks.Shared (shared_asks.Halt f)) (λ r. over))

abbrev pub ends : List (List ℕ) → Option Fault → Timed
ends [] f = halt f
ends (name ∷ names) f = turn (asking (asks.Device name device_asks.End) (λ r. ends names f))

abbrev pub end : Option Fault → Timed
end f = look (λ s. ends (ending_order s.devices) f)

-- what a fault writes (this profile): its line, at the beginning of a line of the principal device
abbrev pub fault_bytes : Fault → State → List ℕ
fault_bytes f s = (if column_at principal s == 0 then [] else 10 ∷ []) ++ fault_line f (place_of s) ++ 10 ∷ []

-- a fault takes a turn and ends the job. Its line is written first, but to a principal device that failed; whether the write is done
-- changes nothing
abbrev pub fault : Fault → Timed
fault f = turn (look (λ s.
    if has_failed principal s then end (Some f) else asking (asks.Device principal (device_asks.Write (fault_bytes f s))) (λ r. end (Some f))))

-- an ask, and then the rest with its reply; where as many as a job of the program may make were replied to, STEPS in its place
abbrev pub ask : Ask → (Reply → Timed) → Timed
ask a rest = look (λ s.
    if nat_lt s.replied s.bounds.events then asking a (λ r. change counted (rest r)) else fault Steps)

-- an ask of which the reply changes nothing
abbrev pub tell : Ask → Timed → Timed
tell a rest = ask a (λ r. rest)

-- the device failed
abbrev pub is_failed : Reply → Bool
is_failed replies_are.Failed = true
is_failed _ = false

-- an ask to the session of a device, and then the rest with its reply; where the device failed it is DEVICE
abbrev pub to_device : List ℕ → DeviceAsk → (Reply → Timed) → Timed
to_device name a rest = ask (asks.Device name a) (λ r. if is_failed r then change (broke name) (fault Device) else rest r)

-- the rest with a value, or the fault where there is none
abbrev pub need : {A : Type 0} → Fault → Option A → (A → Timed) → Timed
need f None rest = fault f
need f (Some v) rest = rest v

-- the rest with a result, or its fault
abbrev pub given : {A : Type 0} → Result A Fault → (A → Timed) → Timed
given (Ok v) rest = rest v
given (Err f) rest = fault f

-- the rest with a text that is put together, where the limit is the program's, or its fault
abbrev pub composed : (Limit → Result (List ℕ) Fault) → (List ℕ → Timed) → Timed
composed text rest = look (λ s. given (text s.bounds.limit) rest)
