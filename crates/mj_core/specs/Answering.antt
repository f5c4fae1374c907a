-- Who answers what a job asks a device.
use Rattle.std.specs.Prelude.{◌≡◌, ℕ, List, [], ◌∷◌, ◌++◌, Bool, true, false, Option, Some, None, ℤ}
use Rattle.mj_ask.specs.declared.ask.Ask.{Ask}
use Rattle.mj_ask.specs.declared.ask.Ask.TheVariants as asks
use Rattle.mj_ask.specs.declared.ask.SharedAsk.TheVariants as shared_asks
use Rattle.mj_ask.specs.declared.ask.Reply.{Reply}
use Rattle.mj_ask.specs.declared.ask.Reply.TheVariants as replies
use Rattle.mj_ask.specs.Fits.{fits, timeout_of}
use Rattle.mj_ask.specs.Late.{is_timed_out}
use Rattle.mj_sessions.specs.declared.answer.Answer.{Answer}
use Rattle.mj_sessions.specs.declared.answer.Answer.TheVariants as answers
use Rattle.mj_sessions.specs.Events.{Log, device_of}
use Rattle.mj_sessions.specs.Follow.{AreTalks}
use Rattle.mj_sys.specs.Shared.{Shared, takes_session}
use Rattle.mj_core.specs.declared.answerer.Unplaced.{Unplaced}
use Rattle.mj_core.specs.declared.answerer.Unplaced.TheVariants as unplaced
use Rattle.mj_core.specs.declared.parts.Place.{Place}
use Rattle.mj_core.specs.declared.parts.Place.TheVariants as places
use Rattle.mj_core.specs.Having.{opens_on, has_behind}
use Rattle.mj_core.specs.Meaning.{Means}

-- What is known of one that answers for a job: that it is so by the job's log; whether the job has a session with the device of a name; that there is
-- room for one; and what its answers mean. By the log the job's talks obey the device protocol, and what no device is asked changes nothing.
pub record Answering (A : Type 0) : Type 1 where
  pub IsOf : A → Log → Type 0
  pub Has : A → List ℕ → Bool → Type 0
  pub HasRoom : A → List ℕ → Type 0
  pub means : Means
  pub talks : (x : A) (log : Log) → IsOf x log → AreTalks log
  pub silent : (x : A) (log : Log) (a : Ask) (reply : Reply) → device_of a ≡ None → IsOf x log → IsOf x (log ++ (a, reply) ∷ [])

-- the job has these sessions
abbrev pub HasAll : {A : Type 0} → Answering A → A → (List ℕ → Bool) → Type 0
HasAll by x has = (name : List ℕ) → by.Has x name (has name)

-- and those that it had before
abbrev pub HasStill : {A : Type 0} → Answering A → A → A → Type 0
HasStill by old new = (name : List ℕ) (has : Bool) → by.Has old name has → by.Has new name has

-- nothing was asked of it: what was known of it is known still
abbrev pub Stays : {A : Type 0} → Answering A → A → A → Type 0
Stays by old new = ((log : Log) → by.IsOf old log → by.IsOf new log) × HasStill by old new

-- behind the ask there is a session with a device just where the shared state and the ask say so
abbrev pub AreBehind : {A : Type 0} → Answering A → Shared → Ask → A → A → Type 0
AreBehind by s a old new = (name : List ℕ) (has : Bool) → by.Has old name has → by.Has new name (has_behind s name a has)

-- nobody can answer this ask, whatever the job asked before
abbrev pub IsNobodys : {A : Type 0} → Answering A → A → Shared → Ask → Type 0
IsNobodys by x s a = (log : Log) (has : List ℕ → Bool) (late : Bool) (given : Option Reply) → HasAll by x has → by.means.Unfit s log has a late given (Unit {0})

-- What comes of an ask of a device: the job is told a reply that fits, late only where the timeout is over; or nothing is there to read yet; or nobody
-- can answer it; or memory was refused.
abbrev pub Answers : {A : Type 0} → Answering A → A → Ask → Bool → Option Reply → Answer → A → Type 0
Answers by old a late given (answers.Told reply) new =
    (fits a reply ≡ true) × (reply ≡ replies.Late → is_timed_out (timeout_of a) late ≡ true)
    × ((log : Log) → by.IsOf old log → by.IsOf new (log ++ (a, reply) ∷ [])) × ((s : Shared) → AreBehind by s a old new)
    × ((log : Log) → by.IsOf old log → by.means.Told log given a late reply (Unit {0}))
Answers by old a late given answers.NotYet new = ((log : Log) → by.IsOf old log → by.means.NotYet log a late (Unit {0})) × Stays by old new
Answers by old a late given answers.Unfit new =
    ((s : Shared) (log : Log) (has : List ℕ → Bool) → by.IsOf old log → HasAll by old has → by.means.Unfit s log has a late given (Unit {0}))
    × Stays by old new
Answers by old a late given answers.Memory new = Stays by old new

-- why there is no room for a session with the device of a name: the job has one; or memory was refused
abbrev pub IsRefused : {A : Type 0} → Answering A → A → List ℕ → Unplaced → Type 0
IsRefused by x name unplaced.Taken = (s : Shared) (a : Ask) → opens_on name a ≡ true → takes_session s a ≡ true → IsNobodys by x s a
IsRefused by x name unplaced.Memory = Unit {0}

-- there is room for a session that goes to the job by the ask, under the name of the device that it opens
abbrev pub IsRoomFor : {A : Type 0} → Answering A → A → Ask → Place → Type 0
IsRoomFor by x a (places.Ready name) = ((timeout : Option ℤ) × (a ≡ asks.Shared (shared_asks.Open name timeout))) × by.HasRoom x name
IsRoomFor by x a _ = ⊥

-- What is ready for a session that may go to the job by the ask, before it is known whether one does: none can; or the job has one with that device, so
-- that nobody could answer for both; or there is room for it.
abbrev pub IsPlaceFor : {A : Type 0} → Answering A → A → Ask → Place → A → Type 0
IsPlaceFor by old a places.Unneeded new = (s : Shared) → takes_session s a ≡ false
IsPlaceFor by old a places.Taken new = (s : Shared) → takes_session s a ≡ true → IsNobodys by old s a
IsPlaceFor by old a (places.Ready name) new = IsRoomFor by new a (places.Ready name)
