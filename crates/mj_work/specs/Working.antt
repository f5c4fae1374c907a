-- What workers do, and what they leave.
use Rattle.std.specs.Prelude.{◌≡◌, ◌⊎◌, ℕ, ◌+◌, ◌≤◌, List, [], ◌∷◌, ◌++◌, length, Bool, true, false, Option, Some, None, Result, Ok, Err, ⊤}
use Rattle.std.specs.List.{list_any}
use Rattle.mj_ask.specs.Fits.{is_shared}
use Rattle.mj_ask.specs.declared.ask.Ask.{Ask}
use Rattle.mj_ask.specs.declared.ask.Ask.TheVariants as asks
use Rattle.mj_ask.specs.declared.ask.Reply.{Reply}
use Rattle.mj_dev.specs.Heard.{Heard}
use Rattle.mj_load.specs.Image.{Loaded}
use Rattle.mj_jobvm.specs.Run.{Log}
use Rattle.mj_jobvm.specs.Jobs.{Running}
use Rattle.mj_sys.specs.declared.served.Served.{Served}
use Rattle.mj_sys.specs.declared.served.Served.TheVariants as serveds
use Rattle.mj_sys.specs.declared.served.Refused.{Refused}
use Rattle.mj_sys.specs.declared.served.Refused.TheVariants as refusals
use Rattle.mj_sys.specs.declared.served.Held.{Held}
use Rattle.mj_sys.specs.declared.served.Told.{Told}
use Rattle.mj_sys.specs.declared.served.Told.TheVariants as tolds
use Rattle.mj_sys.specs.Shared.{Shared, moves_none, takes_session}
use Rattle.mj_sys.specs.History.{state_of}
use Rattle.mj_sys.specs.System.{Recorded, Claimed}
use Rattle.mj_sys.specs.Told.{Serves, IsTurn, IsServiceRefused}
use Rattle.mj_core.specs.declared.parts.Made.TheVariants as made
use Rattle.mj_core.specs.declared.parts.Place.{Place}
use Rattle.mj_core.specs.declared.parts.Place.TheVariants as ready
use Rattle.mj_core.specs.Answering.{Answering, Stays, IsNobodys}
use Rattle.mj_core.specs.Ties.{IsJobOf, IsServedAt, Talks}
use Rattle.mj_work.specs.declared.locked.Next.{Next}
use Rattle.mj_work.specs.declared.locked.Next.TheVariants as nexts
use Rattle.mj_gather.specs.declared.ran.Stop.{Stop}
use Rattle.mj_gather.specs.declared.ran.Stop.TheVariants as stops
use Rattle.mj_gather.specs.Rans.{Kept, is_halt, EndsAtHalt}

-- the most workers that there may be (this profile)
abbrev pub workers_limit : ℕ
workers_limit = 64

-- a job stopped for want of memory, or since the history was full
abbrev pub is_cut : Stop → Bool
is_cut stops.Ended = false
is_cut stops.Full = true
is_cut stops.Memory = true
is_cut stops.Refused = false

-- and so one of these
abbrev pub was_cut : List Kept → Bool
was_cut rans = list_any (λ r. is_cut r.stop) rans

-- Each row was claimed, unless a job stopped for want of memory or since the history was full, or a claim was refused for want of memory, which `short` says.
abbrev pub AreClaimed : Shared → Recorded → List Kept → Bool → Type 0
AreClaimed opening system rans short = was_cut rans ≡ false → short ≡ false → system.claimed ≡ length (state_of opening system.history).rows

-- An ask was served under the lock: of the system it is said that it has this opening, and that serving it came to that. More can't be said of it, since it
-- may have changed before and does behind.
abbrev pub WasServed : Shared → Claimed → Ask → Bool → Served Heard → Claimed → Type 0
WasServed opening claim a late told claim' = (old : Recorded) × (new : Recorded) × Serves opening old claim a late told new claim'

-- and so of an ask by which a session may go to its job, for which this place was ready
abbrev pub WasServedAt : Shared → Claimed → Ask → Place → Bool → Option (Served Heard) → Claimed → Type 0
WasServedAt opening claim a place late told claim' = (old : Recorded) × (new : Recorded) × IsServedAt opening old claim a place late told new claim'

-- an ask goes to what all jobs share, and no session goes to its job by it
abbrev pub needs_no_place : Ask → Bool
needs_no_place (asks.Shared a) = moves_none a
needs_no_place _ = false

-- what a job is told, if it is told something
abbrev pub reply_in : Told → Option Reply
reply_in (tolds.Reply reply) = Some reply
reply_in (tolds.Busy holder held) = None

-- by such an ask a reply was served, or it is busy
abbrev pub WasToldAt : Shared → Claimed → Ask → Bool → Option Reply → Claimed → Type 0
WasToldAt opening claim a late (Some reply) claim' = WasServed opening claim a late (serveds.Reply reply) claim'
WasToldAt opening claim a late None claim' = (holder : ℕ) × (held : Held) × WasServed opening claim a late (serveds.Busy holder held) claim'

-- what was served tells a job something
abbrev pub is_told : Served Heard → Bool
is_told (serveds.Busy holder held) = false
is_told _ = true

-- What a worker gets that has no job: a claim without an event, which is one more of its own; or none.
abbrev pub Gives : Next (Claimed × Heard) → ℕ → ℕ → Type 0
Gives (nexts.Claim claim) old new = (claim.0.events ≡ 0) × (new ≡ old + 1)
Gives nexts.Wait old new = new ≡ old
Gives nexts.Leave old new = new ≡ old

-- how a job stops whose ask was refused
abbrev pub stop_by : Refused → Stop
stop_by (refusals.Turn expected) = stops.Refused
stop_by refusals.Memory = stops.Memory
stop_by refusals.Full = stops.Full

-- Why an ask is refused under the lock, as this system stands, where a run has at most so many events: for the system's own reason; since all jobs together
-- made as many, which is looked at first, so that nothing is said of whose turn it is; or for want of memory, as each is once a job stopped so.
abbrev pub IsRefusedIn : ℕ → Shared → Recorded → Claimed → Refused → Type 0
IsRefusedIn events opening system claim (refusals.Turn expected) = IsServiceRefused opening system claim (refusals.Turn expected)
IsRefusedIn events opening system claim refusals.Full = events ≤ length system.history
IsRefusedIn events opening system claim refusals.Memory = ⊤

-- so it was refused, as a system with this opening stood: more can't be said of that
abbrev pub WasRefused : ℕ → Shared → Claimed → Refused → Type 0
WasRefused events opening claim (refusals.Turn expected) = (system : Recorded) × IsServiceRefused opening system claim (refusals.Turn expected)
WasRefused events opening claim refusals.Full = (system : Recorded) × (events ≤ length system.history)
WasRefused events opening claim refusals.Memory = ⊤

-- it wasn't the claim's turn, as a system with this opening stood
abbrev pub WasOutOfTurn : Shared → Claimed → Type 0
WasOutOfTurn opening claim = (system : Recorded) × (IsTurn opening system claim → ⊥)

-- a session would have gone to its job by the ask, as a system with this opening stood
abbrev pub WouldMove : Shared → Ask → Type 0
WouldMove opening a = (system : Recorded) × (takes_session (state_of opening system.history) a ≡ true)

-- How a job may stop whose ask the system didn't serve, by which no session goes to it: refused only where it wasn't its turn.
abbrev pub StopsUntold : Shared → Claimed → Stop → Type 0
StopsUntold opening claim stops.Ended = ⊥
StopsUntold opening claim stops.Full = ⊤
StopsUntold opening claim stops.Memory = ⊤
StopsUntold opening claim stops.Refused = WasOutOfTurn opening claim

-- So of an ask by which a session may go to it, for which this place was ready: it is refused too where one would, and the job has one with that device.
abbrev pub StopsUnserved : Shared → Claimed → Ask → Place → Stop → Type 0
StopsUnserved opening claim a place stops.Ended = ⊥
StopsUnserved opening claim a place stops.Full = ⊤
StopsUnserved opening claim a place stops.Memory = ⊤
StopsUnserved opening claim a place stops.Refused = WasOutOfTurn opening claim ⊎ ((place ≡ ready.Taken) × WouldMove opening a)

-- a job goes on as its claim has it, in whichever image it runs so
abbrev pub GoesOn : {A : Type 0} → Answering A → Claimed → Running → A → Claimed → Running → A → Type 0
GoesOn by claim job x claim' job' x' = (image : Loaded) → IsJobOf by image claim job x → IsJobOf by image claim' job' x'

-- nobody could answer what a job asks a device or the clock: `talk` was unfit, with its timeout over or not
abbrev pub WasUnfit : {A : Type 0} → Answering A → Ask → Running → A → A → Type 0
WasUnfit by a job x x' = (late : Bool) × Talks by job x a late None made.Unfit job x'

-- nobody could answer for a session that would have gone to a job by the ask, as a system with this opening stood
abbrev pub WasTaken : {A : Type 0} → Answering A → Shared → Ask → A → Type 0
WasTaken by opening a x =
    (system : Recorded) × (takes_session (state_of opening system.history) a ≡ true) × IsNobodys by x (state_of opening system.history) a

-- Why a job is refused what it asks. What all jobs share refuses it where it isn't its turn, or where nobody could answer for the session that would go to
-- it. Else nobody could answer it.
abbrev pub IsAskRefused : {A : Type 0} → Answering A → Shared → Ask → Claimed → Running → A → A → Type 0
IsAskRefused by opening a claim job x x' =
    ((is_shared a ≡ true) × (WasOutOfTurn opening claim ⊎ WasTaken by opening a x))
    ⊎ ((is_shared a ≡ false) × WasUnfit by a job x x')

-- A job may stop so that asks this: its run isn't over; that the history is full stops only an ask of what all jobs share; and a refusal has its reason.
abbrev pub MayStop : {A : Type 0} → Answering A → Shared → Ask → Claimed → Running → A → Stop → A → Type 0
MayStop by opening a claim job x stops.Ended x' = ⊥
MayStop by opening a claim job x stops.Full x' = is_shared a ≡ true
MayStop by opening a claim job x stops.Memory x' = ⊤
MayStop by opening a claim job x stops.Refused x' = IsAskRefused by opening a claim job x x'

-- What comes of what a job asks: it is told a reply; or it stops, and its claim, itself and what is known of who answers for it are as they were.
abbrev pub IsAnswered : {A R : Type 0} → Answering A → Shared → Ask → Claimed → Running → A → Result R Stop → Claimed → Running → A → Type 0
IsAnswered by opening a claim job x (Ok r) claim' job' x' =
    ((reply : Reply) × (job'.run.log ≡ job.run.log ++ (a, reply) ∷ [])) × GoesOn by claim job x claim' job' x'
IsAnswered by opening a claim job x (Err stop) claim' job' x' =
    MayStop by opening a claim job x stop x' × (claim' ≡ claim) × (job' ≡ job) × Stays by x x'

-- a job was told of its halt
abbrev pub has_halted : Log → Bool
has_halted log = list_any (λ e. is_halt e.0) log

-- A job stands in its run as its claim has it, in this image; nothing stands behind its halt; and this says whether it was told of one.
pub record IsAt {A : Type 0} (by : Answering A) (image : Loaded) (claim : Claimed) (halted : Bool) (job : Running) (x : A) : Type 0 where
  pub own : IsJobOf by image claim job x
  pub ends : EndsAtHalt job.run.log
  pub told : has_halted job.run.log ≡ halted

-- Why a job stopped refused that is that of its claim in this image: it asks, and was told of its halt before, or is refused what it asks. `before` answered
-- for it as it asked, and what was known of that is known still of who answers for it now.
pub record StopsRefused {A : Type 0} (by : Answering A) (opening : Shared) (image : Loaded) (claim : Claimed) (job : Running) (x' : A) : Type 0 where
  pub asked : Ask
  pub pends : job.run.pending ≡ Some asked
  pub before : A
  pub own : IsJobOf by image claim job before
  pub stays : Stays by before x'
  pub why : (has_halted job.run.log ≡ true) ⊎ IsAskRefused by opening asked claim job before x'
