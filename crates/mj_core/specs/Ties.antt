-- One job among many, and what a step of it gives.
use Rattle.std.specs.Prelude.{◌≡◌, ℕ, ◌+◌, ◌≤◌, min, List, [], ◌∷◌, ◌++◌, Bool, true, false, Option, Some, None, ◌⊎◌, count_by, reverse, if◌then◌else◌}
use Rattle.mj_text.specs.declared.limit.Limit.TheVariants.{V2}
use Rattle.mj_ask.specs.declared.ask.Ask.{Ask}
use Rattle.mj_ask.specs.declared.ask.Reply.{Reply}
use Rattle.mj_ask.specs.declared.ask.Reply.TheVariants as replies
use Rattle.mj_ask.specs.Fits.{fits, is_shared, timeout_of}
use Rattle.mj_ask.specs.Within.{is_reply_within}
use Rattle.mj_semantics.specs.Program.{Program}
use Rattle.mj_semantics.specs.State.{State, places}
use Rattle.mj_semantics.specs.Job.{Start}
use Rattle.mj_load.specs.Image.{Loaded, program_of}
use Rattle.mj_jobs.specs.Rows.{Row, row_at, IsLive}
use Rattle.mj_dev.specs.Heard.{Heard, IsNew}
use Rattle.mj_jobvm.specs.Run.{Log, Run, GoesOn, HasEnded}
use Rattle.mj_jobvm.specs.Jobs.{Running, IsRunOf}
use Rattle.mj_ask.specs.Late.{is_timed_out}
use Rattle.mj_sys.specs.declared.served.Served.{Served}
use Rattle.mj_sys.specs.declared.served.Served.TheVariants as serveds
use Rattle.mj_sys.specs.Shared.{Shared, served, takes_session}
use Rattle.mj_sys.specs.History.{state_of, events_of}
use Rattle.mj_sys.specs.System.{Recorded, Claimed, KeepsBusy}
use Rattle.mj_sys.specs.Told.{Serves, recorded}
use Rattle.mj_steps.specs.declared.step.Refusal.{Refusal}
use Rattle.mj_steps.specs.declared.step.Refusal.TheVariants as refusals
use Rattle.mj_core.specs.declared.parts.Made.{Made}
use Rattle.mj_core.specs.declared.parts.Made.TheVariants as made
use Rattle.mj_core.specs.declared.parts.Place.{Place}
use Rattle.mj_core.specs.declared.parts.Place.TheVariants as ready
use Rattle.mj_core.specs.Happen.{shared_of}
use Rattle.mj_core.specs.Runs.{start_in}
use Rattle.mj_core.specs.Shown.{AtAsk}
use Rattle.mj_core.specs.Gives.{fuel, spent_limit, Waits, StandsAt, answered, MayGoOn, IsTimely, IsReplyTold}
use Rattle.mj_core.specs.Answering.{Answering, HasAll, HasStill, Stays, AreBehind, IsNobodys, IsRoomFor}

-- a job with its claim, and who answers for it what it asks a device; and whether it stands at an ask
pub record Placed (A : Type 0) : Type 0 where
  pub claim : Claimed
  pub job : Running
  pub answerer : A
  pub at_ask : Bool

-- how its job starts
abbrev pub start_of : {A : Type 0} → Placed A → Start
start_of slot = start_in slot.claim.job slot.claim.start

-- how many asks of what all jobs share a log has
abbrev pub shared_in : Log → ℕ
shared_in log = count_by (λ e. is_shared e.0) log

-- The job is that of this claim, whatever the system is: it runs the program from the claim's start, so that its log is a trace of that; who answers for
-- it is so by its log, so that its talks obey the device protocol; its log has as many asks of what all jobs share as the claim counts; and the image's
-- limit is the greater one, so that the job may be told every text.
pub record IsJobOf {A : Type 0} (by : Answering A) (image : Loaded) (claim : Claimed) (job : Running) (x : A) : Type 0 where
  pub run : IsRunOf image (start_in claim.job claim.start) job
  pub told : by.IsOf x job.run.log
  pub shared : claim.events ≡ shared_in job.run.log
  pub long : image.bounds.limit ≡ V2

-- The claim is one of the system: the row of its job was claimed, starts as the claim says, and had as many events as it counts.
pub record IsClaimIn (opening : Shared) (system : Recorded) (claim : Claimed) : Type 0 where
  pub numbered : 1 ≤ claim.job
  pub claimed : claim.job ≤ system.claimed
  pub row : (row : Row) × (row_at (state_of opening system.history).rows claim.job ≡ Some row) × (row.start ≡ claim.start)
  pub counted : claim.events ≡ events_of claim.job system.history

-- the job is that of a claim of the system
pub record IsTied {A : Type 0} (by : Answering A) (image : Loaded) (opening : Shared) (system : Recorded) (claim : Claimed) (job : Running) (x : A)
    : Type 0 where
  pub own : IsJobOf by image claim job x
  pub entered : IsClaimIn opening system claim

abbrev pub IsPlaced : {A : Type 0} → Answering A → Loaded → Shared → Recorded → Placed A → Type 0
IsPlaced by image opening system slot = IsTied by image opening system slot.claim slot.job slot.answerer

-- a job in this state at the ask that it waits with, or else at the one that it was told last
abbrev pub stand_by : Option Ask → Log → State → Option AtAsk
stand_by (Some a) log s = Some (record { ask = a; locals = s.locals; places = places s; answered = false })
stand_by None log s = elim (reverse log) [
  | [] ↦ None
  | e ∷ earlier ↦ Some (record { ask = e.0; locals = s.locals; places = places s; answered = true })
]

-- a job at its ask, as its run has it there
abbrev pub stand_in : Run → Option AtAsk
stand_in run = stand_by run.pending run.log run.at.state

-- a job in this state at the ask that it waits with, if it waits
abbrev pub waits_by : Option Ask → State → Option AtAsk
waits_by None s = None
waits_by (Some a) s = Some (record { ask = a; locals = s.locals; places = places s; answered = false })

-- How the job of a slot stands, where it stands at an ask: it waits with that, whatever the slot says; or it has the reply, and the slot says that it hasn't
-- gone on.
abbrev pub stand_of : {A : Type 0} → Placed A → Option AtAsk
stand_of slot = if slot.at_ask then stand_in slot.job.run else waits_by slot.job.run.pending slot.job.run.at.state

-- the slot says that its job stands at no ask, and it doesn't wait; or that it stands at one, as its private run does
abbrev pub IsStanding : {A : Type 0} → Loaded → Placed A → Type 0
IsStanding image slot =
    ((slot.at_ask ≡ false) × (slot.job.run.pending ≡ None))
    ⊎ ((slot.at_ask ≡ true) × ((at : AtAsk) × (stand_of slot ≡ Some at) × StandsAt (program_of image) (start_of slot) slot.job.run.log at))

-- nothing was asked or told: the log and the count of turns are as they were, and the job has each session that it had
abbrev pub IsStill : {A : Type 0} → Answering A → Placed A → Placed A → Type 0
IsStill by old new = (new.job.run.log ≡ old.job.run.log) × (new.job.run.spent ≡ old.job.run.spent) × HasStill by old.answerer new.answerer

-- What a step of one job gives, for which this reply of a device is given or none: what it asks after its log is told a reply, which joins the log, and
-- the history of the system if that served it; or nothing is told, and both stay.
abbrev pub Steps : {A : Type 0} → Answering A → Program → Shared → Bool → Option Reply → Recorded → Placed A → Made → Recorded → Placed A → Type 0
Steps by program opening late given old slot made.Event new slot' =
    (at : AtAsk) × (reply : Reply) × Waits program (start_of slot) slot.job.run.log at × IsTimely late at.ask
    × IsLive (state_of opening old.history).rows slot.claim.job
    × IsReplyTold (state_of opening old.history) slot.claim.job at.ask late reply (state_of opening new.history)
    × (slot'.job.run.log ≡ slot.job.run.log ++ (at.ask, reply) ∷ [])
    × (slot'.job.run.spent ≡ 0)
    × AreBehind by (state_of opening old.history) at.ask slot.answerer slot'.answerer
    × (new ≡ record old { history = old.history ++ shared_of (record { job = slot.claim.job; ask = at.ask; reply = reply } ∷ []) })
    × by.means.Told slot.job.run.log given at.ask late reply (Unit {0})
    × (stand_of slot' ≡ Some (answered at))
Steps by program opening late given old slot (made.Busy holder held) new slot' =
    (at : AtAsk) × Waits program (start_of slot) slot.job.run.log at × IsTimely late at.ask
    × (served (state_of opening old.history) slot.claim.job at.ask late ≡ None)
    × KeepsBusy (state_of opening old.history) slot.claim.job at.ask holder held
    × (new ≡ old) × IsStill by slot slot' × (stand_of slot' ≡ Some at)
Steps by program opening late given old slot made.NotYet new slot' =
    (at : AtAsk) × Waits program (start_of slot) slot.job.run.log at × IsTimely late at.ask
    × by.means.NotYet slot.job.run.log at.ask late (Unit {0})
    × (new ≡ old) × IsStill by slot slot' × (stand_of slot' ≡ Some at)
Steps by program opening late given old slot made.Unfit new slot' =
    (at : AtAsk) × Waits program (start_of slot) slot.job.run.log at × IsTimely late at.ask
    × ((has : List ℕ → Bool) → HasAll by slot.answerer has
    → by.means.Unfit (state_of opening old.history) slot.job.run.log has at.ask late given (Unit {0}))
    × (new ≡ old) × IsStill by slot slot' × (stand_of slot' ≡ Some at)
Steps by program opening late given old slot made.Ran new slot' =
    (slot'.job.run.spent ≡ min (slot.job.run.spent + fuel) spent_limit) × GoesOn program (start_of slot) slot.job.run.log slot'.job.run.spent
    × (new ≡ old) × (slot'.job.run.log ≡ slot.job.run.log) × HasStill by slot.answerer slot'.answerer × (stand_of slot' ≡ None)
    × MayGoOn (stand_of slot)
Steps by program opening late given old slot made.Ended new slot' =
    HasEnded program (start_of slot) slot.job.run.log × (new ≡ old) × IsStill by slot slot' × (stand_of slot' ≡ None)

-- the job goes on by a reply to what it asks, in each image that lets it be told that, and stands where it stood
abbrev pub GoesOnBy : Running → Ask → Reply → Running → Type 0
GoesOnBy old a reply new =
    (new.run.log ≡ old.run.log ++ (a, reply) ∷ [])
    × ((image : Loaded) (start : Start) → is_reply_within image.bounds.limit reply ≡ true → IsRunOf image start old → IsRunOf image start new)
    × (new.run.spent ≡ 0) × (new.run.pending ≡ None) × (new.run.at.state ≡ old.run.at.state)

-- what a job is told that asks a device or a rest, or isn't
abbrev pub Talks : {A : Type 0} → Answering A → Running → A → Ask → Bool → Option Reply → Made → Running → A → Type 0
Talks by old x a late given made.Event new x' =
    (reply : Reply) × (fits a reply ≡ true) × (reply ≡ replies.Late → is_timed_out (timeout_of a) late ≡ true)
    × GoesOnBy old a reply new × (by.IsOf x old.run.log → by.IsOf x' (old.run.log ++ (a, reply) ∷ []))
    × ((s : Shared) → AreBehind by s a x x') × (by.IsOf x old.run.log → by.means.Told old.run.log given a late reply (Unit {0}))
Talks by old x a late given made.NotYet new x' =
    (by.IsOf x old.run.log → by.means.NotYet old.run.log a late (Unit {0})) × (new ≡ old) × Stays by x x'
Talks by old x a late given made.Unfit new x' =
    ((s : Shared) (has : List ℕ → Bool) → by.IsOf x old.run.log → HasAll by x has → by.means.Unfit s old.run.log has a late given (Unit {0}))
    × (new ≡ old) × Stays by x x'
Talks by old x a late given _ new x' = ⊥

-- What the system comes to for a job with such a place, where it alone is asked: it serves the ask; or, where a session would go to a job that has one
-- with that device, it serves nothing.
abbrev pub IsServedAt : Shared → Recorded → Claimed → Ask → Place → Bool → Option (Served Heard) → Recorded → Claimed → Type 0
IsServedAt opening old claim a place late None new claim' =
    (place ≡ ready.Taken) × (takes_session (state_of opening old.history) a ≡ true) × (new ≡ old) × (claim' ≡ claim)
IsServedAt opening old claim a place late (Some told) new claim' =
    Serves opening old claim a late told new claim' × (place ≡ ready.Taken → takes_session (state_of opening old.history) a ≡ false)

-- What was served can be told to a job that asks this: the reply fits; and a session that goes to it is new, and has its place.
abbrev pub CanBeTold : {A : Type 0} → Answering A → A → Ask → Place → Served Heard → Type 0
CanBeTold by x a place (serveds.Reply reply) = fits a reply ≡ true
CanBeTold by x a place (serveds.Opened session) = IsNew session × IsRoomFor by x a place
CanBeTold by x a place (serveds.Busy holder held) = Unit {0}

-- a claim behind what its job was told: one event more, but where it was busy
abbrev pub claim_behind : Claimed → Served Heard → Claimed
claim_behind claim (serveds.Busy holder held) = claim
claim_behind claim _ = record claim { events = claim.events + 1 }

-- what comes of a step by what was served
abbrev pub made_of : Served Heard → Made
made_of (serveds.Busy holder held) = made.Busy holder held
made_of _ = made.Event

-- The job is told what was served, whatever the system is: it goes on by the reply; and the sessions that it has behind it are those that it had, and
-- one more where one goes to it. Where the ask is busy, it isn't told.
abbrev pub TakesUp : {A : Type 0} → Answering A → Running → A → Ask → Served Heard → Running → A → Type 0
TakesUp by old x a (serveds.Reply reply) new x' =
    GoesOnBy old a reply new × (by.IsOf x old.run.log → by.IsOf x' (old.run.log ++ (a, reply) ∷ []))
    × ((s : Shared) → takes_session s a ≡ false → AreBehind by s a x x')
TakesUp by old x a (serveds.Opened session) new x' =
    GoesOnBy old a replies.Got new × (by.IsOf x old.run.log → by.IsOf x' (old.run.log ++ (a, replies.Got) ∷ []))
    × ((s : Shared) → takes_session s a ≡ true → AreBehind by s a x x')
TakesUp by old x a (serveds.Busy holder held) new x' = (new ≡ old) × Stays by x x'

-- what a job that asks is told by the system, or isn't
abbrev pub Shares : {A : Type 0} → Answering A → Shared → Recorded → Claimed → Running → A → Ask → Bool → Made → Recorded → Claimed → Running → A → Type 0
Shares by opening old claim job x a late made.Event new claim' job' x' =
    (reply : Reply) × (fits a reply ≡ true)
    × (served (state_of opening old.history) claim.job a late ≡ Some (reply, state_of opening new.history))
    × (new ≡ recorded old claim.job a reply)
    × (claim' ≡ record claim { events = claim.events + 1 })
    × GoesOnBy job a reply job' × (by.IsOf x job.run.log → by.IsOf x' (job.run.log ++ (a, reply) ∷ []))
    × AreBehind by (state_of opening old.history) a x x'
Shares by opening old claim job x a late (made.Busy holder held) new claim' job' x' =
    (served (state_of opening old.history) claim.job a late ≡ None) × KeepsBusy (state_of opening old.history) claim.job a holder held
    × (new ≡ old) × (claim' ≡ claim) × (job' ≡ job) × Stays by x x'
Shares by opening old claim job x a late made.Unfit new claim' job' x' =
    IsNobodys by x (state_of opening old.history) a × (new ≡ old) × (claim' ≡ claim) × (job' ≡ job) × Stays by x x'
Shares by opening old claim job x a late _ new claim' job' x' = ⊥

-- what a job that asks is told, or isn't: by who answers for it, by the clock, or by the system
abbrev pub JobIsTold : {A : Type 0} → Answering A → Shared → Recorded → Claimed → Running → A → Bool → Option Reply → Made → Recorded → Claimed → Running → A
    → Type 0
JobIsTold by opening old claim job x late given made new claim' job' x' =
    (a : Ask) × (job.run.pending ≡ Some a) × IsTimely late a
    × (((is_shared a ≡ false) × Talks by job x a late given made job' x' × (new ≡ old) × (claim' ≡ claim))
    ⊎ ((is_shared a ≡ true) × Shares by opening old claim job x a late made new claim' job' x'))

-- when a job that asks isn't told for another reason than that it is busy
abbrev pub IsMuted : Running → Bool → Refusal → Type 0
IsMuted job late refusals.NotTimed = (late ≡ true) × ((a : Ask) × (job.run.pending ≡ Some a) × (timeout_of a ≡ None))
IsMuted job late refusals.Memory = Unit {0}
IsMuted job late _ = ⊥
