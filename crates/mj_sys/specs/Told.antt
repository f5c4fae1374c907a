-- What a call tells that serves an ask.
use Rattle.std.specs.Prelude.{◌≡◌, ℕ, ◌+◌, ◌<◌, ◌≤◌, length, [], ◌∷◌, ◌++◌, Bool, true, false, Option, Some, None}
use Rattle.mj_ask.specs.declared.ask.Ask.{Ask}
use Rattle.mj_ask.specs.declared.ask.Reply.{Reply}
use Rattle.mj_ask.specs.declared.ask.Reply.TheVariants as replies
use Rattle.mj_dev.specs.Heard.{Heard, IsNew}
use Rattle.mj_jobs.specs.Rows.{IsLive}
use Rattle.mj_sys.specs.declared.served.Served.{Served}
use Rattle.mj_sys.specs.declared.served.Served.TheVariants as serveds
use Rattle.mj_sys.specs.declared.served.Told.{Told}
use Rattle.mj_sys.specs.declared.served.Told.TheVariants as tolds
use Rattle.mj_sys.specs.declared.served.Refused.{Refused}
use Rattle.mj_sys.specs.declared.served.Refused.TheVariants as refusals
use Rattle.mj_sys.specs.Shared.{Shared, served, takes_session}
use Rattle.mj_sys.specs.History.{state_of, events_of}
use Rattle.mj_sys.specs.System.{KeepsBusy, Recorded, Claimed, history_limit}

-- what is told without a session, as what any ask is told
abbrev pub served_as : Told → Served Heard
served_as (tolds.Reply reply) = serveds.Reply reply
served_as (tolds.Busy holder held) = serveds.Busy holder held

-- The ask is told its reply, and what is shared is what that leaves; or it has got a device by a session with which nothing was done yet; or it
-- is busy, by what another has, and nothing changes.
abbrev pub ServiceTells : Shared → ℕ → Ask → Bool → Served Heard → Shared → Type 0
ServiceTells old job ask late (serveds.Reply reply) new = (served old job ask late ≡ Some (reply, new)) × (takes_session old ask ≡ false)
ServiceTells old job ask late (serveds.Opened session) new = (served old job ask late ≡ Some (replies.Got, new)) × (takes_session old ask ≡ true) × IsNew session
ServiceTells old job ask late (serveds.Busy holder held) new = (served old job ask late ≡ None) × KeepsBusy old job ask holder held × (new ≡ old)

-- the reply that the history has of it, none where it is busy
abbrev pub reply_of : Served Heard → Option Reply
reply_of (serveds.Reply reply) = Some reply
reply_of (serveds.Opened session) = Some replies.Got
reply_of (serveds.Busy holder held) = None

-- it is the claim's turn: its row was claimed and hasn't ended, and its events are those of the history
pub record IsTurn (opening : Shared) (old : Recorded) (claim : Claimed) : Type 0 where
  pub numbered : 1 ≤ claim.job
  pub claimed : claim.job ≤ old.claimed
  pub live : IsLive (state_of opening old.history).rows claim.job
  pub counted : claim.events ≡ events_of claim.job old.history

-- the history with one event more
abbrev pub recorded : Recorded → ℕ → Ask → Reply → Recorded
recorded old job ask reply = record { history = old.history ++ record { job = job; ask = ask; reply = reply } ∷ []; claimed = old.claimed }

-- a reply is one event more, the one that was served, and one more of the claim; where it is busy, nothing changes
abbrev pub Records : Recorded → Claimed → Ask → Option Reply → Recorded → Claimed → Type 0
Records old claim ask None new claim' = (new ≡ old) × (claim' ≡ claim)
Records old claim ask (Some reply) new claim' = (new ≡ recorded old claim.job ask reply) × (claim' ≡ record claim { events = claim.events + 1 })

-- What a served ask is told, where it is the claim's turn and the history has room, and what is written down of it.
pub record Serves (opening : Shared) (old : Recorded) (claim : Claimed) (ask : Ask) (late : Bool) (told : Served Heard) (new : Recorded) (claim' : Claimed)
    : Type 0 where
  pub turn : IsTurn opening old claim
  pub room : length old.history < history_limit
  pub tells : ServiceTells (state_of opening old.history) claim.job ask late told (state_of opening new.history)
  pub records : Records old claim ask (reply_of told) new claim'

-- When each refusal comes: it isn't the claim's turn, the history is full, or memory was wanting. The turn is looked at first, then the room.
abbrev pub IsServiceRefused : Shared → Recorded → Claimed → Refused → Type 0
IsServiceRefused opening old claim (refusals.Turn expected) = (expected ≡ events_of claim.job old.history) × (IsTurn opening old claim → ⊥)
IsServiceRefused opening old claim refusals.Full = IsTurn opening old claim × (length old.history ≡ history_limit)
IsServiceRefused opening old claim refusals.Memory = IsTurn opening old claim × (length old.history < history_limit)
