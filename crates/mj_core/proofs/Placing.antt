-- What the system served finds its place.
use Rattle.std.proofs.Common.{◌≡◌, ℕ, ◌∷◌, ◌++◌, [], Bool, true, false, Some, None, refl, sym, ◌∙◌, subst}
use Rattle.mj_ask.specs.declared.ask.Ask.{Ask}
use Rattle.mj_ask.specs.declared.ask.Ask.TheVariants as asks
use Rattle.mj_ask.specs.declared.ask.SharedAsk.{SharedAsk}
use Rattle.mj_ask.specs.declared.ask.SharedAsk.TheVariants as shared_asks
use Rattle.mj_ask.specs.declared.ask.Reply.{Reply}
use Rattle.mj_ask.specs.declared.ask.Reply.TheVariants as replies
use Rattle.mj_ask.specs.Fits.{fits, is_shared}
use Rattle.mj_store.specs.declared.access.Access.{Access}
use Rattle.mj_dev.specs.Heard.{Heard}
use Rattle.mj_jobvm.specs.Jobs.{Running}
use Rattle.mj_sys.specs.declared.served.Served.{Served}
use Rattle.mj_sys.specs.declared.served.Served.TheVariants as serveds
use Rattle.mj_sys.specs.declared.served.Held.{Held}
use Rattle.mj_sys.specs.Shared.{Shared, takes_session, moves_session, moves_none}
use Rattle.mj_sys.specs.History.{state_of}
use Rattle.mj_sys.specs.Told.{Serves}
use Rattle.mj_sys.specs.System.{Recorded, Claimed}
use Rattle.mj_core.specs.declared.parts.Made.{Made}
use Rattle.mj_core.specs.declared.parts.Made.TheVariants as made
use Rattle.mj_core.specs.declared.parts.Place.{Place}
use Rattle.mj_core.specs.declared.parts.Place.TheVariants as places
use Rattle.mj_core.specs.Answering.{Answering, Stays, IsPlaceFor, IsRoomFor}
use Rattle.mj_core.specs.Ties.{IsServedAt, CanBeTold, TakesUp, Shares, made_of}
use Rattle.mj_core.proofs.Telling.{fits_served}

-- what stays twice stays
pub stays_on : {A : Type 0} (ans : Answering A) (x mid x' : A) → Stays ans x mid → Stays ans mid x' → Stays ans x x'
stays_on ans x mid x' first then = ((λ log of. then.0 log (first.0 log of)), (λ name has held. then.1 name has (first.1 name has held)))

module _ {A : Type 0} (ans : Answering A) (opening : Shared) (old new : Recorded) (claim claim' : Claimed) (a : Ask) (place : Place) (late : Bool) (x mid : A)
    (shared : is_shared a ≡ true) (at : IsPlaceFor ans x a place mid) where
  -- what was served to a job with a place can be told to it
  pub can_be_told : (told : Served Heard) → IsServedAt opening old claim a place late (Some told) new claim' → CanBeTold ans mid a place told
  can_be_told (serveds.Reply reply) is = fits_served (state_of opening old.history) claim.job a late reply (state_of opening new.history) shared is.0.tells.0
  can_be_told (serveds.Opened session) is = (is.0.tells.2, room place at is.1) where
    room : (p : Place) → IsPlaceFor ans x a p mid → (p ≡ places.Taken → takes_session (state_of opening old.history) a ≡ false) → IsRoomFor ans mid a p
    room places.Unneeded none taken = absurd (let no : true ≡ false = sym is.0.tells.1 ∙ none (state_of opening old.history) in cc)
    room places.Taken none taken = absurd (let no : true ≡ false = sym is.0.tells.1 ∙ taken refl in cc)
    room (places.Ready name) here taken = here
  can_be_told (serveds.Busy holder held) is = tt

  module _ (job job' : Running) (x' : A) (stays : Stays ans x mid) where
    by_served : (told : Served Heard) → IsServedAt opening old claim a place late (Some told) new claim' → TakesUp ans job mid a told job' x'
        → Shares ans opening old claim job x a late (made_of told) new claim' job' x'
    by_served (serveds.Reply reply) is t = (
      reply,
      fits_served (state_of opening old.history) claim.job a late reply (state_of opening new.history) shared is.0.tells.0,
      is.0.tells.0,
      is.0.records.0,
      is.0.records.1,
      t.0,
      (λ of. t.1 (stays.0 job.run.log of)),
      (λ name has held. t.2 (state_of opening old.history) is.0.tells.1 name has (stays.1 name has held)),
    )
    by_served (serveds.Opened session) is t = (
      replies.Got,
      fits_served (state_of opening old.history) claim.job a late replies.Got (state_of opening new.history) shared is.0.tells.0,
      is.0.tells.0,
      is.0.records.0,
      is.0.records.1,
      t.0,
      (λ of. t.1 (stays.0 job.run.log of)),
      (λ name has held. t.2 (state_of opening old.history) is.0.tells.1 name has (stays.1 name has held)),
    )
    by_served (serveds.Busy holder held) is t =
        (is.0.tells.0, is.0.tells.1, is.0.records.0, is.0.records.1, t.0, stays_on ans x mid x' stays t.1)

    -- it is told that
    pub shares : (told : Served Heard) (m : Made) → IsServedAt opening old claim a place late (Some told) new claim' → m ≡ made_of told
        → TakesUp ans job mid a told job' x' → Shares ans opening old claim job x a late m new claim' job' x'
    shares told m is same t =
        let S : Made → Type 0 = λ n. Shares ans opening old claim job x a late n new claim' job' x' in
        subst S (sym same) (by_served told is t)

    -- or nothing is served
    pub shares_none : IsServedAt opening old claim a place late None new claim' → job' ≡ job → x' ≡ mid → Shares ans opening old claim job x a late made.Unfit new claim' job' x'
    shares_none is same_job same =
        let P : Place → Type 0 = λ p. IsPlaceFor ans x a p mid in
        let S : A → Type 0 = λ y. Stays ans x y in
        ((subst P is.0 at) (state_of opening old.history) is.1, is.2, is.3, same_job, subst S (sym same) stays)

-- what no session goes to a job by, by that none does whatever is shared
pub none_moves : (a : SharedAsk) → moves_none a ≡ true → (s : Shared) → moves_session s a ≡ false
none_moves (shared_asks.Open name timeout) is s = absurd (let no : false ≡ true = is in cc)
none_moves _ is s = refl

-- an access is served alike whether it is late or not
pub serves_late : (opening : Shared) (old new : Recorded) (claim claim' : Claimed) (a : Access) (reply : Reply) (late : Bool)
    → Serves opening old claim (asks.Shared (shared_asks.Access a)) false (serveds.Reply reply) new claim'
    → Serves opening old claim (asks.Shared (shared_asks.Access a)) late (serveds.Reply reply) new claim'
serves_late opening old new claim claim' a reply late s = record { turn = s.turn; room = s.room; tells = s.tells; records = s.records }

-- where none does, the job needs no place, and is told as it is served
module _ {A : Type 0} (ans : Answering A) (opening : Shared) (old new : Recorded) (claim claim' : Claimed) (a : SharedAsk) (moves : moves_none a ≡ true) (late : Bool) (x : A)
    (job : Running) where
  abbrev ask : Ask
  ask = asks.Shared a

  none : IsPlaceFor ans x ask places.Unneeded x
  none = λ s. none_moves a moves s

  served_at : (told : Served Heard) → Serves opening old claim ask late told new claim' → IsServedAt opening old claim ask places.Unneeded late (Some told) new claim'
  served_at told serves = (serves, (λ taken. absurd (let no : places.Unneeded ≡ places.Taken = taken in cc)))

  pub reply_fits : (reply : Reply) → Serves opening old claim ask late (serveds.Reply reply) new claim' → fits ask reply ≡ true
  reply_fits reply serves = can_be_told ans opening old new claim claim' ask places.Unneeded late x x refl none (serveds.Reply reply) (served_at (serveds.Reply reply) serves)

  pub replied : (reply : Reply) (job' : Running) → Serves opening old claim ask late (serveds.Reply reply) new claim' → TakesUp ans job x ask (serveds.Reply reply) job' x
      → Shares ans opening old claim job x ask late made.Event new claim' job' x
  replied reply job' serves takes =
      shares ans opening old new claim claim' ask places.Unneeded late x x refl none job job' x ((λ log of. of), (λ name has held. held)) (serveds.Reply reply) made.Event
      (served_at (serveds.Reply reply) serves) refl takes

  pub kept_busy : (holder : ℕ) (held : Held) → Serves opening old claim ask late (serveds.Busy holder held) new claim'
      → Shares ans opening old claim job x ask late (made.Busy holder held) new claim' job x
  kept_busy holder held serves =
      shares ans opening old new claim claim' ask places.Unneeded late x x refl none job job x ((λ log of. of), (λ name has is. is)) (serveds.Busy holder held) (made.Busy holder held)
      (served_at (serveds.Busy holder held) serves) refl (refl, ((λ log of. of), (λ name has is. is)))
