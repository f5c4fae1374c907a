-- Where the asks of recorded events came from.
use Rattle.std.specs.Prelude.{◌≡◌, ℕ, zero, suc, List, [], ◌∷◌, ◌++◌, Option, Some, None, take, slice_get, option_map, ◌⊎◌, ⊤}
use Rattle.mj_ask.specs.declared.noted.Noted.{Noted}
use Rattle.mj_ask.specs.declared.noted.Spot.{Spot}
use Rattle.mj_semantics.specs.Program.{Program}
use Rattle.mj_semantics.specs.State.{Locals, Place, place_of}
use Rattle.mj_jobvm.specs.Places.{innermost}
use Rattle.mj_sys.specs.declared.event.Event.{Event}
use Rattle.mj_sys.specs.Shared.{Shared}
use Rattle.mj_sys.specs.History.{History}
use Rattle.mj_core.specs.Runs.{IsRun}
use Rattle.mj_replica.specs.declared.replaying.Verdict.{Verdict}
use Rattle.mj_replica.specs.declared.replaying.Verdict.TheVariants as verdicts
use Rattle.mj_replica.specs.declared.placing.Located.{Located}
use Rattle.mj_replica.specs.declared.placing.Located.TheVariants as located
use Rattle.mj_replica.specs.Replays.{event_of, history_of, IsUnmade, IsFirstUnmade}
use Rattle.mj_replica.specs.Shows.{HasStood}
use Rattle.mj_replica.specs.Playing.{Playing}

-- a place as it is recorded, if there is one
abbrev pub spot_place : Option Spot → Option Place
spot_place spot = option_map (λ s. record { routine = s.routine; line = s.line }) spot

-- a place as it is written, if there is one
abbrev pub spot_for : Option Place → Option Spot
spot_for place = option_map (λ p. record { routine = p.routine; line = p.line }) place

-- the ask of an event that comes behind a history came from this place: from the innermost frame, as its job stood at it
abbrev pub CameFrom : Program → Shared → History → Event → Option Place → Type 0
CameFrom program opening front e place =
    (locals : Locals) × (at : List Place) × HasStood program opening (front ++ e ∷ []) e.job locals at × (place ≡ innermost at)

-- each of recorded events came from where it is recorded to, behind those before it
abbrev pub AllCameFrom : Program → Shared → History → List Noted → Type 0
AllCameFrom program opening front [] = ⊤
AllCameFrom program opening front (e ∷ events) =
    CameFrom program opening front (event_of e) (spot_place e.spot) × AllCameFrom program opening (front ++ event_of e ∷ []) events

-- an event that comes behind a history came from another place than it is recorded to
abbrev pub IsElsewhere : Program → Shared → History → Noted → Type 0
IsElsewhere program opening front e =
    (place : Option Place) × CameFrom program opening front (event_of e) place × (place ≡ spot_place e.spot → ⊥)

-- The first event that isn't made so stands at this place, from 0: those before it are a run, and came from where they are recorded to; with it that is
-- no run, or its job goes on for too long, or it came from elsewhere.
pub record IsFirstApart (program : Program) (opening : Shared) (events : List Noted) (at : ℕ) : Type 0 where
  pub event : Noted
  pub there : slice_get events at ≡ Some event
  pub before : IsRun program opening (take at (history_of events))
  pub from : AllCameFrom program opening [] (take at events)
  pub apart : IsUnmade program opening (take at (history_of events)) (event_of event) ⊎ IsElsewhere program opening (take at (history_of events)) event

-- what a replay with places says: all is a run of its opening, each event from where it is recorded to; or which is the first that isn't made so
abbrev pub SaysPlaced : Program → Shared → List Noted → Verdict → Type 0
SaysPlaced program opening events verdicts.Same = IsRun program opening (history_of events) × AllCameFrom program opening [] events
SaysPlaced program opening events (verdicts.Differs at) = IsFirstApart program opening events at

-- the same events of a run, each with the place where it came from
pub record AreLocated (program : Program) (opening : Shared) (events new : List Noted) : Type 0 where
  pub run : IsRun program opening (history_of new)
  pub same : history_of new ≡ history_of events
  pub from : AllCameFrom program opening [] new

-- what comes of looking for the places of recorded events
abbrev pub Locates : Program → Shared → List Noted → Located → Type 0
Locates program opening events (located.To new) = AreLocated program opening events new.items
Locates program opening events (located.Differs at) = IsFirstUnmade program opening (history_of events) at

-- where a job stands that was started, of the first 1
abbrev pub place_in : List Playing → ℕ → Option (Option Place)
place_in jobs zero = None
place_in jobs (suc k) = option_map (λ p. place_of p.job.run.at.state) (slice_get jobs k)
