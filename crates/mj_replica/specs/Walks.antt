-- Recorded events made again one after the other, by what is asked of the places where they came from.
use Rattle.std.specs.Prelude.{◌≡◌, ℕ, List, [], ◌∷◌, ◌++◌, Bool, true, false, Option, Some, ⊤}
use Rattle.mj_ask.specs.declared.noted.Noted.{Noted}
use Rattle.mj_semantics.specs.Program.{Program}
use Rattle.mj_semantics.specs.State.{Place}
use Rattle.mj_sys.specs.Shared.{Shared}
use Rattle.mj_core.specs.Runs.{IsRun}
use Rattle.mj_replica.specs.declared.replaying.Verdict.{Verdict}
use Rattle.mj_replica.specs.declared.replaying.Verdict.TheVariants as verdicts
use Rattle.mj_replica.specs.declared.walking.Sought.{Sought}
use Rattle.mj_replica.specs.declared.walking.Sought.TheVariants as sought
use Rattle.mj_replica.specs.Replays.{event_of, history_of, IsFirstUnmade}
use Rattle.mj_replica.specs.Placed.{spot_place, AllCameFrom, IsFirstApart, place_in}
use Rattle.mj_replica.specs.Playing.{Playing}

-- what is known of the places of events that were made: nothing; that each came from where it is recorded to; or the same events with their places
abbrev pub AreKnown : Program → Shared → Sought → List Noted → List Noted → Type 0
AreKnown program opening sought.Nothing events found = ⊤
AreKnown program opening sought.Recorded events found = AllCameFrom program opening [] events
AreKnown program opening sought.All events found = (history_of found ≡ history_of events) × AllCameFrom program opening [] found

-- the first event that isn't made so stands at this place, from 0
abbrev pub IsFirstOff : Program → Shared → Sought → List Noted → ℕ → Type 0
IsFirstOff program opening sought.Nothing events at = IsFirstUnmade program opening (history_of events) at
IsFirstOff program opening sought.Recorded events at = IsFirstApart program opening events at
IsFirstOff program opening sought.All events at = IsFirstUnmade program opening (history_of events) at

-- what becomes of events that are made again: all are a run, and that is known of their places; or which is the first that isn't made so
abbrev pub Walks : Program → Shared → Sought → List Noted → Verdict → List Noted → Type 0
Walks program opening what events verdicts.Same found = IsRun program opening (history_of events) × AreKnown program opening what events found
Walks program opening what events (verdicts.Differs at) found = IsFirstOff program opening what events at

-- where an event that was made came from, by where its job stands: it isn't looked at; it is compared; or the event is added with it
abbrev pub Looks : Sought → List Playing → Noted → List Noted → Bool → List Noted → Type 0
Looks sought.Nothing jobs event old agrees new = agrees ≡ true
Looks sought.Recorded jobs event old true new = place_in jobs event.job ≡ Some (spot_place event.spot)
Looks sought.Recorded jobs event old false new = place_in jobs event.job ≡ Some (spot_place event.spot) → ⊥
Looks sought.All jobs event old agrees new =
    (agrees ≡ true) × (noted : Noted) × (new ≡ old ++ noted ∷ []) × (event_of noted ≡ event_of event)
    × ((place : Option Place) → place_in jobs event.job ≡ Some place → spot_place noted.spot ≡ place)
