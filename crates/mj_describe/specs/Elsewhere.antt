-- Events that come from another line of the routines than a trace says.
use Rattle.std.specs.Prelude.{◌≡◌, ◌≢◌, ℕ, ◌<◌, List, length, slice_get, Option, Some, None}
use Rattle.mj_ask.specs.declared.noted.Noted.{Noted}
use Rattle.mj_ask.specs.declared.noted.Spot.{Spot as Written}
use Rattle.mj_describe.specs.Words.{Spot, spot_in}

-- where an event comes from, as it is written
abbrev pub said : Option Written → Spot
said None = None
said (Some w) = Some (w.routine, w.line)

abbrev pub said_of : Option Noted → Spot
said_of None = None
said_of (Some e) = said e.spot

-- the event at a place comes from where it says
abbrev pub IsThere : List Noted → List Spot → ℕ → Type 0
IsThere es spots k = said_of (slice_get es k) ≡ spot_in spots k

-- each does; or this is the first that doesn't
abbrev pub IsFirstElsewhere : List Noted → List Spot → Option ℕ → Type 0
IsFirstElsewhere es spots None = (k : ℕ) → k < length es → IsThere es spots k
IsFirstElsewhere es spots (Some at) = (at < length es) × (said_of (slice_get es at) ≢ spot_in spots at) × ((k : ℕ) → k < at → IsThere es spots k)
