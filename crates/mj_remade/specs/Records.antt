-- Records, compared with events that were noted.
use Rattle.std.specs.Prelude.{◌≡◌, ◌<◌, ℕ, List, Option, Some, None, take, slice_get, option_map, ◌⊎◌, ⊤}
use Rattle.mj_ask.specs.declared.noted.Noted.{Noted}
use Rattle.mj_semantics.specs.Program.{Program}
use Rattle.mj_semantics.specs.State.{Place}
use Rattle.mj_sys.specs.Shared.{Shared}
use Rattle.mj_sys.specs.History.{History}
use Rattle.mj_core.specs.Runs.{IsAskedFrom}
use Rattle.mj_replica.specs.Replays.{event_of, history_of}
use Rattle.mj_replica.specs.Placed.{spot_place}
use Rattle.mj_trace.specs.declared.form.Form.{Form}
use Rattle.mj_trace.specs.declared.form.Form.TheVariants.{First, Second}

-- the ask of the event at this place of a record came from this place, or from none
pub record IsAskedAt (program : Program) (opening : Shared) (history : History) (at : ℕ) (place : Option Place) : Type 0 where
  pub asked : IsAskedFrom program opening history at place

-- the ask of the event at this place of a record came from where it was noted to; the older form of a trace notes no places
abbrev pub IsFrom : Form → Program → Shared → History → ℕ → Noted → Type 0
IsFrom First program opening history at e = ⊤
IsFrom (Second limit) program opening history at e = IsAskedAt program opening history at (spot_place e.spot)

-- it came from another place than it was noted to
abbrev pub IsElsewhere : Form → Program → Shared → History → ℕ → Noted → Type 0
IsElsewhere First program opening history at e = ⊥
IsElsewhere (Second limit) program opening history at e =
    (place : Option Place) × IsAskedAt program opening history at place × (place ≡ spot_place e.spot → ⊥)

-- a record is what was noted: it has these events and no others, and their asks came from where they were noted to
pub record IsRecord (form : Form) (program : Program) (opening : Shared) (events : List Noted) (history : History) : Type 0 where
  pub same : history ≡ history_of events
  pub from : (at : ℕ) (e : Noted) → slice_get events at ≡ Some e → IsFrom form program opening history at e

-- Up to this place, from 0, a record has the events that were noted, and their asks came from where they were noted to. There it has another one, or none, or one
-- where nothing was noted; or the ask came from elsewhere.
pub record IsApart (form : Form) (program : Program) (opening : Shared) (events : List Noted) (history : History) (at : ℕ) : Type 0 where
  pub before : take at history ≡ history_of (take at events)
  pub from : (k : ℕ) (e : Noted) → k < at → slice_get events k ≡ Some e → IsFrom form program opening history k e
  pub apart :
      (slice_get history at ≡ option_map event_of (slice_get events at) → ⊥)
      ⊎ ((e : Noted) × (slice_get events at ≡ Some e) × IsElsewhere form program opening history at e)

-- what comes of the comparison: the record is what was noted, or where it isn't
abbrev pub Compares : Form → Program → Shared → List Noted → History → Option ℕ → Type 0
Compares form program opening events history None = IsRecord form program opening events history
Compares form program opening events history (Some at) = IsApart form program opening events history at
