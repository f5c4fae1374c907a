-- What a run does in the place of an event.
use Rattle.std.specs.Prelude.{◌≡◌, ℕ, true, false, List, [], ◌∷◌, ◌++◌, Option, Some, IfSome, replicate, slice_get, take}
use Rattle.mj_ask.specs.declared.ask.Ask.{Ask}
use Rattle.mj_ask.specs.declared.ask.Reply.{Reply}
use Rattle.mj_ask.specs.declared.noted.Noted.{Noted}
use Rattle.mj_ask.specs.Fits.{is_shared}
use Rattle.mj_semantics.specs.Program.{Program}
use Rattle.mj_jobs.specs.Rows.{rows_limit}
use Rattle.mj_load.specs.Image.{Loaded}
use Rattle.mj_sys.specs.declared.event.Event.{Event}
use Rattle.mj_sys.specs.Shared.{Shared}
use Rattle.mj_sys.specs.History.{History}
use Rattle.mj_core.specs.Runs.{IsRun}
use Rattle.mj_core.specs.Shown.{Shown}
use Rattle.mj_replica.specs.Replays.{history_of}
use Rattle.mj_retrace.specs.Made.{event_by}
use Rattle.mj_retrace.specs.Retraced.{Spot, AsksFrom}

-- so many events of a trace were made, and nobody's end was seen
pub record IsFront (image : Loaded) (events : List Noted) (k : ℕ) (core : Shown) : Type 0 where
  pub same : core.image ≡ image
  pub made : core.history ≡ take k (history_of events)
  pub going : core.over ≡ replicate rows_limit false

-- Behind a run the job asks this next, from that line; and it may be told that, if something is said, which is said only of what all jobs share: with that event
-- it is a run too.
pub record MayTell (program : Program) (opening : Shared) (history : History) (job : ℕ) (ask : Ask) (spot : Spot) (told : Option Reply) : Type 0 where
  pub run : IsRun program opening history
  pub asks : AsksFrom program opening history job ask spot
  pub shared : IfSome told (λ reply. is_shared ask ≡ true)
  pub tells : IfSome told (λ reply. IsRun program opening (history ++ event_by job ask reply ∷ []))

-- so does this job, which is that of the event at a place, behind those before it
pub record IsInstead (program : Program) (opening : Shared) (history : History) (at job : ℕ) (ask : Ask) (spot : Spot) (told : Option Reply) : Type 0 where
  pub event : Event
  pub there : slice_get history at ≡ Some event
  pub whose : job ≡ event.job
  pub may : MayTell program opening (take at history) event.job ask spot told
