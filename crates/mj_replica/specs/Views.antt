-- Views of places of a history.
use Rattle.std.specs.Prelude.{◌≡◌, ℕ, ◌+◌, ◌<◌, ◌≤◌, ◌∷◌, [], ◌++◌, length, map, take, Bool, true, false, Some, None}
use Rattle.mj_load.specs.Image.{Loaded, program_of}
use Rattle.mj_jobs.specs.Rows.{row_at}
use Rattle.mj_sys.specs.Shared.{Shared}
use Rattle.mj_sys.specs.History.{History, state_of}
use Rattle.mj_views.specs.Views.{JobView, Viewed, Window, job_in, view_at}
use Rattle.mj_replica.specs.Playing.{Playing}
use Rattle.mj_replica.specs.Replicas.{Replayed}
use Rattle.mj_replica.specs.Shows.{HasStood}

-- a job as it stands in a run that is played again
abbrev pub stand_of_played : Playing → JobView
stand_of_played played = record { frames = played.job.run.at.state.frames; locals = played.job.run.at.state.locals }

-- what a run that is played again has to show
abbrev pub view_of : Shared → Replayed → Viewed
view_of opening replica = record {
  globals = (state_of opening replica.system.history).globals;
  locks = (state_of opening replica.system.history).locks;
  jobs = map stand_of_played replica.jobs;
}

-- a view shows what these events leave: the globals and the locks; no job that it hasn't has a row there; and each that it has stood so at its last
-- ask there
pub record IsView (image : Loaded) (opening : Shared) (front : History) (view : Viewed) : Type 0 where
  pub globals : view.globals ≡ (state_of opening front).globals
  pub locks : view.locks ≡ (state_of opening front).locks
  pub none : (job : ℕ) → job_in view job ≡ None → row_at (state_of opening front).rows job ≡ None
  pub some : (job : ℕ) (stand : JobView) → job_in view job ≡ Some stand
      → HasStood (program_of image) opening front job stand.locals (map (λ f. f.place) stand.frames)

-- each view is of a place before the history's end, and shows what the events before its place leave
abbrev pub AreViews : Loaded → Shared → History → Window → Type 0
AreViews image opening history views =
    (place : ℕ) (view : Viewed) → view_at views place ≡ Some view → (place < length history) × IsView image opening (take place history) view

-- each is of a place before this one
abbrev pub AreBefore : ℕ → Window → Type 0
AreBefore place views = views.first + length views.views ≤ place

-- the next view was put to them, or all went
abbrev pub IsPutOrGone : Viewed → Window → Bool → Window → Type 0
IsPutOrGone view old true new = new ≡ record old { views = old.views ++ view ∷ [] }
IsPutOrGone view old false new = new ≡ record old { views = [] }
