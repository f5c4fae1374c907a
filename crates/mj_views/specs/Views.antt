-- What stands at a place, and views of places that follow one another.
use Rattle.std.specs.Prelude.{ℕ, zero, suc, ◌-◌, nat_lt, List, Option, None, option_map, slice_get, if◌then◌else◌}
use Rattle.mj_store.specs.Questions.{Content}
use Rattle.mj_semantics.specs.State.{Frame}
use Rattle.mj_locktab.specs.Locks.{Locks}

-- a job's frames, the innermost first, and its locals
pub record JobView : Type 0 where
  pub frames : List Frame
  pub locals : Content

-- the committed globals, the table of locks, and the jobs by their numbers, from 1
pub record Viewed : Type 0 where
  pub globals : Content
  pub locks : Locks
  pub jobs : List JobView

-- the job of this number, if it is there
abbrev pub job_in : Viewed → ℕ → Option JobView
job_in view zero = None
job_in view (suc k) = slice_get view.jobs k

abbrev pub frames_seen : Option JobView → Option (List Frame)
frames_seen job = option_map (λ j. j.frames) job

abbrev pub locals_seen : Option JobView → Option Content
locals_seen job = option_map (λ j. j.locals) job

-- views of places that follow one another, from this one on
pub record Window : Type 0 where
  pub first : ℕ
  pub views : List Viewed

-- the view of a place, if there is one
abbrev pub view_at : Window → ℕ → Option Viewed
view_at window place = if nat_lt place window.first then None else slice_get window.views (place - window.first)
