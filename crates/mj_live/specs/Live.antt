-- Jobs that are run live.
use Rattle.std.specs.Prelude.{◌≡◌, ℕ, List, Bool, true, false, Option}
use Rattle.std.specs.Io.KnownBytes.{Appends}
use Rattle.mj_load.specs.Image.{Loaded}
use Rattle.mj_sessions.specs.Asked.{Answering}
use Rattle.mj_sys.specs.Shared.{Shared}
use Rattle.mj_core.specs.Shown.{Shown, begun}
use Rattle.mj_steps.specs.declared.drive.Ending.{Ending}
use Rattle.mj_steps.specs.Driven.{InTurn, new_round, fresh}
use Rattle.mj_run.specs.Stepping.{AreSteps, jobs_of}
use Rattle.mj_live.specs.Shows.{Living, LiveStep, Shows}

-- how many jobs there are, ended ones among them
abbrev pub count_of : Shared → Living → ℕ
count_of opening live = jobs_of opening live.core

-- jobs at their beginning, of which nothing was written yet, behind these bytes
abbrev pub beginning : Loaded → Option (List ℕ) → Living
beginning image contents = record { core = begun image; contents = contents; session = 1; closed = false }

-- Jobs are stepped in turn, live: behind each step what is printed of the events so far was written, as `LiveStep` says. It is a record so that no number of
-- steps is unfolded.
pub record IsLive (tells : Answering) (opening : Shared) (most : ℕ) (old : Living) (ending : Ending) (new : Living) : Type 0 where
  pub turns : InTurn (count_of opening) (LiveStep tells opening) most 0 new_round fresh old ending new

-- and so they come from there to here, with these bytes written
pub record RanLive (tells : Answering) (opening : Shared) (most : ℕ) (image : Loaded) (before : Option (List ℕ)) (ending : Ending) (core : Shown) (after : Option (List ℕ))
    (closed : Bool) : Type 0 where
  pub session : ℕ
  pub live : IsLive tells opening most (beginning image before) ending (record { core = core; contents = after; session = session; closed = closed })
