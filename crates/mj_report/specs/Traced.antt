-- The trace of a run: what stands before its events.
use Rattle.std.specs.Prelude.{◌≡◌, ◌==◌, ◌+◌, ℕ, true, List, map, if◌then◌else◌}
use Rattle.std.specs.List.{list_all, slice_index_or}
use Rattle.mj_ask.specs.Started.{Started}
use Rattle.mj_rou.specs.Words.{Each, IsRoutineWorded}
use Rattle.mj_load.specs.Image.{Loaded, routines_of}
use Rattle.mj_dev.specs.Shelves.{Shelf, count_of}
use Rattle.mj_sys.specs.Opening.{opening_of}
use Rattle.mj_sys.specs.Shared.{Shared}
use Rattle.mj_text.specs.declared.limit.Limit.TheVariants.{V2}
use Rattle.mj_trace.specs.declared.form.Form.TheVariants.{Second}
use Rattle.mj_trace.specs.Trace.{opening_text}
use Rattle.mj_trace.specs.Sized.{device_count_fits}
use Rattle.mj_recorded.specs.Traces.{entries_of, IsBeginning}

-- These bytes are the head of the trace of a run of these routines that has this opening: that of devices and starts with which a run can begin, and
-- which are within the sizes of their values. The names of the routines are words, and their texts have the greater limit.
pub record IsHead (image : Loaded) (opening : Shared) (head : List ℕ) : Type 0 where
  pub pool : List Shelf
  pub starts : List Started
  pub long : image.bounds.limit ≡ V2
  pub worded : Each IsRoutineWorded (routines_of image)
  pub begins : IsBeginning opening.globals pool starts
  pub opens : opening ≡ opening_of opening.globals pool starts
  pub text : head ≡ opening_text (Second V2) (map count_of pool) (entries_of starts)
  pub sized : list_all device_count_fits (map count_of pool) ≡ true

-- how many events of a job were counted
abbrev pub count_in : List ℕ → ℕ → ℕ
count_in counts job = slice_index_or counts job 0

-- one more of this job
abbrev pub with_one : (ℕ → ℕ) → ℕ → ℕ → ℕ
with_one counts job k = if k == job then counts k + 1 else counts k
