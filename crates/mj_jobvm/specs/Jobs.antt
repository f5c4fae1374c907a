-- What a caller sees of a job.
use Rattle.std.specs.Prelude.{◌≡◌, ℕ, ◌+◌, List, [], ◌∷◌, Option, Some, None, Bool, true, false, IsTrue, Result, reverse}
use Rattle.mj_ask.specs.declared.ask.Ask.{Ask}
use Rattle.mj_ask.specs.declared.ask.Reply.{Reply}
use Rattle.mj_ask.specs.Fits.{fits}
use Rattle.mj_ask.specs.declared.bounds.Bounds.{Bounds}
use Rattle.mj_pcode.specs.Context.{at_unit}
use Rattle.mj_semantics.specs.State.{Place}
use Rattle.mj_semantics.specs.Job.{Start, opening}
use Rattle.mj_load.specs.Image.{Loaded, program_of}
use Rattle.mj_machine.specs.declared.machine.Machine.{Machine}
use Rattle.mj_machine.specs.declared.control.Control.TheVariants.{Begin}
use Rattle.mj_machine.specs.Standing.{Standing, Code}
use Rattle.mj_machine.specs.Kept.{standing}
use Rattle.mj_jobvm.specs.declared.job.Turn.{Turn}
use Rattle.mj_jobvm.specs.Run.{Log, Run, IsJobRun, IsRunAfter}
use Rattle.mj_jobvm.specs.Told.{AreMade}

-- a job: how it starts, and its run
pub record Running : Type 0 where
  pub start : Start
  pub run : Run

-- the last reply of a log
abbrev pub last_reply : Log → Option Reply
last_reply log = elim (reverse log) [ [] ↦ None | e ∷ es ↦ Some e.1 ]

-- the reply that was given and not taken yet
abbrev pub given_of : Bool → Log → Option Reply
given_of false log = None
given_of true log = last_reply log

abbrev pub running : Start → Machine → Log → List (Option Place) → Bool → Option Ask → ℕ → Running
running start machine log places given pending spent = record {
  start = start;
  run = record { log = log; places = places; pending = pending; spent = spent; at = standing machine (given_of given log) };
}

-- where a job stands before its first turn
abbrev pub opening_at : Bounds → ℕ → Standing
opening_at bounds job = record { control = Begin; context = at_unit 0 []; stack = []; state = opening bounds job; restart = None; given = None }

-- a job before its first turn, in an image with these bounds
abbrev pub opened : Bounds → Start → Running
opened bounds start = record { start = start; run = record { log = []; places = []; pending = None; spent = 0; at = opening_at bounds start.job } }

-- the reply fits what the job asks
abbrev pub FitsPending : Option Ask → Reply → Type 0
FitsPending pending reply = (a : Ask) × (pending ≡ Some a) × IsTrue (fits a reply)

-- the code that a job runs in an image
abbrev pub code_in : Loaded → Start → Code
code_in image start = record { units = image.units; start = start }

-- the job runs the program of this image, from this start
abbrev pub IsRunOf : Loaded → Start → Running → Type 0
IsRunOf image start job = IsJobRun (program_of image) start (code_in image job.start) job.run

-- so many turns after its last reply
abbrev pub IsRunOfAfter : Loaded → Start → ℕ → Running → Type 0
IsRunOfAfter image start turns job = IsRunAfter (program_of image) start (code_in image job.start) turns job.run

-- the job stands as many turns further on in the run as a call with this fuel makes: wherever it stood so many turns after its last
-- reply, it stands that many more after it
abbrev pub GoesForward : {E : Type 0} → Loaded → Start → Result Turn E → ℕ → Running → Running → Type 0
GoesForward image start result fuel old new =
    (turns : ℕ) → IsRunOfAfter image start turns old → (made : ℕ) × AreMade result fuel made × IsRunOfAfter image start (turns + made) new

-- the job was started in this image
abbrev pub IsIn : Loaded → Running → Type 0
IsIn image job = (start : Start) × IsRunOf image start job
