-- What is told of jobs that wait, and of those that haven't ended (this profile). Byte 10 ends a line, and `:` is byte 58.
use Rattle.std.specs.Prelude.{ℕ, List, [], ◌∷◌, ◌++◌, Option, None, Some, decimal, codes}
use Rattle.mj_steps.specs.declared.step.Refusal.{Refusal}
use Rattle.mj_steps.specs.declared.step.Refusal.TheVariants as refusals

-- where a job stands: a routine and a line of it, or nowhere
abbrev pub place_text : Option (List ℕ × ℕ) → List ℕ
place_text None = codes "-"
place_text (Some place) = place.0 ++ 58 ∷ decimal place.1

-- who has what a job waits for, and where that one stands
abbrev pub held_by : ℕ → Option (List ℕ × ℕ) → List ℕ
held_by holder place = codes ", held by job " ++ decimal holder ++ codes " at " ++ place_text place ++ 10 ∷ []

-- the line on a job that waits for what another has
abbrev pub wait_line : ℕ → List ℕ → ℕ → Option (List ℕ × ℕ) → List ℕ
wait_line job what holder place = codes "job " ++ decimal job ++ codes " waits for " ++ what ++ held_by holder place

-- the line on a job that waits for something to read
abbrev pub idle_line : ℕ → List ℕ
idle_line job = codes "job " ++ decimal job ++ codes " waits for input" ++ 10 ∷ []

-- the end of a line, with a place
abbrev pub at_line : List ℕ → Option (List ℕ × ℕ) → List ℕ
at_line words place = words ++ place_text place ++ 10 ∷ []

-- the line on where a job took what another waits for
abbrev pub taken_line : ℕ → List ℕ → Option (List ℕ × ℕ) → List ℕ
taken_line job what place = codes "    job " ++ decimal job ++ codes " took " ++ what ++ at_line (codes " at ") place

-- the line on a job that hasn't ended: where it asked last
abbrev pub last_line : ℕ → Option (List ℕ × ℕ) → List ℕ
last_line job place = codes "    job " ++ decimal job ++ at_line (codes " asked last at ") place

-- the line on as many steps in turn as there may be
abbrev pub turns_line : List ℕ
turns_line = codes "    1000000 steps were made in turn, as many as there may be; these jobs haven't ended:" ++ 10 ∷ []

-- the line on a run of as many events as there may be
abbrev pub events_line : ℕ → List ℕ
events_line most = codes "    there are " ++ decimal most ++ codes " events, as many as there may be; `--events` allows more; these jobs haven't ended:" ++ 10 ∷ []

-- the line on a file of steps that ends before so many of the jobs have
abbrev pub early_line : ℕ → ℕ → List ℕ
early_line left jobs = codes "    the steps end before the jobs do: of " ++ decimal jobs ++ codes " jobs " ++ decimal left ++ codes " haven't ended" ++ 10 ∷ []

-- what is told of a step that can't be made
abbrev pub why_line : Refusal → List ℕ
why_line refusals.NoJob = codes "    there is no job of this number: jobs count from 1, in the order in which they start" ++ 10 ∷ []
why_line refusals.NotTimed = codes "    the step is late, and what the job asks has no timeout that could be over" ++ 10 ∷ []
why_line refusals.Ended = codes "    the job has ended, as an earlier step of it found: are these the steps of other routines?" ++ 10 ∷ []
why_line _ = []

-- the line on jobs that all wait
abbrev pub stuck_line : List ℕ
stuck_line = codes "    `mj step --why` tells what each job waits for, and `mj explain` of a `--trace` since when" ++ 10 ∷ []
