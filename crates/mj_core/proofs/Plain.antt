-- What a step gives where it is said of which call to a device it comes, it gives where that isn't said.
use Rattle.std.specs.Prelude.{Result, Ok, Err, ◌⊎◌}
use Rattle.std.proofs.Common.{◌≡◌, ◌<◌, ◌≤◌, ℕ, List, [], ◌∷◌, Bool, true, false, Option, Some, None, inl, inr, length}
use Rattle.mj_ask.specs.declared.ask.Reply.{Reply}
use Rattle.mj_semantics.specs.Program.{Program}
use Rattle.mj_semantics.specs.Job.{Start}
use Rattle.mj_jobs.specs.Rows.{Row}
use Rattle.mj_load.specs.Image.{program_of}
use Rattle.mj_sessions.specs.Asked.{Answering as Tells}
use Rattle.mj_sys.specs.Shared.{Shared}
use Rattle.mj_steps.specs.declared.step.Refusal.{Refusal}
use Rattle.mj_steps.specs.declared.step.Refusal.TheVariants as refusals
use Rattle.mj_steps.specs.declared.step.Step.{Step}
use Rattle.mj_core.specs.declared.seen.Seen.{Seen}
use Rattle.mj_core.specs.declared.seen.Seen.TheVariants as seen
use Rattle.mj_core.specs.Shown.{Shown, was_over}
use Rattle.mj_core.specs.Runs.{start_in}
use Rattle.mj_core.specs.Gives.{is_late, LiveStepGives, JobStepGives, CoreStepGives, DeviceStepGives, RunGives, DeviceRunGives}
use Rattle.mj_core.specs.Serving.{serving, calling}

module _ (tells : Tells) (opening : Shared) (old new : Shown) where
  live_plain : (program : Program) (job : ℕ) (start : Start) (late : Bool) (what : Seen) → LiveStepGives (calling tells) program opening job start late None old what new
      → LiveStepGives serving program opening job start late None old what new
  live_plain program job start late (seen.Event at) t = (t.0, t.1, t.2, t.3, t.4, t.5.1)
  live_plain program job start late (seen.Busy holder held) t = t
  live_plain program job start late seen.NotYet t = (t.0, t.1, t.2, (t.3.0, t.3.1, t.3.2, t.3.4))
  live_plain program job start late seen.Unfit t = t
  live_plain program job start late seen.Ran t = t
  live_plain program job start late seen.Ended t = absurd t

  job_plain : (job : ℕ) (row : Row) (late : Bool) (answer : Result Seen Refusal) → JobStepGives (calling tells) opening old job row late None answer new
      → JobStepGives serving opening old job row late None answer new
  job_plain job row late (Ok (seen.Event at)) t = (t.0, live_plain (program_of old.image) job (start_in job row.start) late (seen.Event at) t.1)
  job_plain job row late (Ok (seen.Busy holder held)) t = (t.0, live_plain (program_of old.image) job (start_in job row.start) late (seen.Busy holder held) t.1)
  job_plain job row late (Ok seen.NotYet) t = (t.0, live_plain (program_of old.image) job (start_in job row.start) late seen.NotYet t.1)
  job_plain job row late (Ok seen.Unfit) t = (t.0, live_plain (program_of old.image) job (start_in job row.start) late seen.Unfit t.1)
  job_plain job row late (Ok seen.Ran) t = (t.0, live_plain (program_of old.image) job (start_in job row.start) late seen.Ran t.1)
  job_plain job row late (Ok seen.Ended) t = t
  job_plain job row late (Err why) t = t

  pub plainly : (step : Step) (answer : Result Seen Refusal) → DeviceStepGives tells opening old step answer new → CoreStepGives opening old step answer new
  plainly step answer (inl none) = inl none
  plainly step answer (inr t) = inr (t.0, t.1, by t.2) where
    by : ((was_over old.over step.job ≡ true) × (answer ≡ Err refusals.Ended) × (new ≡ old))
        ⊎ ((was_over old.over step.job ≡ false) × (old.image.bounds.events ≤ length old.history) × (answer ≡ Err refusals.Full) × (new ≡ old))
        ⊎ ((was_over old.over step.job ≡ false) × (length old.history < old.image.bounds.events)
        × JobStepGives (calling tells) opening old step.job t.0 (is_late step.way) None answer new)
        → ((was_over old.over step.job ≡ true) × (answer ≡ Err refusals.Ended) × (new ≡ old))
        ⊎ ((was_over old.over step.job ≡ false) × (old.image.bounds.events ≤ length old.history) × (answer ≡ Err refusals.Full) × (new ≡ old))
        ⊎ ((was_over old.over step.job ≡ false) × (length old.history < old.image.bounds.events)
        × JobStepGives serving opening old step.job t.0 (is_late step.way) None answer new)
    by (inl over) = inl over
    by (inr (inl full)) = inr (inl full)
    by (inr (inr made)) = inr (inr (made.0, made.1, job_plain step.job t.0 (is_late step.way) answer made.2))

-- and so of a list of steps
pub all_plainly : (tells : Tells) (opening : Shared) (old : Shown) (steps : List Step) (answers : List (Result Seen Refusal)) (new : Shown)
    → DeviceRunGives tells opening old steps answers new → RunGives opening old steps answers new
all_plainly tells opening old [] [] new run = run
all_plainly tells opening old (step ∷ steps) (answer ∷ answers) new (mid, gives, rest) =
    (mid, plainly tells opening old mid step answer gives, all_plainly tells opening mid steps answers new rest)
all_plainly tells opening old [] (answer ∷ answers) new run = absurd run
all_plainly tells opening old (step ∷ steps) [] new run = absurd run
