-- Steps in turn, on rows.
use Rattle.std.proofs.Common.{◌≡◌, [], ◌∷◌, true, false, refl}
use Rattle.mj_steps.specs.declared.step.Way.TheVariants.{Go, Late}
use Rattle.mj_steps.specs.declared.round.Standing.TheVariants.{Goes, Waits, WaitsTimed, Ended}
use Rattle.mj_steps.specs.declared.round.Next.TheVariants.{Over, Stuck}
use Rattle.mj_steps.specs.Rounds.{next_step, after_step, go_step, late_step}

-- ended jobs are passed over, and a new round begins behind the last job
passes_over : next_step (record { done = 1; waits = true }) (Goes ∷ Ended ∷ Waits ∷ []) ≡ go_step 3
passes_over = refl

begins_anew : next_step (record { done = 3; waits = false }) (Ended ∷ Goes ∷ Waits ∷ []) ≡ go_step 2
begins_anew = refl

-- where a whole round waited, the first job that asks with a timeout is late; where none does, all are stuck
is_late : next_step (record { done = 3; waits = true }) (Waits ∷ WaitsTimed ∷ WaitsTimed ∷ []) ≡ late_step (Waits ∷ WaitsTimed ∷ WaitsTimed ∷ [])
is_late = refl

is_stuck : next_step (record { done = 2; waits = true }) (Waits ∷ Ended ∷ []) ≡ Stuck
is_stuck = refl

-- all have ended, also behind steps that waited
is_over : next_step (record { done = 2; waits = true }) (Ended ∷ Ended ∷ []) ≡ Over
is_over = refl

-- the step of a job that isn't behind the last one begins a round
round_begins : after_step (record { done = 2; waits = false }) (record { job = 1; way = Go }) Waits ≡ record { done = 1; waits = true }
round_begins = refl

-- one step that did something, or ended its job, and the round doesn't wait
round_goes : after_step (record { done = 1; waits = true }) (record { job = 2; way = Go }) Ended ≡ record { done = 2; waits = false }
round_goes = refl

-- a late step begins a round, whatever comes of it
late_begins : after_step (record { done = 2; waits = true }) (record { job = 1; way = Late }) Goes ≡ record { done = 0; waits = true }
late_begins = refl
