-- Jobs that are stepped, by a list or in turn (this profile). What is stepped is any `X`, of which `makes` says what a step comes to: where its job stands
-- then, or why it isn't made.
use Rattle.std.specs.Prelude.{◌≡◌, ℕ, zero, suc, ◌+◌, ◌-◌, ◌==◌, true, if◌then◌else◌, List, [], ◌∷◌, take, slice_set, replicate, Result, Ok, Err, ◌⊎◌}
use Rattle.mj_steps.specs.declared.step.TheConstants.{JOBS_LIMIT}
use Rattle.mj_steps.specs.declared.step.Step.{Step}
use Rattle.mj_steps.specs.declared.round.Standing.{Standing}
use Rattle.mj_steps.specs.declared.round.Standing.TheVariants as standings
use Rattle.mj_steps.specs.declared.round.Round.{Round}
use Rattle.mj_steps.specs.declared.round.Next.{Next}
use Rattle.mj_steps.specs.declared.round.Next.TheVariants as nexts
use Rattle.mj_steps.specs.declared.step.Refusal.{Refusal}
use Rattle.mj_steps.specs.declared.drive.Ending.{Ending}
use Rattle.mj_steps.specs.declared.drive.Ending.TheVariants as endings
use Rattle.mj_steps.specs.Rounds.{next_step, after_step}

-- the step of this number is refused, which ends all
abbrev pub StopsAt : {X : Type 0} → (X → Step → Result Standing Refusal → X → Type 0) → ℕ → Step → X → Ending → X → Type 0
StopsAt makes number step old ending new = (why : Refusal) × makes old step (Err why) new × (ending ≡ endings.Refused why number)

-- Steps by a list, behind so many: each is made, up to the first that is refused
abbrev pub ByList : {X : Type 0} → (X → Step → Result Standing Refusal → X → Type 0) → ℕ → List Step → X → Ending → X → Type 0
ByList makes made [] old ending new = (ending ≡ endings.Over) × (new ≡ old)
ByList {X = X} makes made (step ∷ steps) old ending new =
    StopsAt makes (made + 1) step old ending new
    ⊎ ((standing : Standing) × (mid : X) × makes old step (Ok standing) mid × ByList makes (made + 1) steps mid ending new)

-- where each job stands behind its last step, with that of one job: jobs count from 1
abbrev pub stand : List Standing → ℕ → Standing → List Standing
stand jobs job standing = if job == 0 then jobs else slice_set jobs (job - 1) standing

-- no job that there may be had a step yet
abbrev pub fresh : List Standing
fresh = replicate JOBS_LIMIT standings.Goes

-- a round begins
abbrev pub new_round : Round
new_round = record { done = 0; waits = true }

-- how stepping ends where no more steps may be made
abbrev pub ending_of : Next → Ending
ending_of nexts.Over = endings.Over
ending_of _ = endings.Full

-- What comes next is done, at the step of this number: nothing does, or a step that is refused, or one behind which it goes on so
abbrev pub NextIsDone : {X : Type 0} → (X → Step → Result Standing Refusal → X → Type 0) → ℕ → (Step → Standing → X → Type 0) → X → Ending → X → Next → Type 0
NextIsDone makes number goes old ending new nexts.Over = (ending ≡ endings.Over) × (new ≡ old)
NextIsDone makes number goes old ending new nexts.Stuck = (ending ≡ endings.Stuck) × (new ≡ old)
NextIsDone {X = X} makes number goes old ending new (nexts.Step step) =
    StopsAt makes number step old ending new
    ⊎ ((standing : Standing) × (mid : X) × makes old step (Ok standing) mid × goes step standing mid)

-- Steps in turn: no more than `most`, behind so many, in a round, where the jobs stand so behind their last steps. What comes next is that of the
-- jobs that there are then.
abbrev pub InTurn : {X : Type 0} → (X → ℕ) → (X → Step → Result Standing Refusal → X → Type 0) → ℕ → ℕ → Round → List Standing → X → Ending → X → Type 0
InTurn count makes zero made round jobs old ending new = (ending ≡ ending_of (next_step round (take (count old) jobs))) × (new ≡ old)
InTurn count makes (suc most) made round jobs old ending new =
    NextIsDone makes (made + 1)
    (λ step standing mid. InTurn count makes most (made + 1) (after_step round step standing) (stand jobs step.job standing) mid ending new)
    old ending new (next_step round (take (count old) jobs))
