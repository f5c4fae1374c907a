-- A run that is walked back and forth.
use Rattle.std.specs.Prelude.{◌≡◌, ℕ, suc, ◌==◌, ◌<◌, List, length, take, Bool, false, ◌||◌, Option, Some, None, is_some, Result, Ok, Err, ◌⊎◌}
use Rattle.mj_sys.specs.Shared.{Shared}
use Rattle.mj_sys.specs.History.{History}
use Rattle.mj_core.specs.declared.seen.Seen.{Seen}
use Rattle.mj_steps.specs.declared.step.Refusal.{Refusal}
use Rattle.mj_steps.specs.declared.step.Step.{Step}
use Rattle.mj_core.specs.Shown.{Shown}
use Rattle.mj_core.specs.Gives.{CoreStepGives}
use Rattle.mj_views.specs.Views.{Window, view_at}
use Rattle.mj_replica.specs.Replicas.{Replayed}
use Rattle.mj_debug.specs.declared.breaks.BreakMark.{BreakMark}
use Rattle.mj_debug.specs.declared.debugger.WalkRefusal.{WalkRefusal}
use Rattle.mj_debug.specs.declared.debugger.WalkRefusal.TheVariants as refusals

-- What is seen of a debugger: the jobs with the record so far; the place in the record; whether what stands there is at hand; the marks of
-- lines; and the job with whose turn a `go` begins.
pub record Walk : Type 0 where
  pub core : Shown
  pub place : ℕ
  pub ready : Bool
  pub marks : List BreakMark
  pub turn : ℕ

-- the events before the place
abbrev pub front : Walk → History
front walk = take walk.place walk.core.history

-- a run was played again up to this place
abbrev pub is_at : ℕ → Option Replayed → Bool
is_at place None = false
is_at place (Some replica) = replica.made == place

-- what stands at a place is at hand: there is a view of it, or a run was played again up to it
abbrev pub is_ready : ℕ → Window → Option Replayed → Bool
is_ready place views replica = is_some (view_at views place) || is_at place replica

-- what a step of the jobs answers, as an answer of the debugger
abbrev pub walk_answer : Result Seen Refusal → Result Seen WalkRefusal
walk_answer (Ok seen) = Ok seen
walk_answer (Err why) = Err (refusals.Step why)

-- the jobs went on, and the place is the record's end again
abbrev pub IsOn : Walk → Walk → Type 0
IsOn old new = new ≡ record old { core = new.core; place = length new.core.history; ready = new.ready }

-- What a step gives: elsewhere than at the record's end it isn't made; there it gives what a step of the jobs gives.
abbrev pub StepGives : Shared → Walk → Step → Result Seen WalkRefusal → Walk → Type 0
StepGives opening old step answer new =
    ((old.place < length old.core.history) × (answer ≡ Err refusals.NotAtEnd) × (new ≡ old))
    ⊎ ((old.place ≡ length old.core.history)
    × ((seen : Result Seen Refusal) × (answer ≡ walk_answer seen) × CoreStepGives opening old.core step seen new.core × IsOn old new))

-- the place is another
abbrev pub MovesTo : ℕ → Walk → Walk → Type 0
MovesTo place old new = new ≡ record old { place = place; ready = new.ready }

-- one event back, which is told; none is before the first
abbrev pub GoesBack : Walk → Option ℕ → Walk → Type 0
GoesBack old None new = (old.place ≡ 0) × (new ≡ old)
GoesBack old (Some at) new = (old.place ≡ suc at) × MovesTo at old new

-- one event on, which is told; none is behind the last
abbrev pub GoesForth : Walk → Option ℕ → Walk → Type 0
GoesForth old None new = (old.place ≡ length old.core.history) × (new ≡ old)
GoesForth old (Some at) new = (old.place ≡ at) × (at < length old.core.history) × MovesTo (suc at) old new
