-- How a try of names ends.
use Rattle.std.specs.Prelude.{◌≡◌, ℕ, ◌<◌, ◌==◌, List, [], ◌∷◌, Bool, true, false, not, ◌&&◌, Option, Some, None}
use Rattle.std.specs.Option.{option_or}
use Rattle.std.specs.List.{find, Contains}
use Rattle.mj_subs.specs.Name.{Name, overlaps, Overlaps}
use Rattle.mj_locktab.specs.declared.hold.Hold.{Hold}
use Rattle.mj_locktab.specs.declared.taken.Taken.{Taken}
use Rattle.mj_locktab.specs.declared.taken.Taken.TheVariants as takes
use Rattle.mj_locktab.specs.Locks.{Locks, job_of, name_of, count_of, is_past_limit}
use Rattle.mj_locktab.specs.Changes.{after_take, RisesBy}

-- it is another job's, and its name overlaps this one
abbrev pub is_conflict : ℕ → Name → Hold × ℕ → Bool
is_conflict job name e = not (job_of e.0 == job) && overlaps (name_of e.0) name

-- the first such hold in their order: the lowest job's, and of its names the least
abbrev pub conflict_with : Locks → ℕ → Name → Option (Hold × ℕ)
conflict_with locks job name = find (is_conflict job name) locks

-- that of the first name of the list that has one
abbrev pub conflict_of : Locks → ℕ → List Name → Option (Hold × ℕ)
conflict_of locks job [] = None
conflict_of locks job (n ∷ names) = option_or (conflict_with locks job n) (conflict_of locks job names)

-- what is told where there is such a hold or none, and where a limit would be passed or none
abbrev pub try_answer : Option (Hold × ℕ) → Bool → Taken
try_answer (Some e) over = takes.Busy (job_of e.0) (name_of e.0)
try_answer None true = takes.Limit
try_answer None false = takes.Got

-- what is left then: only where the names are got something changes
abbrev pub left : Option (Hold × ℕ) → Bool → Locks → Locks → Locks
left (Some e) over old new = old
left None true old new = old
left None false old new = new

-- what a try of the names is told (8.2.12: LOCK, on the names as a whole)
abbrev pub outcome_of : Locks → ℕ → List Name → Taken
outcome_of locks job names = try_answer (conflict_of locks job names) (is_past_limit (after_take locks job names) job)

-- what it leaves: all of the names are taken, or none
abbrev pub after_try : Locks → ℕ → List Name → Locks
after_try locks job names = left (conflict_of locks job names) (is_past_limit (after_take locks job names) job) locks (after_take locks job names)

-- another job holds this name, which overlaps one of the list
pub record IsInTheWay (locks : Locks) (job : ℕ) (names : List Name) (holder : ℕ) (name : Name) : Type 0 where
  pub other : holder ≡ job → ⊥
  pub held : 0 < count_of locks holder name
  pub asked : Name
  pub among : Contains names asked
  pub overlap : Overlaps name asked

-- no other job holds a name that overlaps one of the list
abbrev pub AreFree : Locks → ℕ → List Name → Type 0
AreFree locks job names = (holder : ℕ) (name : Name) → IsInTheWay locks job names holder name → ⊥

-- What each answer says. Got: the names are free and each is held once more for each of its places. Busy: another job holds this
-- name. Limit: the names are free, and a limit would be passed. But for Got nothing changes.
abbrev pub TryGives : Locks → ℕ → List Name → Taken → Locks → Type 0
TryGives old job names takes.Got new = AreFree old job names × RisesBy old job names new
TryGives old job names (takes.Busy holder name) new = IsInTheWay old job names holder name × (new ≡ old)
TryGives old job names takes.Limit new = AreFree old job names × (is_past_limit (after_take old job names) job ≡ true) × (new ≡ old)

-- a take that passes no limit leaves what it would, and any other what it found
abbrev pub TakeLeaves : Locks → Locks → ℕ → Bool → Locks → Type 0
TakeLeaves old would job true new = (new ≡ would) × (is_past_limit would job ≡ false)
TakeLeaves old would job false new = (new ≡ old) × (is_past_limit would job ≡ true)
