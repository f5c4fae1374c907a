-- The holds of each job by themselves. One after the other they are all holds.
use Rattle.std.specs.Prelude.{◌≡◌, ℕ, ◌==◌, true, false, not, ◌||◌, List, [], ◌∷◌, ◌++◌, map, Option, Some, None, is_some}
use Rattle.std.specs.Ordering.{nat_cmp}
use Rattle.std.specs.List.{list_any, list_all, filter}
use Rattle.std.specs.List.Sorted.{IsStrictlySortedBy}
use Rattle.std.specs.Map.{keys_of, lookup}
use Rattle.std.specs.BTreeMap.{BTreeMap, is_at}
use Rattle.std.specs.FinMap.{find}
use Rattle.mj_subs.specs.Name.{Name}
use Rattle.mj_locktab.specs.Locks.{Locks, hold_of, job_of, hold_cmp, IsInOrder}

-- a job's names, each with its count, as the job's holds
abbrev pub held_by : ℕ → List (Name × ℕ) → Locks
held_by job names = map (λ e. (hold_of job e.0, e.1)) names

-- jobs, each with its names and their counts
abbrev pub Parts : Type 0
Parts = List (ℕ × BTreeMap Name ℕ)

-- all holds
abbrev pub holds_of : Parts → Locks
holds_of [] = []
holds_of (k ∷ ks) = held_by k.0 k.1.entries ++ holds_of ks

-- those of a job, of which there are none where it isn't told
abbrev pub part_in : ℕ → Option (BTreeMap Name ℕ) → Locks
part_in job None = []
part_in job (Some part) = held_by job part.entries

abbrev pub part_at : Parts → ℕ → Locks
part_at parts job = part_in job (lookup (is_at (nat_cmp job)) parts)

-- holds of this job alone, in order and with no count of 0
pub record IsPart (job : ℕ) (locks : Locks) : Type 0 where
  pub in_order : IsInOrder locks
  pub counted : list_any (λ e. e.1 == 0) locks ≡ false
  pub own : list_all (λ e. job_of e.0 == job) locks ≡ true

-- jobs in order, each with holds of its own
pub record AreParts (parts : Parts) : Type 0 where
  pub rises : IsStrictlySortedBy nat_cmp (keys_of parts)
  pub each : (job : ℕ) → IsPart job (part_at parts job)

-- the holds of all other jobs, and those of this job which are left
abbrev pub with_left : Locks → ℕ → Locks → Locks
with_left locks job left = filter (λ e. not (job_of e.0 == job) || is_some (find hold_cmp e.0 left)) locks
