-- How locks are taken and given.
use Rattle.std.specs.Prelude.{◌≡◌, ℕ, zero, suc, ◌+◌, ◌-◌, ◌==◌, List, [], ◌∷◌, not, count_by, if◌then◌else◌}
use Rattle.std.specs.List.{filter}
use Rattle.std.specs.Ordering.{eq_by_cmp}
use Rattle.std.specs.FinMap.{put}
use Rattle.mj_subs.specs.Name.{Name, names_eq}
use Rattle.mj_locktab.specs.Locks.{Locks, hold_of, job_of, hold_cmp, count_of}

-- the job holds the name so often; with a count of 0 the hold is gone
abbrev pub with_count : Locks → ℕ → Name → ℕ → Locks
with_count locks job name zero = filter (λ e. not (eq_by_cmp hold_cmp (hold_of job name) e.0)) locks
with_count locks job name (suc n) = put hold_cmp (hold_of job name) (suc n) locks

-- it holds the name once more
abbrev pub one_more : Locks → ℕ → Name → Locks
one_more locks job name = put hold_cmp (hold_of job name) (count_of locks job name + 1) locks

-- it holds the name once less; of a name that it doesn't hold nothing changes
abbrev pub one_less : Locks → ℕ → Name → Locks
one_less locks job name = with_count locks job name (count_of locks job name - 1)

-- once more for each place of the list (ISO/IEC 11756:1999, 8.2.12: LOCK)
abbrev pub after_take : Locks → ℕ → List Name → Locks
after_take locks job [] = locks
after_take locks job (n ∷ names) = after_take (one_more locks job n) job names

-- once less for each place of the list
abbrev pub after_give : Locks → ℕ → List Name → Locks
after_give locks job [] = locks
after_give locks job (n ∷ names) = after_give (one_less locks job n) job names

-- the job holds no name
abbrev pub after_give_all : Locks → ℕ → Locks
after_give_all locks job = filter (λ e. not (job_of e.0 == job)) locks

-- how many places of a list of the job's names the hold of j and m has
abbrev pub places_of : ℕ → Name → ℕ → List Name → ℕ
places_of j m job names = if j == job then count_by (names_eq m) names else 0

-- the count of each hold is higher by its places
abbrev pub RisesBy : Locks → ℕ → List Name → Locks → Type 0
RisesBy old job names new = (j : ℕ) (m : Name) → count_of new j m ≡ count_of old j m + places_of j m job names

-- the count of each hold is lower by its places, down to 0
abbrev pub FallsBy : Locks → ℕ → List Name → Locks → Type 0
FallsBy old job names new = (j : ℕ) (m : Name) → count_of new j m ≡ count_of old j m - places_of j m job names

-- the job holds nothing, and every other job what it held
abbrev pub IsWithout : Locks → ℕ → Locks → Type 0
IsWithout old job new = (j : ℕ) (m : Name) → count_of new j m ≡ (if j == job then 0 else count_of old j m)
