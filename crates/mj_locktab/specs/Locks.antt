-- Which job holds which names, and how often.
use Rattle.std.specs.Prelude.{◌≡◌, ℕ, ◌<◌, ◌==◌, nat_lt, List, T, unwrap_or, count_by, false, Bool, ◌||◌}
use Rattle.std.specs.List.{list_any}
use Rattle.std.specs.declared.cmp.Ordering.{Ordering}
use Rattle.std.specs.Ordering.{nat_cmp, on, then_cmp}
use Rattle.std.specs.FinMap.{find, is_sorted}
use Rattle.mj_subs.specs.Name.{Name, Overlaps}
use Rattle.mj_subs.specs.Collation.{name_cmp}
use Rattle.mj_locktab.specs.declared.hold.Hold.{Hold}
use Rattle.mj_locktab.specs.declared.held.TheConstants.{HOLDS_LIMIT, COUNT_LIMIT}

-- holds, each a job with a name, and how often the job holds the name
abbrev pub Locks : Type 0
Locks = List (Hold × ℕ)

-- the job's hold of the name
abbrev pub hold_of : ℕ → Name → Hold
hold_of job name = record { job = job; name = name }

abbrev pub job_of : Hold → ℕ
job_of h = h.job

abbrev pub name_of : Hold → Name
name_of h = h.name

-- how a hold stands to another: by job, then by name (this profile)
abbrev pub hold_cmp : Hold → Hold → Ordering
hold_cmp = then_cmp (on job_of nat_cmp) (on name_of name_cmp)

-- how often the job holds the name
abbrev pub count_of : Locks → ℕ → Name → ℕ
count_of locks job name = unwrap_or (find hold_cmp (hold_of job name) locks) 0

-- how many names the job holds
abbrev pub names_of : Locks → ℕ → ℕ
names_of locks job = count_by (λ e. job_of e.0 == job) locks

-- whether the job holds too many names, or a name is held too often
abbrev pub is_past_limit : Locks → ℕ → Bool
is_past_limit locks job = nat_lt HOLDS_LIMIT (names_of locks job) || list_any (λ e. nat_lt COUNT_LIMIT e.1) locks

-- no name of one job overlaps a name of another
abbrev pub LocksApart : Locks → Type 0
LocksApart locks = (j k : ℕ) (m n : Name) → (j ≡ k → ⊥) → 0 < count_of locks j m → 0 < count_of locks k n → Overlaps m n → ⊥

-- the holds stand in order, each once
abbrev pub IsInOrder : Locks → Type 0
IsInOrder locks = T (is_sorted hold_cmp locks)

-- What holds of each table of locks. So it is told by its counts alone: with the same counts it is the same list.
pub record IsLockTable (locks : Locks) : Type 0 where
  -- the holds stand in order, each once
  pub in_order : IsInOrder locks
  -- and no count is 0
  pub counted : list_any (λ e. e.1 == 0) locks ≡ false
  -- no job is over a limit
  pub within : (job : ℕ) → is_past_limit locks job ≡ false
  -- no name of one job overlaps a name of another
  pub apart : LocksApart locks
