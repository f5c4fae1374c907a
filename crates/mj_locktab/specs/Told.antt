-- What the trees tell of the holds, and how it follows a change of them.
use Rattle.std.specs.Prelude.{◌≡◌, ℕ, ◌+◌, ◌<◌, ◌==◌, ◌↔◌, ◌&&◌, List, [], ◌∷◌, length, Option, Some, None, count_by}
use Rattle.std.specs.FinMap.{find}
use Rattle.mj_subs.specs.Name.{Name, names_eq}
use Rattle.mj_locktab.specs.declared.hold.Hold.{Hold}
use Rattle.mj_locktab.specs.Locks.{Locks, hold_of, job_of, name_of, hold_cmp, count_of}
use Rattle.mj_locktab.specs.Trees.{Stand, Kinds, holder_of, tally_of, is_at_or_above, AreAlike, HasOneMore, HasOneLess, at_name}

-- what stands at a name
abbrev pub stands_of : Kinds → Name → Option Stand
stands_of kinds = at_name kinds.globals kinds.locals

-- At each name stands the job that holds it, and of each job how many of its names are that name or below it.
pub record Tell (stands : Name → Option Stand) (locks : Locks) : Type 0 where
  pub holders : (n : Name) (j : ℕ) → (holder_of (stands n) ≡ Some j) ↔ (0 < count_of locks j n)
  pub tallies : (n : Name) (j : ℕ) → tally_of (stands n) j ≡ count_by (λ e. job_of e.0 == j && is_at_or_above n (name_of e.0)) locks

-- no other job holds the name
abbrev pub IsFree : Locks → ℕ → Name → Type 0
IsFree locks job n = (k : ℕ) → (k ≡ job → ⊥) → count_of locks k n ≡ 0

-- how many nodes a test of names may look at: one for each name and for each of its subscripts
abbrev pub visits_limit : List Name → ℕ
visits_limit [] = 0
visits_limit (n ∷ names) = 1 + length n.subscripts + visits_limit names

-- how many it looks at in any case: one for each name where no hold is in the way of any, and one where the first of those in the way is found
abbrev pub visits_least : Option (Hold × ℕ) → List Name → ℕ
visits_least None names = length names
visits_least (Some e) names = 1

-- How the trees follow a change of the holds, by the count that is found of a hold before and after it: a name is held that wasn't, or no more, or
-- nothing is told anew.
abbrev pub follow_by : Option ℕ → Option ℕ → (Name → Option Stand) → (Name → Option Stand) → ℕ → Name → Type 0
follow_by None None old new job n = AreAlike old new
follow_by None (Some c) old new job n = HasOneMore old new (λ m. names_eq m n) (λ m. is_at_or_above m n) job
follow_by (Some c) None old new job n = HasOneLess old new (λ m. names_eq m n) (λ m. is_at_or_above m n) job
follow_by (Some c) (Some d) old new job n = AreAlike old new

abbrev pub Follows : (Name → Option Stand) → (Name → Option Stand) → Locks → Locks → ℕ → Name → Type 0
Follows old new before after job n = follow_by (find hold_cmp (hold_of job n) before) (find hold_cmp (hold_of job n) after) old new job n
