-- What each change leaves of the counts, and that the counts of a table tell all of it.
use Rattle.std.proofs.Common.{◌≡◌, ℕ, zero, suc, ◌+◌, ◌-◌, ◌<◌, Bool, true, false, cond, not, ◌&&◌, List, [], ◌∷◌, Option, Some, None, refl, sym, ap, ◌∙◌, subst, arith, count_by, eqb→eq}
use Rattle.std.specs.Prelude.{T, ◌==◌, unwrap_or}
use Rattle.std.specs.List.{list_any, filter}
use Rattle.std.specs.Ordering.{eq_by_cmp}
use Rattle.std.specs.FinMap.{find, put}
use Rattle.std.specs.FinMap.Entries.{find-put, find-where_key, is_sorted-put, is_sorted-where_key, same_entries}
use Rattle.std.proofs.lemmas.List.Sums.{sum_by-cons}
use Rattle.mj_subs.specs.Name.{Name, names_eq}
use Rattle.mj_subs.specs.Laws.Tests.{names_eq-Decides}
use Rattle.mj_locktab.specs.declared.hold.Hold.{Hold}
use Rattle.mj_locktab.specs.Locks.{Locks, hold_of, job_of, hold_cmp, count_of, IsInOrder}
use Rattle.mj_locktab.specs.Changes.{with_count, one_more, one_less, after_take, after_give, after_give_all, places_of, RisesBy, FallsBy, IsWithout}
use Rattle.mj_locktab.proofs.Order.{hold_cmp_total, hold_cmp-IsAntisymmetric, tied-hold_of, tied_symm}
use Rattle.mj_locktab.proofs.Entries.{found_no, any-put_no, any-filter}

-- ---- one change

unwrapped : (b : Bool) (v : ℕ) (o : Option ℕ) → unwrap_or (cond b (Some v) o) 0 ≡ cond b v (unwrap_or o 0)
unwrapped true v o = refl
unwrapped false v o = refl

dropped : (b : Bool) (o : Option ℕ) → unwrap_or (cond (not b) o None) 0 ≡ cond b 0 (unwrap_or o 0)
dropped true o = refl
dropped false o = refl

pub count-put : (locks : Locks) (job v : ℕ) (n : Name) (j : ℕ) (m : Name)
    → count_of (put hold_cmp (hold_of job n) v locks) j m ≡ cond (j == job && names_eq m n) v (count_of locks j m)
count-put locks job v n j m =
    ap (λ (o : Option ℕ). unwrap_or o 0) (find-put hold_cmp hold_cmp_total (hold_of j m) (hold_of job n) v locks)
    ∙ unwrapped (eq_by_cmp hold_cmp (hold_of j m) (hold_of job n)) v (find hold_cmp (hold_of j m) locks)
    ∙ ap (λ b. cond b v (count_of locks j m)) (tied-hold_of j m job n)

pub count-without : (locks : Locks) (job : ℕ) (n : Name) (j : ℕ) (m : Name)
    → count_of (filter (λ e. not (eq_by_cmp hold_cmp (hold_of job n) e.0)) locks) j m ≡ cond (j == job && names_eq m n) 0 (count_of locks j m)
count-without locks job n j m =
    let q = hold_of j m in
    let k = hold_of job n in
    ap (λ (o : Option ℕ). unwrap_or o 0)
    (find-where_key hold_cmp (λ x. not (eq_by_cmp hold_cmp k x)) q (λ x tie. ap (λ (y : Hold). not (eq_by_cmp hold_cmp k y)) (sym (hold_cmp-IsAntisymmetric q x tie))) locks)
    ∙ dropped (eq_by_cmp hold_cmp k q) (find hold_cmp q locks)
    ∙ ap (λ b. cond b 0 (count_of locks j m)) (tied_symm k q ∙ tied-hold_of j m job n)

pub count-with : (c : ℕ) (locks : Locks) (job : ℕ) (n : Name) (j : ℕ) (m : Name)
    → count_of (with_count locks job n c) j m ≡ cond (j == job && names_eq m n) c (count_of locks j m)
count-with zero locks job n j m = count-without locks job n j m
count-with (suc c) locks job n j m = count-put locks job (suc c) n j m

-- the count of the hold itself, where the test of it is true
tests : (a b : Bool) → (a && b) ≡ true → (a ≡ true) × (b ≡ true)
tests true true e = (refl, refl)
tests true false e = absurd (let never : ⊥ = cc in never)
tests false b e = absurd (let never : ⊥ = cc in never)

same_count : (locks : Locks) (j job : ℕ) (m n : Name) → (j == job && names_eq m n) ≡ true → count_of locks job n ≡ count_of locks j m
same_count locks j job m n e =
    let t = tests (j == job) (names_eq m n) e in
    let jobs : j ≡ job = eqb→eq j job (subst T (sym t.0) tt) in
    let names : m ≡ n = (names_eq-Decides m n).0 t.1 in
    λ i. count_of locks (sym jobs i) (sym names i)

risen : (b : Bool) (c d : ℕ) → (b ≡ true → d ≡ c) → cond b (d + 1) c ≡ c + cond b 1 0
risen true c d same = ap (λ x. x + 1) (same refl)
risen false c d same = omega arith

fallen : (b : Bool) (c d : ℕ) → (b ≡ true → d ≡ c) → cond b (d - 1) c ≡ c - cond b 1 0
fallen true c d same = ap (λ x. x - 1) (same refl)
fallen false c d same = omega arith

pub count-one_more : (locks : Locks) (job : ℕ) (n : Name) (j : ℕ) (m : Name)
    → count_of (one_more locks job n) j m ≡ count_of locks j m + cond (j == job && names_eq m n) 1 0
count-one_more locks job n j m =
    count-put locks job (count_of locks job n + 1) n j m ∙ risen (j == job && names_eq m n) _ _ (same_count locks j job m n)

pub count-one_less : (locks : Locks) (job : ℕ) (n : Name) (j : ℕ) (m : Name)
    → count_of (one_less locks job n) j m ≡ count_of locks j m - cond (j == job && names_eq m n) 1 0
count-one_less locks job n j m =
    count-with (count_of locks job n - 1) locks job n j m ∙ fallen (j == job && names_eq m n) _ _ (same_count locks j job m n)

-- ---- a list of changes

placed : (a : Bool) (n m : Name) (names : List Name) → cond a (count_by (names_eq m) (n ∷ names)) 0 ≡ cond (a && names_eq m n) 1 0 + cond a (count_by (names_eq m) names) 0
placed true n m names = sum_by-cons (λ x. cond (names_eq m x) 1 0) n names
placed false n m names = refl

places-cons : (j : ℕ) (m : Name) (job : ℕ) (n : Name) (names : List Name) → places_of j m job (n ∷ names) ≡ cond (j == job && names_eq m n) 1 0 + places_of j m job names
places-cons j m job n names = placed (j == job) n m names

no_places : (j : ℕ) (m : Name) (job : ℕ) → places_of j m job [] ≡ 0
no_places j m job = elim (j == job) as (λ b. cond b (count_by (names_eq m) []) 0 ≡ 0) [ true ↦ refl | false ↦ refl ]

pub rises : (locks : Locks) (job : ℕ) (names : List Name) → RisesBy locks job names (after_take locks job names)
rises locks job [] = λ j m. omega (arith, no_places j m job)
rises locks job (n ∷ names) = λ j m. omega (arith, rises (one_more locks job n) job names j m, count-one_more locks job n j m, places-cons j m job n names)

pub falls : (locks : Locks) (job : ℕ) (names : List Name) → FallsBy locks job names (after_give locks job names)
falls locks job [] = λ j m. omega (arith, no_places j m job)
falls locks job (n ∷ names) = λ j m. omega (arith, falls (one_less locks job n) job names j m, count-one_less locks job n j m, places-cons j m job n names)

kept_job : (b : Bool) (o : Option ℕ) → unwrap_or (cond (not b) o None) 0 ≡ cond b 0 (unwrap_or o 0)
kept_job true o = refl
kept_job false o = refl

pub without : (locks : Locks) (job : ℕ) → IsWithout locks job (after_give_all locks job)
without locks job = λ j m.
    let q = hold_of j m in
    ap (λ (o : Option ℕ). unwrap_or o 0)
    (find-where_key hold_cmp (λ x. not (job_of x == job)) q (λ x tie. ap (λ (y : Hold). not (job_of y == job)) (sym (hold_cmp-IsAntisymmetric q x tie))) locks)
    ∙ kept_job (j == job) (find hold_cmp q locks)

-- ---- what stays true of the list

pub order-put : (locks : Locks) (h : Hold) (v : ℕ) → IsInOrder locks → IsInOrder (put hold_cmp h v locks)
order-put locks h v o = is_sorted-put hold_cmp hold_cmp_total h v locks o

pub order-with : (c : ℕ) (locks : Locks) (job : ℕ) (n : Name) → IsInOrder locks → IsInOrder (with_count locks job n c)
order-with zero locks job n o = is_sorted-where_key hold_cmp (λ x. not (eq_by_cmp hold_cmp (hold_of job n) x)) locks o
order-with (suc c) locks job n o = order-put locks (hold_of job n) (suc c) o

pub order-one_less : (locks : Locks) (job : ℕ) (n : Name) → IsInOrder locks → IsInOrder (one_less locks job n)
order-one_less locks job n o = order-with (count_of locks job n - 1) locks job n o

pub order-one_more : (locks : Locks) (job : ℕ) (n : Name) → IsInOrder locks → IsInOrder (one_more locks job n)
order-one_more locks job n o = order-put locks (hold_of job n) (count_of locks job n + 1) o

pub order-after_take : (locks : Locks) (job : ℕ) (names : List Name) → IsInOrder locks → IsInOrder (after_take locks job names)
order-after_take locks job [] o = o
order-after_take locks job (n ∷ names) o = order-after_take (one_more locks job n) job names (order-put locks (hold_of job n) _ o)

pub order-after_give : (locks : Locks) (job : ℕ) (names : List Name) → IsInOrder locks → IsInOrder (after_give locks job names)
order-after_give locks job [] o = o
order-after_give locks job (n ∷ names) o = order-after_give (one_less locks job n) job names (order-one_less locks job n o)

pub order-after_give_all : (locks : Locks) (job : ℕ) → IsInOrder locks → IsInOrder (after_give_all locks job)
order-after_give_all locks job o = is_sorted-where_key hold_cmp (λ x. not (job_of x == job)) locks o

-- no count is 0
abbrev pub IsCounted : Locks → Type 0
IsCounted locks = list_any (λ e. e.1 == 0) locks ≡ false

pub above_none : (n : ℕ) → 0 < n → (n == 0) ≡ false
above_none n h = at (n == 0) refl where
  at : (b : Bool) → (n == 0) ≡ b → b ≡ false
  at true e = absurd (let none : n ≡ 0 = eqb→eq n 0 (subst T (sym e) tt) in omega arith)
  at false e = refl

pub counted-one_more : (locks : Locks) (job : ℕ) (n : Name) → IsCounted locks → IsCounted (one_more locks job n)
counted-one_more locks job n c = any-put_no hold_cmp (λ v. v == 0) (hold_of job n) (count_of locks job n + 1) locks (above_none (count_of locks job n + 1) (omega arith)) c

pub counted-with : (c : ℕ) (locks : Locks) (job : ℕ) (n : Name) → IsCounted locks → IsCounted (with_count locks job n c)
counted-with zero locks job n h = any-filter hold_cmp (λ v. v == 0) (λ e. not (eq_by_cmp hold_cmp (hold_of job n) e.0)) locks h
counted-with (suc c) locks job n h = any-put_no hold_cmp (λ v. v == 0) (hold_of job n) (suc c) locks (above_none (suc c) (omega arith)) h

pub counted-one_less : (locks : Locks) (job : ℕ) (n : Name) → IsCounted locks → IsCounted (one_less locks job n)
counted-one_less locks job n h = counted-with (count_of locks job n - 1) locks job n h

pub counted-after_take : (locks : Locks) (job : ℕ) (names : List Name) → IsCounted locks → IsCounted (after_take locks job names)
counted-after_take locks job [] h = h
counted-after_take locks job (n ∷ names) h = counted-after_take (one_more locks job n) job names (counted-one_more locks job n h)

pub counted-after_give : (locks : Locks) (job : ℕ) (names : List Name) → IsCounted locks → IsCounted (after_give locks job names)
counted-after_give locks job [] h = h
counted-after_give locks job (n ∷ names) h = counted-after_give (one_less locks job n) job names (counted-one_less locks job n h)

-- ---- the counts tell all

-- what is found, by its count
found_of : (locks : Locks) (h : Hold) (o : Option ℕ) → find hold_cmp h locks ≡ o → IsCounted locks → o ≡ cond (unwrap_or o 0 == 0) None (Some (unwrap_or o 0))
found_of locks h None is c = refl
found_of locks h (Some w) is c = sym (ap (λ b. cond b None (Some w)) (found_no hold_cmp (λ v. v == 0) h w locks c is))

-- in two lists in order without a count of 0 every hold has the same count only where they are one list
pub same_locks : (one two : Locks) → IsInOrder one → IsInOrder two → IsCounted one → IsCounted two → ((j : ℕ) (m : Name) → count_of one j m ≡ count_of two j m) → one ≡ two
same_locks one two o p c d same =
    same_entries hold_cmp hold_cmp_total hold_cmp-IsAntisymmetric one two o p (λ q.
    found_of one q _ refl c
    ∙ ap (λ (x : ℕ). cond (x == 0) None (Some x)) (same q.job q.name)
    ∙ sym (found_of two q _ refl d))

-- what was taken can be given back
pub given_back : (locks : Locks) (job : ℕ) (names : List Name) → IsInOrder locks → IsCounted locks → after_give (after_take locks job names) job names ≡ locks
given_back locks job names o c =
    let taken = after_take locks job names in
    same_locks (after_give taken job names) locks (order-after_give taken job names (order-after_take locks job names o)) o
    (counted-after_give taken job names (counted-after_take locks job names c)) c
    (λ j m. omega (arith, falls taken job names j m, rises locks job names j m))
