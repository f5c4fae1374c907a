-- Whether a job is over a limit, before and after each change.
use Rattle.std.proofs.Common.{◌≡◌, ℕ, zero, suc, ◌+◌, ◌-◌, ◌<◌, ◌≤◌, Bool, true, false, not, List, [], ◌∷◌, Option, Some, None, refl, sym, ap, ◌∙◌, subst, arith, eq-eqb, eqb→eq}
use Rattle.std.specs.Prelude.{T, ◌==◌, nat_lt, unwrap_or}
use Rattle.std.specs.List.{list_any, filter}
use Rattle.std.specs.Ordering.{eq_by_cmp}
use Rattle.std.specs.FinMap.{find, put}
use Rattle.std.proofs.lemmas.Bool.Decides.{Decides-ltb, nat_tests}
use Rattle.mj_subs.specs.Name.{Name}
use Rattle.mj_locktab.specs.declared.hold.Hold.{Hold}
use Rattle.mj_locktab.specs.Locks.{Locks, hold_of, job_of, hold_cmp, count_of, names_of, is_past_limit, IsInOrder}
use Rattle.mj_locktab.specs.declared.held.TheConstants.{HOLDS_LIMIT, COUNT_LIMIT}
use Rattle.mj_locktab.specs.Changes.{with_count, one_more, one_less, after_take, after_give_all}
use Rattle.mj_locktab.proofs.Order.{hold_cmp_total}
use Rattle.mj_locktab.proofs.Entries.{or_left, or_right, neither, nor, one_or_other, count-put_other, count-le-put, count-put_new, count-put_found, count-filter, any-put_yes, any-put_no, any-put_stays, any-filter, found_no}

-- ---- tests of numbers

pub lt_true : (a b : ℕ) → a < b → nat_lt a b ≡ true
lt_true a b = (Decides-ltb a b).1

pub lt_false : (a b : ℕ) → b ≤ a → nat_lt a b ≡ false
lt_false a b h = at (nat_lt a b) refl where
  at : (t : Bool) → nat_lt a b ≡ t → t ≡ false
  at true e = absurd (let below : a < b = (Decides-ltb a b).0 e in omega arith)
  at false e = refl

pub from_lt_true : (a b : ℕ) → nat_lt a b ≡ true → a < b
from_lt_true a b = (Decides-ltb a b).0

pub from_lt_false : (a b : ℕ) → nat_lt a b ≡ false → b ≤ a
from_lt_false a b e = grind (arith, nat_tests)

lt_stays : (n a b : ℕ) → a ≤ b → nat_lt n a ≡ true → nat_lt n b ≡ true
lt_stays n a b h e = lt_true n b (let below : n < a = from_lt_true n a e in omega arith)

lt_goes : (n a b : ℕ) → b ≤ a → nat_lt n a ≡ false → nat_lt n b ≡ false
lt_goes n a b h e = lt_false n b (let below : a ≤ n = from_lt_false n a e in omega arith)

unlike : (j job : ℕ) → (j ≡ job → ⊥) → (job == j) ≡ false
unlike j job other = at (job == j) refl where
  at : (b : Bool) → (job == j) ≡ b → b ≡ false
  at true e = absurd (other (sym (eqb→eq job j (subst T (sym e) tt))))
  at false e = refl

-- ---- a take

-- a job that is over a limit stays so
pub over-one_more : (locks : Locks) (job : ℕ) (n : Name) → is_past_limit locks job ≡ true → is_past_limit (one_more locks job n) job ≡ true
over-one_more locks job n over =
    let h = hold_of job n in
    let v = count_of locks job n + 1 in
    one_or_other (nat_lt HOLDS_LIMIT (names_of locks job)) (list_any (λ e. nat_lt COUNT_LIMIT e.1) locks) _ over
    (λ many. or_left _ _ (lt_stays HOLDS_LIMIT (names_of locks job) (names_of (put hold_cmp h v locks) job) (count-le-put hold_cmp (λ x. job_of x == job) h v locks) many))
    (λ often. or_right _ _ (any-put_stays hold_cmp (λ c. nat_lt COUNT_LIMIT c) h v locks
    (λ w found past. lt_stays COUNT_LIMIT w v (let same : count_of locks job n ≡ w = ap (λ (o : Option ℕ). unwrap_or o 0) found in omega arith) past) often))

pub over-after_take : (locks : Locks) (job : ℕ) (names : List Name) → is_past_limit locks job ≡ true → is_past_limit (after_take locks job names) job ≡ true
over-after_take locks job [] over = over
over-after_take locks job (n ∷ names) over = over-after_take (one_more locks job n) job names (over-one_more locks job n over)

-- a name that is held, once more
pub over-held : (locks : Locks) (job c : ℕ) (n : Name) → IsInOrder locks → is_past_limit locks job ≡ false → find hold_cmp (hold_of job n) locks ≡ Some c
    → is_past_limit (one_more locks job n) job ≡ nat_lt COUNT_LIMIT (c + 1)
over-held locks job c n o within found = at (nat_lt COUNT_LIMIT (c + 1)) refl where
  value : count_of locks job n ≡ c
  value = ap (λ (x : Option ℕ). unwrap_or x 0) found

  at : (b : Bool) → nat_lt COUNT_LIMIT (c + 1) ≡ b → is_past_limit (one_more locks job n) job ≡ b
  at true e =
      or_right _ _ (any-put_yes hold_cmp (λ c. nat_lt COUNT_LIMIT c) (hold_of job n) (count_of locks job n + 1) locks (ap (λ (x : ℕ). nat_lt COUNT_LIMIT (x + 1)) value ∙ e))
  at false e =
      let was = neither _ _ within in
      nor _ _
      (ap (λ (x : ℕ). nat_lt HOLDS_LIMIT x) (count-put_found hold_cmp hold_cmp_total (λ x. job_of x == job) (hold_of job n) (count_of locks job n + 1) c locks o found) ∙ was.0)
      (any-put_no hold_cmp (λ c. nat_lt COUNT_LIMIT c) (hold_of job n) (count_of locks job n + 1) locks (ap (λ (x : ℕ). nat_lt COUNT_LIMIT (x + 1)) value ∙ e) was.1)

-- a name that isn't held
pub over-new : (locks : Locks) (job : ℕ) (n : Name) → is_past_limit locks job ≡ false → find hold_cmp (hold_of job n) locks ≡ None
    → is_past_limit (one_more locks job n) job ≡ nat_lt HOLDS_LIMIT (names_of locks job + 1)
over-new locks job n within none = at (nat_lt HOLDS_LIMIT (names_of locks job + 1)) refl where
  names : names_of (one_more locks job n) job ≡ names_of locks job + 1
  names = count-put_new hold_cmp (λ x. job_of x == job) (hold_of job n) (count_of locks job n + 1) locks (eq-eqb job job refl) none

  at : (b : Bool) → nat_lt HOLDS_LIMIT (names_of locks job + 1) ≡ b → is_past_limit (one_more locks job n) job ≡ b
  at true e = or_left _ _ (ap (λ (x : ℕ). nat_lt HOLDS_LIMIT x) names ∙ e)
  at false e =
      let once : count_of locks job n ≡ 0 = ap (λ (x : Option ℕ). unwrap_or x 0) none in
      nor _ _
      (ap (λ (x : ℕ). nat_lt HOLDS_LIMIT x) names ∙ e)
      (any-put_no hold_cmp (λ c. nat_lt COUNT_LIMIT c) (hold_of job n) (count_of locks job n + 1) locks (lt_false COUNT_LIMIT (count_of locks job n + 1) (omega arith)) (neither _ _ within).1)

-- of another job the names stay
names-after_take : (locks : Locks) (job : ℕ) (names : List Name) (j : ℕ) → (j ≡ job → ⊥) → names_of (after_take locks job names) j ≡ names_of locks j
names-after_take locks job [] j other = refl
names-after_take locks job (n ∷ names) j other =
    names-after_take (one_more locks job n) job names j other
    ∙ count-put_other hold_cmp (λ x. job_of x == j) (hold_of job n) (count_of locks job n + 1) locks (unlike j job other)

-- where the job is within its limits after it, each job is
pub within-after_take : (locks : Locks) (job : ℕ) (names : List Name) → ((j : ℕ) → is_past_limit locks j ≡ false) → is_past_limit (after_take locks job names) job ≡ false
    → (j : ℕ) → is_past_limit (after_take locks job names) j ≡ false
within-after_take locks job names within mine j = at (j == job) refl where
  at : (b : Bool) → (j == job) ≡ b → is_past_limit (after_take locks job names) j ≡ false
  at true e = let same : j ≡ job = eqb→eq j job (subst T (sym e) tt) in ap (λ (x : ℕ). is_past_limit (after_take locks job names) x) same ∙ mine
  at false e =
      nor _ _
      (ap (λ (x : ℕ). nat_lt HOLDS_LIMIT x) (names-after_take locks job names j (λ same. let mine : (j == job) ≡ true = eq-eqb j job same in let never : ⊥ = cc in never)) ∙ (neither _ _ (within j)).0)
      (neither _ _ mine).1

-- ---- giving

within-filter : (locks : Locks) (t : Hold × ℕ → Bool) (j : ℕ) → is_past_limit locks j ≡ false → is_past_limit (filter t locks) j ≡ false
within-filter locks t j within =
    let was = neither _ _ within in
    nor _ _ (lt_goes HOLDS_LIMIT (names_of locks j) (names_of (filter t locks) j) (count-filter hold_cmp (λ x. job_of x == j) t locks) was.0)
    (any-filter hold_cmp (λ c. nat_lt COUNT_LIMIT c) t locks was.1)

pub within-after_give_all : (locks : Locks) (job : ℕ) (j : ℕ) → is_past_limit locks j ≡ false → is_past_limit (after_give_all locks job) j ≡ false
within-after_give_all locks job j within = within-filter locks (λ e. not (job_of e.0 == job)) j within

-- a lower count of a name that is held
within-lower : (c : ℕ) (locks : Locks) (job : ℕ) (n : Name) (j w : ℕ) → IsInOrder locks → find hold_cmp (hold_of job n) locks ≡ Some w → c ≤ w → is_past_limit locks j ≡ false
    → is_past_limit (with_count locks job n c) j ≡ false
within-lower zero locks job n j w o found low within = within-filter locks (λ e. not (eq_by_cmp hold_cmp (hold_of job n) e.0)) j within
within-lower (suc c) locks job n j w o found low within =
    let was = neither _ _ within in
    nor _ _
    (ap (λ (x : ℕ). nat_lt HOLDS_LIMIT x) (count-put_found hold_cmp hold_cmp_total (λ x. job_of x == j) (hold_of job n) (suc c) w locks o found) ∙ was.0)
    (any-put_no hold_cmp (λ c. nat_lt COUNT_LIMIT c) (hold_of job n) (suc c) locks
    (lt_goes COUNT_LIMIT w (suc c) low (found_no hold_cmp (λ c. nat_lt COUNT_LIMIT c) (hold_of job n) w locks was.1 found)) was.1)

pub within-one_less : (locks : Locks) (job : ℕ) (n : Name) (j : ℕ) → IsInOrder locks → is_past_limit locks j ≡ false → is_past_limit (one_less locks job n) j ≡ false
within-one_less locks job n j o within = at (find hold_cmp (hold_of job n) locks) refl where
  at : (x : Option ℕ) → find hold_cmp (hold_of job n) locks ≡ x → is_past_limit (one_less locks job n) j ≡ false
  at None e =
      let none : count_of locks job n - 1 ≡ 0 = ap (λ (x : Option ℕ). unwrap_or x 0 - 1) e in
      ap (λ (c : ℕ). is_past_limit (with_count locks job n c) j) none ∙ within-filter locks (λ e. not (eq_by_cmp hold_cmp (hold_of job n) e.0)) j within
  at (Some w) e =
      let less : count_of locks job n - 1 ≡ w - 1 = ap (λ (x : Option ℕ). unwrap_or x 0 - 1) e in
      ap (λ (c : ℕ). is_past_limit (with_count locks job n c) j) less ∙ within-lower (w - 1) locks job n j w o e (omega arith) within
