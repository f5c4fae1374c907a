-- Every change keeps what a table keeps, and what a try says of it.
use Rattle.std.proofs.Common.{◌≡◌, ℕ, ◌+◌, ◌<◌, ◌≤◌, true, false, not, List, [], ◌∷◌, ◌++◌, length, get_or, take, drop, Some, None, refl, sym, ap, ◌∙◌, arith}
use Rattle.std.specs.Prelude.{◌==◌}
use Rattle.std.specs.FinMap.{find}
use Rattle.std.proofs.lemmas.List.{at_drop_more, take_more, take-append-drop}
use Rattle.mj_subs.specs.Name.{Name}
use Rattle.mj_locktab.specs.declared.taken.Taken.TheVariants as takes
use Rattle.mj_locktab.specs.Locks.{Locks, hold_of, job_of, hold_cmp, names_of, is_past_limit, IsInOrder, IsLockTable}
use Rattle.mj_locktab.specs.declared.held.TheConstants.{HOLDS_LIMIT, COUNT_LIMIT}
use Rattle.mj_locktab.specs.Changes.{one_more, one_less, after_take, after_give, after_give_all}
use Rattle.mj_locktab.specs.Tries.{conflict_of, try_answer, left, outcome_of, after_try, AreFree, TryGives}
use Rattle.mj_locktab.proofs.Entries.{any-filter}
use Rattle.mj_locktab.proofs.Counts.{order-after_take, order-after_give, order-after_give_all, order-one_less, counted-after_take, counted-after_give, rises, given_back}
use Rattle.mj_locktab.proofs.Limits.{lt_true, lt_false, over-held, over-new, over-after_take, within-after_take, within-one_less, within-after_give_all}
use Rattle.mj_locktab.proofs.Apart.{all_free, apart-after_take, apart-after_give, apart-after_give_all}

-- nothing is held
pub kept-none : IsLockTable []
kept-none = record { in_order = tt; counted = refl; within = λ job. refl; apart = λ j k m n other one two over. omega (arith, one) }

pub kept-after_take : (locks : Locks) (job : ℕ) (names : List Name) → IsLockTable locks → AreFree locks job names → is_past_limit (after_take locks job names) job ≡ false
    → IsLockTable (after_take locks job names)
kept-after_take locks job names kept are_free within = record {
  in_order = order-after_take locks job names kept.in_order;
  counted = counted-after_take locks job names kept.counted;
  within = within-after_take locks job names kept.within within;
  apart = apart-after_take locks job names are_free kept.apart;
}

within-after_give : (locks : Locks) (job : ℕ) (names : List Name) (j : ℕ) → IsInOrder locks → is_past_limit locks j ≡ false → is_past_limit (after_give locks job names) j ≡ false
within-after_give locks job [] j order within = within
within-after_give locks job (n ∷ names) j order within = within-after_give (one_less locks job n) job names j (order-one_less locks job n order) (within-one_less locks job n j order within)

pub kept-after_give : (locks : Locks) (job : ℕ) (names : List Name) → IsLockTable locks → IsLockTable (after_give locks job names)
kept-after_give locks job names kept = record {
  in_order = order-after_give locks job names kept.in_order;
  counted = counted-after_give locks job names kept.counted;
  within = λ j. within-after_give locks job names j kept.in_order (kept.within j);
  apart = apart-after_give locks job names kept.apart;
}

pub kept-after_give_all : (locks : Locks) (job : ℕ) → IsLockTable locks → IsLockTable (after_give_all locks job)
kept-after_give_all locks job kept = record {
  in_order = order-after_give_all locks job kept.in_order;
  counted = any-filter hold_cmp (λ v. v == 0) (λ e. not (job_of e.0 == job)) locks kept.counted;
  within = λ j. within-after_give_all locks job j (kept.within j);
  apart = apart-after_give_all locks job kept.apart;
}

-- ---- one name

-- a list of names after some of it
after_take-append : (locks : Locks) (job : ℕ) (names more : List Name) → after_take locks job (names ++ more) ≡ after_take (after_take locks job names) job more
after_take-append locks job [] more = refl
after_take-append locks job (n ∷ names) more = after_take-append (one_more locks job n) job names more

module _ (locks : Locks) (job : ℕ) (n : Name) (order : IsInOrder locks) (within : is_past_limit locks job ≡ false) where
  -- of a name that is held, the count tells whether a limit is passed
  pub count_over : (c : ℕ) → find hold_cmp (hold_of job n) locks ≡ Some c → c ≡ COUNT_LIMIT → is_past_limit (one_more locks job n) job ≡ true
  count_over c found full = over-held locks job c n order within found ∙ lt_true COUNT_LIMIT (c + 1) (omega (arith, full))

  pub count_more : (c : ℕ) → find hold_cmp (hold_of job n) locks ≡ Some c → c + 1 ≤ COUNT_LIMIT → is_past_limit (one_more locks job n) job ≡ false
  count_more c found room = over-held locks job c n order within found ∙ lt_false COUNT_LIMIT (c + 1) room

  -- and of one that isn't, how many are
  pub new_over : find hold_cmp (hold_of job n) locks ≡ None → HOLDS_LIMIT ≤ names_of locks job → is_past_limit (one_more locks job n) job ≡ true
  new_over absent full = over-new locks job n within absent ∙ lt_true HOLDS_LIMIT (names_of locks job + 1) (omega (arith, full))

  pub new_more : find hold_cmp (hold_of job n) locks ≡ None → names_of locks job < HOLDS_LIMIT → is_past_limit (one_more locks job n) job ≡ false
  new_more absent room = over-new locks job n within absent ∙ lt_false HOLDS_LIMIT (names_of locks job + 1) (omega (arith, room))

-- ---- a list of names

-- the names up to one, and that one
up_to : (names : List Name) (i : ℕ) (n : Name) → i < length names → n ≡ get_or names i n → take (i + 1) names ≡ take i names ++ n ∷ []
up_to names i n lt here = take_more names i n lt ∙ ap (λ (x : Name). take i names ++ x ∷ []) (sym here)

pub one_step : (locks : Locks) (job : ℕ) (names : List Name) (i : ℕ) (n : Name) → i < length names → n ≡ get_or names i n
    → after_take locks job (take (i + 1) names) ≡ one_more (after_take locks job (take i names)) job n
one_step locks job names i n lt here = ap (λ (ns : List Name). after_take locks job ns) (up_to names i n lt here) ∙ after_take-append locks job (take i names) (n ∷ [])

-- where a limit is passed at one name, it is at the end
pub over_at : (locks : Locks) (job : ℕ) (names : List Name) (i : ℕ) (n : Name) → i < length names → n ≡ get_or names i n
    → is_past_limit (one_more (after_take locks job (take i names)) job n) job ≡ true → is_past_limit (after_take locks job names) job ≡ true
over_at locks job names i n lt here over =
    ap (λ (ns : List Name). is_past_limit (after_take locks job ns) job) (sym (take-append-drop (i + 1) names))
    ∙ ap (λ (l : Locks). is_past_limit l job) (after_take-append locks job (take (i + 1) names) (drop (i + 1) names))
    ∙ over-after_take (after_take locks job (take (i + 1) names)) job (drop (i + 1) names) (ap (λ (l : Locks). is_past_limit l job) (one_step locks job names i n lt here) ∙ over)

-- the names so far are given back
pub undone : (locks held : Locks) (job : ℕ) (names : List Name) (i : ℕ) → IsLockTable locks → held ≡ after_take locks job (take i names) → after_give held job (take i names) ≡ locks
undone locks held job names i kept same = ap (λ (l : Locks). after_give l job (take i names)) same ∙ given_back locks job (take i names) kept.in_order kept.counted

-- one name given, and then the rest
pub one_given : (locks : Locks) (job : ℕ) (names : List Name) (i : ℕ) (n : Name) → i < length names → n ≡ get_or names i n
    → after_give (one_less locks job n) job (drop (i + 1) names) ≡ after_give locks job (drop i names)
one_given locks job names i n lt here =
    ap (λ (x : Name). after_give (one_less locks job x) job (drop (i + 1) names)) here
    ∙ sym (at_drop_more (λ (ns : List Name). after_give locks job ns) names i n lt)

-- ---- a try

pub got_try : (locks : Locks) (job : ℕ) (names : List Name) → conflict_of locks job names ≡ None → is_past_limit (after_take locks job names) job ≡ false
    → (takes.Got ≡ outcome_of locks job names) × (after_take locks job names ≡ after_try locks job names) × TryGives locks job names takes.Got (after_take locks job names)
got_try locks job names none within = (
  (λ i. try_answer (sym none i) (sym within i)),
  (λ i. left (sym none i) (sym within i) locks (after_take locks job names)),
  (all_free locks job names none, rises locks job names),
)

pub limit_try : (locks : Locks) (job : ℕ) (names : List Name) → conflict_of locks job names ≡ None → is_past_limit (after_take locks job names) job ≡ true
    → (takes.Limit ≡ outcome_of locks job names) × (locks ≡ after_try locks job names) × TryGives locks job names takes.Limit locks
limit_try locks job names none over = (
  (λ i. try_answer (sym none i) (sym over i)),
  (λ i. left (sym none i) (sym over i) locks (after_take locks job names)),
  (all_free locks job names none, over, refl),
)
