-- What holds of the holds of each job holds of all, and a change of one job's is a change of all.
use Rattle.std.proofs.Common.{◌≡◌, ℕ, ◌+◌, Bool, true, false, cond, ◌&&◌, [], ◌∷◌, ◌++◌, length, Option, Some, None, refl, sym, ap, ◌∙◌, subst, arith, eq-eqb, eqb→eq}
use Rattle.std.specs.Prelude.{T, ◌==◌, nat_lt, unwrap_or}
use Rattle.std.specs.Option.{option_or}
use Rattle.std.specs.List.{list_any, list_all, AllByRecursion}
use Rattle.std.specs.List.Sorted.{IsStrictlySortedBy}
use Rattle.std.specs.declared.cmp.Ordering.TheVariants.{Less}
use Rattle.std.specs.Ordering.{nat_cmp, is_lt, eq_by_cmp, ordering_then}
use Rattle.std.specs.Cmp.{unsigned_tied}
use Rattle.std.specs.FinMap.{find, is_sorted}
use Rattle.std.specs.FinMap.Entries.{below_all}
use Rattle.std.specs.Map.{keys_of, lookup}
use Rattle.std.specs.BTreeMap.{BTreeMap, is_at}
use Rattle.std.proofs.lemmas.Cmp.{nat_cmp_total, eq_by_cmp_equiv}
use Rattle.std.proofs.lemmas.Map.{lookup-none}
use Rattle.std.proofs.lemmas.Map.Keys.{sorted_head, sorted_tail, IsDistinct-from_sorted}
use Rattle.std.proofs.lemmas.Map.Entries.{none_past_head}
use Rattle.std.proofs.lemmas.List.Sums.{sum_by-cons, sum_by-append}
use Rattle.std.proofs.lemmas.List.Folds.{list_any-append}
use Rattle.mj_subs.specs.Name.{Name, names_eq}
use Rattle.mj_subs.specs.Collation.{name_cmp}
use Rattle.mj_locktab.specs.declared.hold.Hold.{Hold}
use Rattle.mj_locktab.specs.declared.held.TheConstants.{HOLDS_LIMIT, COUNT_LIMIT}
use Rattle.mj_locktab.specs.Locks.{Locks, hold_of, job_of, hold_cmp, count_of, names_of, is_past_limit, IsInOrder}
use Rattle.mj_locktab.specs.Changes.{one_more}
use Rattle.mj_locktab.specs.Parts.{Parts, held_by, holds_of, part_in, part_at, IsPart, AreParts}
use Rattle.mj_locktab.proofs.Order.{tied-hold_of}
use Rattle.mj_locktab.proofs.Entries.{first, second, both, nor, neither}
use Rattle.mj_locktab.proofs.Counts.{IsCounted, same_locks}
use Rattle.mj_locktab.proofs.Limits.{over-held, over-new}

-- ---- tests

pub equal_job : (j k : ℕ) → (j == k) ≡ true → j ≡ k
equal_job j k e = eqb→eq j k (subst T (sym e) tt)

pub unlike : (j k : ℕ) → (j ≡ k → ⊥) → (j == k) ≡ false
unlike j k other = at (j == k) refl where
  at : (b : Bool) → (j == k) ≡ b → b ≡ false
  at true e = absurd (other (equal_job j k e))
  at false e = refl

pub apart : (j k : ℕ) → (j == k) ≡ false → j ≡ k → ⊥
apart j k e same = let is_so : (j == k) ≡ true = eq-eqb j k same in let never : ⊥ = cc in never

one_and : (a b : Bool) → (a && b) ≡ true → a ≡ true
one_and true b e = refl
one_and false b e = absurd (let never : ⊥ = cc in never)

other_and : (a b : Bool) → (a && b) ≡ true → b ≡ true
other_and true b e = e
other_and false b e = absurd (let never : ⊥ = cc in never)

or_none : (o : Option ℕ) → option_or o None ≡ o
or_none None = refl
or_none (Some x) = refl

-- ---- the first job, and the others

pub no_part : (job : ℕ) → IsPart job []
no_part job = record { in_order = tt; counted = refl; own = refl }

pub past_first : (k : ℕ × BTreeMap Name ℕ) (ks : Parts) → IsStrictlySortedBy nat_cmp (keys_of (k ∷ ks)) → (j : ℕ) → (j == k.0) ≡ true → lookup (is_at (nat_cmp j)) ks ≡ None
past_first k ks rises j same =
    lookup-none (is_at (nat_cmp j)) ks
    (none_past_head (eq_by_cmp_equiv nat_cmp_total) j k ks (IsDistinct-from_sorted nat_cmp (keys_of (k ∷ ks)) rises) (unsigned_tied j k.0 ∙ same))

pub part_first : (k : ℕ × BTreeMap Name ℕ) (ks : Parts) (j : ℕ) → (j == k.0) ≡ true → part_at (k ∷ ks) j ≡ held_by k.0 k.1.entries
part_first k ks j same =
    ap (λ b. part_in j (cond b (Some k.1) (lookup (is_at (nat_cmp j)) ks))) (unsigned_tied j k.0 ∙ same) ∙ ap (λ (x : ℕ). held_by x k.1.entries) (equal_job j k.0 same)

pub part_later : (k : ℕ × BTreeMap Name ℕ) (ks : Parts) (j : ℕ) → (j == k.0) ≡ false → part_at (k ∷ ks) j ≡ part_at ks j
part_later k ks j other = ap (λ b. part_in j (cond b (Some k.1) (lookup (is_at (nat_cmp j)) ks))) (unsigned_tied j k.0 ∙ other)

pub first_part : (k : ℕ × BTreeMap Name ℕ) (ks : Parts) → AreParts (k ∷ ks) → IsPart k.0 (held_by k.0 k.1.entries)
first_part k ks parts = subst (IsPart k.0) (part_first k ks k.0 (eq-eqb k.0 k.0 refl)) (parts.each k.0)

pub later_parts : (k : ℕ × BTreeMap Name ℕ) (ks : Parts) → AreParts (k ∷ ks) → AreParts ks
later_parts k ks parts = record { rises = sorted_tail nat_cmp k.0 (keys_of ks) parts.rises; each = λ j. at j (j == k.0) refl } where
  at : (j : ℕ) (b : Bool) → (j == k.0) ≡ b → IsPart j (part_at ks j)
  at j true e = subst (IsPart j) (sym (ap (part_in j) (past_first k ks parts.rises j e))) (no_part j)
  at j false e = subst (IsPart j) (part_later k ks j e) (parts.each j)

-- ---- what is found among all is found among the job's own

find_append : (h : Hold) (xs ys : Locks) → find hold_cmp h (xs ++ ys) ≡ option_or (find hold_cmp h xs) (find hold_cmp h ys)
find_append h [] ys = refl
find_append h (x ∷ xs) ys =
    elim (eq_by_cmp hold_cmp h x.0) as (λ b. cond b (Some x.1) (find hold_cmp h (xs ++ ys)) ≡ option_or (cond b (Some x.1) (find hold_cmp h xs)) (find hold_cmp h ys)) [
      | true ↦ refl
      | false ↦ find_append h xs ys
    ]

-- no hold of another job is found there
pub find_other : (k j : ℕ) (m : Name) (xs : Locks) → list_all (λ e. job_of e.0 == k) xs ≡ true → (j ≡ k → ⊥) → find hold_cmp (hold_of j m) xs ≡ None
find_other k j m [] own other = refl
find_other k j m (x ∷ xs) own other =
    let here : x.0.job ≡ k = equal_job x.0.job k (one_and (job_of x.0 == k) _ own) in
    let not_so : (j == x.0.job) ≡ false = unlike j x.0.job (λ e. other (e ∙ here)) in
    ap (λ b. cond b (Some x.1) (find hold_cmp (hold_of j m) xs)) (tied-hold_of j m x.0.job x.0.name ∙ ap (λ b. b && names_eq m x.0.name) not_so)
    ∙ find_other k j m xs (other_and (job_of x.0 == k) _ own) other

pub find_parts : (parts : Parts) → AreParts parts → (j : ℕ) (m : Name) → find hold_cmp (hold_of j m) (holds_of parts) ≡ find hold_cmp (hold_of j m) (part_at parts j)
find_parts [] are j m = refl
find_parts (k ∷ ks) are j m = find_append (hold_of j m) (held_by k.0 k.1.entries) (holds_of ks) ∙ at (find_parts ks (later_parts k ks are) j m) (j == k.0) refl where
  at : find hold_cmp (hold_of j m) (holds_of ks) ≡ find hold_cmp (hold_of j m) (part_at ks j) → (b : Bool) → (j == k.0) ≡ b
      → option_or (find hold_cmp (hold_of j m) (held_by k.0 k.1.entries)) (find hold_cmp (hold_of j m) (holds_of ks)) ≡ find hold_cmp (hold_of j m) (part_at (k ∷ ks) j)
  at rest true e =
      ap (λ (o : Option ℕ). option_or (find hold_cmp (hold_of j m) (held_by k.0 k.1.entries)) o)
      (rest ∙ ap (λ (o : Option (BTreeMap Name ℕ)). find hold_cmp (hold_of j m) (part_in j o)) (past_first k ks are.rises j e))
      ∙ or_none (find hold_cmp (hold_of j m) (held_by k.0 k.1.entries))
      ∙ ap (λ (l : Locks). find hold_cmp (hold_of j m) l) (sym (part_first k ks j e))
  at rest false e =
      ap (λ (o : Option ℕ). option_or o (find hold_cmp (hold_of j m) (holds_of ks))) (find_other k.0 j m (held_by k.0 k.1.entries) (first_part k ks are).own (apart j k.0 e))
      ∙ rest
      ∙ ap (λ (l : Locks). find hold_cmp (hold_of j m) l) (sym (part_later k ks j e))

pub count_parts : (parts : Parts) → AreParts parts → (j : ℕ) (m : Name) → count_of (holds_of parts) j m ≡ count_of (part_at parts j) j m
count_parts parts are j m = ap (λ (o : Option ℕ). unwrap_or o 0) (find_parts parts are j m)

-- ---- all are in order

below_append : (h : Hold) (xs ys : Locks) → T (below_all hold_cmp h xs) → T (below_all hold_cmp h ys) → T (below_all hold_cmp h (xs ++ ys))
below_append h [] ys p q = q
below_append h (x ∷ xs) ys p q = both _ _ (first _ _ p) (below_append h xs ys (second _ _ p) q)

below_own : (h : Hold) (k : ℕ) (xs : Locks) → nat_cmp h.job k ≡ Less → list_all (λ e. job_of e.0 == k) xs ≡ true → T (below_all hold_cmp h xs)
below_own h k [] low own = tt
below_own h k (x ∷ xs) low own =
    let here : x.0.job ≡ k = equal_job x.0.job k (one_and (job_of x.0 == k) _ own) in
    let less : hold_cmp h x.0 ≡ Less = ap (λ r. ordering_then r (name_cmp h.name x.0.name)) (ap (λ (y : ℕ). nat_cmp h.job y) here ∙ low) in
    both (is_lt (hold_cmp h x.0)) _ (subst (λ r. T (is_lt r)) (sym less) tt) (below_own h k xs low (other_and (job_of x.0 == k) _ own))

below_parts : (h : Hold) (ks : Parts) → AreParts ks → AllByRecursion (λ y. nat_cmp h.job y ≡ Less) (keys_of ks) → T (below_all hold_cmp h (holds_of ks))
below_parts h [] are low = tt
below_parts h (k ∷ ks) are low =
    below_append h (held_by k.0 k.1.entries) (holds_of ks) (below_own h k.0 (held_by k.0 k.1.entries) low.0 (first_part k ks are).own) (below_parts h ks (later_parts k ks are) low.1)

sorted_join : (k : ℕ) (xs ys : Locks) → T (is_sorted hold_cmp xs) → list_all (λ e. job_of e.0 == k) xs ≡ true → ((h : Hold) → h.job ≡ k → T (below_all hold_cmp h ys)) → T (is_sorted hold_cmp ys)
    → T (is_sorted hold_cmp (xs ++ ys))
sorted_join k [] ys p own low q = q
sorted_join k (x ∷ xs) ys p own low q =
    let here : x.0.job ≡ k = equal_job x.0.job k (one_and (job_of x.0 == k) _ own) in
    both _ _ (below_append x.0 xs ys (first _ _ p) (low x.0 here)) (sorted_join k xs ys (second _ _ p) (other_and (job_of x.0 == k) _ own) low q)

pub order_parts : (parts : Parts) → AreParts parts → IsInOrder (holds_of parts)
order_parts [] are = tt
order_parts (k ∷ ks) are =
    let later = later_parts k ks are in
    sorted_join k.0 (held_by k.0 k.1.entries) (holds_of ks) (first_part k ks are).in_order (first_part k ks are).own
    (λ h same. below_parts h ks later (subst (λ (x : ℕ). AllByRecursion (λ y. nat_cmp x y ≡ Less) (keys_of ks)) (sym same) (sorted_head nat_cmp k.0 (keys_of ks) are.rises)))
    (order_parts ks later)

-- ---- what no part has, none of all has

pub none_parts : (p : Hold × ℕ → Bool) (parts : Parts) → AreParts parts → ((j : ℕ) → list_any p (part_at parts j) ≡ false) → list_any p (holds_of parts) ≡ false
none_parts p [] are none = refl
none_parts p (k ∷ ks) are none =
    list_any-append p (held_by k.0 k.1.entries) (holds_of ks)
    ∙ nor _ _ (ap (λ (l : Locks). list_any p l) (sym (part_first k ks k.0 (eq-eqb k.0 k.0 refl))) ∙ none k.0) (none_parts p ks (later_parts k ks are) (λ j. at j (j == k.0) refl))
  where
    at : (j : ℕ) (b : Bool) → (j == k.0) ≡ b → list_any p (part_at ks j) ≡ false
    at j true e = ap (λ (o : Option (BTreeMap Name ℕ)). list_any p (part_in j o)) (past_first k ks are.rises j e)
    at j false e = ap (λ (l : Locks). list_any p l) (sym (part_later k ks j e)) ∙ none j

pub counted_parts : (parts : Parts) → AreParts parts → IsCounted (holds_of parts)
counted_parts parts are = none_parts (λ e. e.1 == 0) parts are (λ j. (are.each j).counted)

-- and back
pub none_part : (p : Hold × ℕ → Bool) (parts : Parts) (j : ℕ) → list_any p (holds_of parts) ≡ false → list_any p (part_at parts j) ≡ false
none_part p [] j none = refl
none_part p (k ∷ ks) j none = at (none_part p ks j) (j == k.0) refl where
  parts : (list_any p (held_by k.0 k.1.entries) ≡ false) × (list_any p (holds_of ks) ≡ false)
  parts = neither _ _ (sym (list_any-append p (held_by k.0 k.1.entries) (holds_of ks)) ∙ none)

  at : (list_any p (holds_of ks) ≡ false → list_any p (part_at ks j) ≡ false) → (b : Bool) → (j == k.0) ≡ b → list_any p (part_at (k ∷ ks) j) ≡ false
  at rest true e = ap (λ (l : Locks). list_any p l) (part_first k ks j e) ∙ parts.0
  at rest false e = ap (λ (l : Locks). list_any p l) (part_later k ks j e) ∙ rest parts.1

-- ---- how many names

pub names_own : (k : ℕ) (xs : Locks) → list_all (λ e. job_of e.0 == k) xs ≡ true → names_of xs k ≡ length xs
names_own k [] own = refl
names_own k (x ∷ xs) own =
    let one : ◌≡◌ {A = ℕ} (cond (job_of x.0 == k) 1 0) 1 = ap (λ b. cond b 1 0) (one_and (job_of x.0 == k) _ own) in
    let all = sum_by-cons (λ (e : Hold × ℕ). cond (job_of e.0 == k) 1 0) x xs in
    omega (arith, one, all, names_own k xs (other_and (job_of x.0 == k) _ own))

names_other : (k j : ℕ) (xs : Locks) → list_all (λ e. job_of e.0 == k) xs ≡ true → (j ≡ k → ⊥) → names_of xs j ≡ 0
names_other k j [] own other = refl
names_other k j (x ∷ xs) own other =
    let here : x.0.job ≡ k = equal_job x.0.job k (one_and (job_of x.0 == k) _ own) in
    let none : ◌≡◌ {A = ℕ} (cond (job_of x.0 == j) 1 0) 0 = ap (λ b. cond b 1 0) (unlike x.0.job j (λ e. other (sym e ∙ here))) in
    let all = sum_by-cons (λ (e : Hold × ℕ). cond (job_of e.0 == j) 1 0) x xs in
    omega (arith, none, all, names_other k j xs (other_and (job_of x.0 == k) _ own) other)

pub names_part : (parts : Parts) → AreParts parts → (j : ℕ) → names_of (part_at parts j) j ≡ length (part_at parts j)
names_part parts are j = names_own j (part_at parts j) (are.each j).own

pub names_parts : (parts : Parts) → AreParts parts → (j : ℕ) → names_of (holds_of parts) j ≡ names_of (part_at parts j) j
names_parts [] are j = refl
names_parts (k ∷ ks) are j = sum_by-append (λ (e : Hold × ℕ). cond (job_of e.0 == j) 1 0) (held_by k.0 k.1.entries) (holds_of ks) ∙ at (names_parts ks (later_parts k ks are) j) (j == k.0) refl where
  at : names_of (holds_of ks) j ≡ names_of (part_at ks j) j → (b : Bool) → (j == k.0) ≡ b → names_of (held_by k.0 k.1.entries) j + names_of (holds_of ks) j ≡ names_of (part_at (k ∷ ks) j) j
  at its true e =
      let rest : names_of (holds_of ks) j ≡ 0 =
      its ∙ ap (λ (o : Option (BTreeMap Name ℕ)). names_of (part_in j o) j) (past_first k ks are.rises j e) in
      let here : names_of (part_at (k ∷ ks) j) j ≡ names_of (held_by k.0 k.1.entries) j = ap (λ (l : Locks). names_of l j) (part_first k ks j e) in
      omega (arith, rest, here)
  at its false e =
      let none : names_of (held_by k.0 k.1.entries) j ≡ 0 = names_other k.0 j (held_by k.0 k.1.entries) (first_part k ks are).own (apart j k.0 e) in
      let rest = its in
      let here : names_of (part_at (k ∷ ks) j) j ≡ names_of (part_at ks j) j = ap (λ (l : Locks). names_of l j) (part_later k ks j e) in
      omega (arith, none, rest, here)

-- ---- a change of one part

-- parts of which only this job's holds changed
pub record IsRefilled (old new : Parts) (job : ℕ) (part : Locks) : Type 0 where
  pub own : part_at new job ≡ part
  pub others : (j : ℕ) → (j ≡ job → ⊥) → part_at new j ≡ part_at old j

pub parts_refilled : (old new : Parts) (job : ℕ) (part : Locks) → IsRefilled old new job part → AreParts old → IsStrictlySortedBy nat_cmp (keys_of new) → IsPart job part → AreParts new
parts_refilled old new job part change are rises is = record { rises = rises; each = λ j. at j (j == job) refl } where
  at : (j : ℕ) (b : Bool) → (j == job) ≡ b → IsPart j (part_at new j)
  at j true e =
      let same : j ≡ job = equal_job j job e in
      subst (λ (x : ℕ). IsPart x (part_at new x)) (sym same) (subst (IsPart job) (sym change.own) is)
  at j false e = subst (IsPart j) (sym (change.others j (apart j job e))) (are.each j)

-- all holds are these, where the counts of each part are theirs
pub same_parts : (parts : Parts) (locks : Locks) → AreParts parts → IsInOrder locks → IsCounted locks
    → ((j : ℕ) (m : Name) → count_of (part_at parts j) j m ≡ count_of locks j m) → holds_of parts ≡ locks
same_parts parts locks are order counted same =
    same_locks (holds_of parts) locks (order_parts parts are) order (counted_parts parts are) counted (λ j m. count_parts parts are j m ∙ same j m)

-- the counts after a change of one job's part, where those of the locks change so too
pub counts_refilled : (old new : Parts) (locks : Locks) (job : ℕ) (part : Locks) → AreParts old → IsRefilled old new job part → ((m : Name) → count_of part job m ≡ count_of locks job m)
    → ((j : ℕ) (m : Name) → (j ≡ job → ⊥) → count_of locks j m ≡ count_of (holds_of old) j m) → (j : ℕ) (m : Name) → count_of (part_at new j) j m ≡ count_of locks j m
counts_refilled old new locks job part are change mine others j m = at (j == job) refl where
  at : (b : Bool) → (j == job) ≡ b → count_of (part_at new j) j m ≡ count_of locks j m
  at true e =
      let same : j ≡ job = equal_job j job e in
      subst (λ (x : ℕ). count_of (part_at new x) x m ≡ count_of locks x m) (sym same) (ap (λ (l : Locks). count_of l job m) change.own ∙ mine m)
  at false e =
      let other = apart j job e in
      ap (λ (l : Locks). count_of l j m) (change.others j other) ∙ sym (count_parts old are j m) ∙ sym (others j m other)

-- whether a limit is passed is told by the job's part
pub over_part : (parts : Parts) (job : ℕ) (n : Name) → AreParts parts → is_past_limit (holds_of parts) job ≡ false
    → (is_past_limit (part_at parts job) job ≡ false) × (is_past_limit (one_more (part_at parts job) job n) job ≡ is_past_limit (one_more (holds_of parts) job n) job)
over_part parts job n are within = (mine, at (find hold_cmp (hold_of job n) (part_at parts job)) refl) where
  part : Locks
  part = part_at parts job

  mine : is_past_limit (part_at parts job) job ≡ false
  mine =
      let was = neither _ _ within in
      nor _ _ (ap (λ (x : ℕ). nat_lt HOLDS_LIMIT x) (sym (names_parts parts are job)) ∙ was.0) (none_part (λ e. nat_lt COUNT_LIMIT e.1) parts job was.1)

  at : (o : Option ℕ) → find hold_cmp (hold_of job n) (part_at parts job) ≡ o → is_past_limit (one_more (part_at parts job) job n) job ≡ is_past_limit (one_more (holds_of parts) job n) job
  at None e =
      over-new (part_at parts job) job n mine e ∙ ap (λ (x : ℕ). nat_lt HOLDS_LIMIT (x + 1)) (sym (names_parts parts are job))
      ∙ sym (over-new (holds_of parts) job n within (find_parts parts are job n ∙ e))
  at (Some c) e = over-held (part_at parts job) job c n (are.each job).in_order mine e ∙ sym (over-held (holds_of parts) job c n (order_parts parts are) within (find_parts parts are job n ∙ e))
