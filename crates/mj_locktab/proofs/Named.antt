-- The names of one job, each with its count, as the job's holds.
use Rattle.std.proofs.Common.{◌≡◌, ℕ, zero, suc, ◌+◌, ◌-◌, ◌<◌, ◌≤◌, Bool, true, false, cond, not, ◌&&◌, List, [], ◌∷◌, ◌++◌, length, Option, Some, None, refl, sym, ap, ◌∙◌, subst, arith, eq-eqb}
use Rattle.std.specs.Prelude.{T, ◌==◌, unwrap_or}
use Rattle.std.specs.List.{list_all, AllByRecursion}
use Rattle.std.specs.List.Sorted.{IsStrictlySortedBy}
use Rattle.std.specs.declared.cmp.Ordering.{Ordering}
use Rattle.std.specs.declared.cmp.Ordering.TheVariants.{Less, Equal, Greater}
use Rattle.std.specs.Ordering.{nat_cmp, is_lt, is_eq, eq_by_cmp, ordering_then}
use Rattle.std.specs.Cmp.{unsigned_tied}
use Rattle.std.specs.FinMap.{find}
use Rattle.std.specs.FinMap.Entries.{below_all, find-where_key, find-put, same_entries}
use Rattle.std.specs.Map.{keys_of, lookup}
use Rattle.std.specs.BTreeMap.{is_at}
use Rattle.std.proofs.lemmas.Map.Keys.{sorted_head, sorted_tail}
use Rattle.mj_subs.specs.Name.{Name, names_eq}
use Rattle.mj_subs.specs.Collation.{name_cmp}
use Rattle.mj_subs.specs.Laws.Ties.{names_eq-name_cmp}
use Rattle.mj_locktab.specs.declared.hold.Hold.{Hold}
use Rattle.mj_locktab.specs.Locks.{Locks, hold_of, job_of, hold_cmp, count_of, IsInOrder}
use Rattle.mj_locktab.specs.Changes.{with_count, one_more, one_less}
use Rattle.mj_locktab.specs.Tries.{is_conflict, conflict_with}
use Rattle.mj_locktab.specs.Parts.{held_by, IsPart}
use Rattle.mj_locktab.proofs.Order.{hold_cmp_total, hold_cmp-IsAntisymmetric, tied-hold_of, tied_symm}
use Rattle.mj_locktab.proofs.Entries.{both, filter_absent}
use Rattle.mj_locktab.proofs.Followed.{part-one_more, part-one_less}
use Rattle.mj_locktab.proofs.Parts.{equal_job, apart, find_other}

is_Equal : (r : Ordering) → is_eq r ≡ true → r ≡ Equal
is_Equal Less e = absurd (let never : ⊥ = cc in never)
is_Equal Equal e = refl
is_Equal Greater e = absurd (let never : ⊥ = cc in never)

same_job : (job : ℕ) → nat_cmp job job ≡ Equal
same_job job = is_Equal (nat_cmp job job) (unsigned_tied job job ∙ eq-eqb job job refl)

-- ---- what is found, and in what order

-- holds of one job tie where their names do
tied_names : (job : ℕ) (m n : Name) → eq_by_cmp hold_cmp (hold_of job m) (hold_of job n) ≡ is_at (name_cmp m) n
tied_names job m n = tied-hold_of job m job n ∙ ap (λ b. b && names_eq m n) (eq-eqb job job refl) ∙ names_eq-name_cmp m n

pub find_held : (job : ℕ) (m : Name) (names : List (Name × ℕ)) → find hold_cmp (hold_of job m) (held_by job names) ≡ lookup (is_at (name_cmp m)) names
find_held job m [] = refl
find_held job m (e ∷ es) = λ i. cond (tied_names job m e.0 i) (Some e.1) (find_held job m es i)

pub own_held : (job : ℕ) (names : List (Name × ℕ)) → list_all (λ e. job_of e.0 == job) (held_by job names) ≡ true
own_held job [] = refl
own_held job (e ∷ es) = ap (λ b. b && list_all (λ e. job_of e.0 == job) (held_by job es)) (eq-eqb job job refl) ∙ own_held job es

pub length_held : (job : ℕ) (names : List (Name × ℕ)) → length (held_by job names) ≡ length names
length_held job [] = refl
length_held job (e ∷ es) = omega (arith, length_held job es)

pub append_held : (job : ℕ) (xs ys : List (Name × ℕ)) → held_by job (xs ++ ys) ≡ held_by job xs ++ held_by job ys
append_held job [] ys = refl
append_held job (x ∷ xs) ys = ap (λ (l : Locks). (hold_of job x.0, x.1) ∷ l) (append_held job xs ys)

below_held : (job : ℕ) (n : Name) (names : List (Name × ℕ)) → AllByRecursion (λ m. name_cmp n m ≡ Less) (keys_of names) → T (below_all hold_cmp (hold_of job n) (held_by job names))
below_held job n [] low = tt
below_held job n (e ∷ es) low =
    let less : hold_cmp (hold_of job n) (hold_of job e.0) ≡ Less = ap (λ r. ordering_then r (name_cmp n e.0)) (same_job job) ∙ low.0 in
    both (is_lt (hold_cmp (hold_of job n) (hold_of job e.0))) _ (subst (λ r. T (is_lt r)) (sym less) tt) (below_held job n es low.1)

pub order_held : (job : ℕ) (names : List (Name × ℕ)) → IsStrictlySortedBy name_cmp (keys_of names) → IsInOrder (held_by job names)
order_held job [] rises = tt
order_held job (e ∷ es) rises =
    both _ _ (below_held job e.0 es (sorted_head name_cmp e.0 (keys_of es) rises)) (order_held job es (sorted_tail name_cmp e.0 (keys_of es) rises))

-- a job's holds are told by what is found of each name
same_held : (job : ℕ) (one two : Locks) → IsInOrder one → IsInOrder two → list_all (λ e. job_of e.0 == job) one ≡ true → list_all (λ e. job_of e.0 == job) two ≡ true
    → ((m : Name) → find hold_cmp (hold_of job m) one ≡ find hold_cmp (hold_of job m) two) → one ≡ two
same_held job one two o p own own' same = same_entries hold_cmp hold_cmp_total hold_cmp-IsAntisymmetric one two o p (λ q. at q (q.job == job) refl) where
  at : (q : Hold) (b : Bool) → (q.job == job) ≡ b → find hold_cmp q one ≡ find hold_cmp q two
  at q true e = subst (λ (x : ℕ). find hold_cmp (hold_of x q.name) one ≡ find hold_cmp (hold_of x q.name) two) (sym (equal_job q.job job e)) (same q.name)
  at q false e = find_other job q.job q.name one own (apart q.job job e) ∙ sym (find_other job q.job q.name two own' (apart q.job job e))

-- ---- one name more or less

-- what is found of a count that is left
abbrev pub left_of : ℕ → Option ℕ
left_of zero = None
left_of (suc c) = Some (suc c)

pub left_some : (c : ℕ) → 0 < c → Some c ≡ left_of c
left_some zero up = absurd (omega (arith, up))
left_some (suc c) up = refl

turned : (b : Bool) (o : Option ℕ) → cond (not b) o None ≡ cond b None o
turned true o = refl
turned false o = refl

find-with : (c : ℕ) (locks : Locks) (job : ℕ) (n m : Name)
    → find hold_cmp (hold_of job m) (with_count locks job n c) ≡ cond (eq_by_cmp hold_cmp (hold_of job m) (hold_of job n)) (left_of c) (find hold_cmp (hold_of job m) locks)
find-with zero locks job n m =
    let q = hold_of job m in
    let k = hold_of job n in
    find-where_key hold_cmp (λ x. not (eq_by_cmp hold_cmp k x)) q (λ x tie. ap (λ (y : Hold). not (eq_by_cmp hold_cmp k y)) (sym (hold_cmp-IsAntisymmetric q x tie))) locks
    ∙ turned (eq_by_cmp hold_cmp k q) (find hold_cmp q locks)
    ∙ ap (λ b. cond b None (find hold_cmp q locks)) (tied_symm k q)
find-with (suc c) locks job n m = find-put hold_cmp hold_cmp_total (hold_of job m) (hold_of job n) (suc c) locks

-- of the name this is found, and of every other what was
abbrev pub IsWrittenAt : List (Name × ℕ) → List (Name × ℕ) → Name → Option ℕ → Type 0
IsWrittenAt old new n w = (m : Name) → lookup (is_at (name_cmp m)) new ≡ cond (is_at (name_cmp n) m) w (lookup (is_at (name_cmp m)) old)

module _ (job : ℕ) (n : Name) (old new : List (Name × ℕ)) (part : IsPart job (held_by job old)) (rises : IsStrictlySortedBy name_cmp (keys_of new)) where
  found_new : (w : Option ℕ) → IsWrittenAt old new n w → (m : Name)
      → find hold_cmp (hold_of job m) (held_by job new) ≡ cond (eq_by_cmp hold_cmp (hold_of job m) (hold_of job n)) w (find hold_cmp (hold_of job m) (held_by job old))
  found_new w written m =
      find_held job m new ∙ written m
      ∙ (λ i. cond ((sym (tied_names job n m) ∙ tied_symm (hold_of job n) (hold_of job m)) i) w (sym (find_held job m old) i))

  pub held_more : IsWrittenAt old new n (Some (count_of (held_by job old) job n + 1)) → held_by job new ≡ one_more (held_by job old) job n
  held_more written =
      let is = part-one_more job n (held_by job old) part in
      same_held job (held_by job new) (one_more (held_by job old) job n) (order_held job new rises) is.in_order (own_held job new) is.own
      (λ m. found_new _ written m ∙ sym (find-put hold_cmp hold_cmp_total (hold_of job m) (hold_of job n) (count_of (held_by job old) job n + 1) (held_by job old)))

  pub held_less : IsWrittenAt old new n (left_of (count_of (held_by job old) job n - 1)) → held_by job new ≡ one_less (held_by job old) job n
  held_less written =
      let is = part-one_less job n (held_by job old) part in
      same_held job (held_by job new) (one_less (held_by job old) job n) (order_held job new rises) is.in_order (own_held job new) is.own
      (λ m. found_new _ written m ∙ sym (find-with (count_of (held_by job old) job n - 1) (held_by job old) job n m))

  pub held_again : (c : ℕ) → find hold_cmp (hold_of job n) (held_by job old) ≡ Some c → IsWrittenAt old new n (Some c) → held_by job new ≡ held_by job old
  held_again c found written =
      same_held job (held_by job new) (held_by job old) (order_held job new rises) part.in_order (own_held job new) part.own
      (λ m. found_new (Some c) written m ∙ at m (eq_by_cmp hold_cmp (hold_of job m) (hold_of job n)) refl)
    where
      at : (m : Name) (b : Bool) → eq_by_cmp hold_cmp (hold_of job m) (hold_of job n) ≡ b
          → cond b (Some c) (find hold_cmp (hold_of job m) (held_by job old)) ≡ find hold_cmp (hold_of job m) (held_by job old)
      at m true e =
          let same : hold_of job m ≡ hold_of job n = hold_cmp-IsAntisymmetric (hold_of job m) (hold_of job n) (is_Equal (hold_cmp (hold_of job m) (hold_of job n)) e) in
          sym (ap (λ (q : Hold). find hold_cmp q (held_by job old)) same ∙ found)
      at m false e = refl

-- what is written last stays
pub written_last : (b : Bool) (w v o : Option ℕ) → cond b w (cond b v o) ≡ cond b w o
written_last true w v o = refl
written_last false w v o = refl

-- of a name that isn't found nothing is given
pub absent_less : (locks : Locks) (job : ℕ) (n : Name) → find hold_cmp (hold_of job n) locks ≡ None → locks ≡ one_less locks job n
absent_less locks job n absent =
    sym (ap (λ (o : Option ℕ). with_count locks job n (unwrap_or o 0 - 1)) absent ∙ filter_absent hold_cmp (hold_of job n) locks absent)

-- ---- what becomes of a name that is looked up

module _ (job : ℕ) (n : Name) (old : List (Name × ℕ)) where
  pub found_of : (o : Option ℕ) → o ≡ lookup (is_at (name_cmp n)) old → find hold_cmp (hold_of job n) (held_by job old) ≡ o
  found_of o there = find_held job n old ∙ sym there

  module _ (new : List (Name × ℕ)) (part : IsPart job (held_by job old)) (rises : IsStrictlySortedBy name_cmp (keys_of new)) where
    -- it wasn't there
    pub held_new : find hold_cmp (hold_of job n) (held_by job old) ≡ None → IsWrittenAt old new n (Some 1) → held_by job new ≡ one_more (held_by job old) job n
    held_new absent written =
        held_more job n old new part rises (subst (λ (c : ℕ). IsWrittenAt old new n (Some (c + 1))) (sym (ap (λ (o : Option ℕ). unwrap_or o 0) absent)) written)

    module _ (c : ℕ) (there : Some c ≡ lookup (is_at (name_cmp n)) old) where
      value : c ≡ count_of (held_by job old) job n
      value = sym (ap (λ (o : Option ℕ). unwrap_or o 0) (found_of (Some c) there))

      -- it was, and is taken once more, given up once, or left as it is
      pub held_once_more : IsWrittenAt old new n (Some (c + 1)) → held_by job new ≡ one_more (held_by job old) job n
      held_once_more written = held_more job n old new part rises (subst (λ (x : ℕ). IsWrittenAt old new n (Some (x + 1))) value written)

      pub held_once_less : 1 < c → IsWrittenAt old new n (Some (c - 1)) → held_by job new ≡ one_less (held_by job old) job n
      held_once_less more written =
          held_less job n old new part rises
          (subst (λ (o : Option ℕ). IsWrittenAt old new n o) (left_some (c - 1) (omega (arith, more)) ∙ ap (λ (x : ℕ). left_of (x - 1)) value) written)

      pub held_no_more : c ≤ 1 → IsWrittenAt old new n None → held_by job new ≡ one_less (held_by job old) job n
      held_no_more few written =
          let none : count_of (held_by job old) job n - 1 ≡ 0 = omega (arith, few, value) in
          held_less job n old new part rises (subst (λ (x : ℕ). IsWrittenAt old new n (left_of x)) (sym none) written)

      pub held_as_it_was : IsWrittenAt old new n (Some c) → held_by job new ≡ held_by job old
      held_as_it_was written = held_again job n old new part rises c (found_of (Some c) there) written

-- ---- the first conflict among a holder's names

module _ (holder job : ℕ) (n : Name) (all left rest : List (Name × ℕ)) (e : Name × ℕ) (next : left ≡ e ∷ rest)
    (same : conflict_with (held_by holder left) job n ≡ conflict_with (held_by holder all) job n) where
  pub conflict_passed : is_conflict job n (hold_of holder e.0, e.1) ≡ false → conflict_with (held_by holder rest) job n ≡ conflict_with (held_by holder all) job n
  conflict_passed not_so =
      sym (ap (λ b. cond b (Some (hold_of holder e.0, e.1)) (conflict_with (held_by holder rest) job n)) not_so)
      ∙ sym (ap (λ (es : List (Name × ℕ)). conflict_with (held_by holder es) job n) next)
      ∙ same

  pub conflict_found : is_conflict job n (hold_of holder e.0, e.1) ≡ true → Some (hold_of holder e.0, e.1) ≡ conflict_with (held_by holder all) job n
  conflict_found is_so =
      sym (ap (λ b. cond b (Some (hold_of holder e.0, e.1)) (conflict_with (held_by holder rest) job n)) is_so)
      ∙ sym (ap (λ (es : List (Name × ℕ)). conflict_with (held_by holder es) job n) next)
      ∙ same

pub conflict_nowhere : (holder job : ℕ) (n : Name) (all left : List (Name × ℕ)) → left ≡ [] → conflict_with (held_by holder left) job n ≡ conflict_with (held_by holder all) job n
    → None ≡ conflict_with (held_by holder all) job n
conflict_nowhere holder job n all left done same = sym (ap (λ (es : List (Name × ℕ)). conflict_with (held_by holder es) job n) done) ∙ same

-- a list from which nothing is taken is empty
pub nothing_there : {A : Type 0} (xs : List A) → (0 < length xs → false ≡ true) → xs ≡ []
nothing_there [] none = refl
nothing_there (x ∷ xs) none = absurd (let never : false ≡ true = none (omega arith) in cc)
