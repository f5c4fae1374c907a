-- What a change of one job's part is for all holds, and that the trees tell of them.
use Rattle.std.proofs.Common.{◌≡◌, ℕ, ◌+◌, ◌-◌, ◌≤◌, Bool, true, false, cond, not, ◌&&◌, List, [], Option, Some, None, Result, Ok, Err, OnErr, refl, sym, ap, ◌∙◌, subst, arith, eq-eqb}
use Rattle.std.specs.Prelude.{◌==◌, unwrap_or, IfOk}
use Rattle.std.specs.List.{list_any}
use Rattle.std.specs.List.Sorted.{IsStrictlySortedBy}
use Rattle.std.specs.Ordering.{nat_cmp}
use Rattle.std.specs.Cmp.{unsigned_tied}
use Rattle.std.specs.FinMap.{find}
use Rattle.std.specs.Map.{keys_of, lookup}
use Rattle.std.specs.BTreeMap.{BTreeMap, is_at}
use Rattle.mj_subs.specs.Name.{Name, names_eq}
use Rattle.mj_locktab.specs.Locks.{Locks, hold_of, job_of, hold_cmp, count_of, names_of, is_past_limit}
use Rattle.mj_locktab.specs.Changes.{with_count, one_more, one_less, after_give_all}
use Rattle.mj_locktab.specs.Tries.{TakeLeaves}
use Rattle.mj_locktab.specs.Trees.{Stand, holder_of, tally_of, along}
use Rattle.mj_locktab.specs.Told.{Tell, IsFree, Follows, follow_by}
use Rattle.mj_locktab.specs.Parts.{Parts, held_by, holds_of, part_in, part_at, IsPart, AreParts}
use Rattle.mj_locktab.proofs.Counts.{count-one_more, count-one_less, order-one_more, order-one_less, counted-one_more, counted-one_less, order-after_give_all, without}
use Rattle.mj_locktab.proofs.Entries.{any-filter, filter_absent}
use Rattle.mj_locktab.proofs.Follows.{few_tallied, no_holder_there}
use Rattle.mj_locktab.proofs.Followed.{told_more, told_less, told_same, part-one_more, part-one_less}
use Rattle.mj_locktab.proofs.Parts.{IsRefilled, unlike, find_parts, count_parts, order_parts, counted_parts, names_parts, parts_refilled, same_parts, counts_refilled, over_part}

-- what the writing through a job's part leaves
pub refilled : (old new : Parts) (job : ℕ) (part : BTreeMap Name ℕ) → lookup (is_at (nat_cmp job)) new ≡ Some part
    → ((j : ℕ) → (j ≡ job → ⊥) → lookup (is_at (nat_cmp j)) new ≡ lookup (is_at (nat_cmp j)) old) → IsRefilled old new job (held_by job part.entries)
refilled old new job part there others = record { own = ap (part_in job) there; others = λ j other. ap (part_in j) (others j other) }

-- and what taking it out leaves
pub emptied : (old new : Parts) (job : ℕ) → lookup (is_at (nat_cmp job)) new ≡ None → ((j : ℕ) → (j ≡ job → ⊥) → lookup (is_at (nat_cmp j)) new ≡ lookup (is_at (nat_cmp j)) old)
    → IsRefilled old new job []
emptied old new job there others = record { own = ap (part_in job) there; others = λ j other. ap (part_in j) (others j other) }

-- the part that is found is the job's
pub part_found : (parts : Parts) (job : ℕ) (o : Option (BTreeMap Name ℕ)) → o ≡ lookup (is_at (nat_cmp job)) parts → part_at parts job ≡ part_in job o
part_found parts job o there = sym (ap (part_in job) there)

pub other_key : (job j : ℕ) → (j ≡ job → ⊥) → is_at (nat_cmp job) j ≡ false
other_key job j other = unsigned_tied job j ∙ unlike job j (λ e. other (sym e))

module _ (old new : Parts) (job : ℕ) (n : Name) (part : Locks) (are : AreParts old) (change : IsRefilled old new job part) (rises : IsStrictlySortedBy nat_cmp (keys_of new)) where
  -- once more
  pub got : part ≡ one_more (part_at old job) job n → AreParts new × (holds_of new ≡ one_more (holds_of old) job n)
  got is =
      let are' = parts_refilled old new job part change are rises (subst (IsPart job) (sym is) (part-one_more job n (part_at old job) (are.each job))) in (
        are',
        same_parts new (one_more (holds_of old) job n) are' (order-one_more (holds_of old) job n (order_parts old are)) (counted-one_more (holds_of old) job n (counted_parts old are))
            (counts_refilled old new (one_more (holds_of old) job n) job part are change mine others),
      )
    where
      mine : (m : Name) → count_of part job m ≡ count_of (one_more (holds_of old) job n) job m
      mine m =
          ap (λ (l : Locks). count_of l job m) is
          ∙ count-one_more (part_at old job) job n job m
          ∙ ap (λ (x : ℕ). x + cond (job == job && names_eq m n) 1 0) (sym (count_parts old are job m))
          ∙ sym (count-one_more (holds_of old) job n job m)

      others : (j : ℕ) (m : Name) → (j ≡ job → ⊥) → count_of (one_more (holds_of old) job n) j m ≡ count_of (holds_of old) j m
      others j m other =
          let same = count-one_more (holds_of old) job n j m in
          let none : ◌≡◌ {A = ℕ} (cond (j == job && names_eq m n) 1 0) 0 = ap (λ b. cond (b && names_eq m n) 1 0) (unlike j job other) in
          omega (arith, same, none)

  -- once less
  pub given : part ≡ one_less (part_at old job) job n → AreParts new × (holds_of new ≡ one_less (holds_of old) job n)
  given is =
      let are' = parts_refilled old new job part change are rises (subst (IsPart job) (sym is) (part-one_less job n (part_at old job) (are.each job))) in (
        are',
        same_parts new (one_less (holds_of old) job n) are' (order-one_less (holds_of old) job n (order_parts old are)) (counted-one_less (holds_of old) job n (counted_parts old are))
            (counts_refilled old new (one_less (holds_of old) job n) job part are change mine others),
      )
    where
      mine : (m : Name) → count_of part job m ≡ count_of (one_less (holds_of old) job n) job m
      mine m =
          ap (λ (l : Locks). count_of l job m) is
          ∙ count-one_less (part_at old job) job n job m
          ∙ ap (λ (x : ℕ). x - cond (job == job && names_eq m n) 1 0) (sym (count_parts old are job m))
          ∙ sym (count-one_less (holds_of old) job n job m)

      others : (j : ℕ) (m : Name) → (j ≡ job → ⊥) → count_of (one_less (holds_of old) job n) j m ≡ count_of (holds_of old) j m
      others j m other =
          let same = count-one_less (holds_of old) job n j m in
          let none : ◌≡◌ {A = ℕ} (cond (j == job && names_eq m n) 1 0) 0 = ap (λ b. cond (b && names_eq m n) 1 0) (unlike j job other) in
          omega (arith, same, none)

  -- as before
  pub kept : part ≡ part_at old job → AreParts new × (holds_of new ≡ holds_of old)
  kept is =
      let are' = parts_refilled old new job part change are rises (subst (IsPart job) (sym is) (are.each job)) in (
        are',
        same_parts new (holds_of old) are' (order_parts old are) (counted_parts old are)
            (counts_refilled old new (holds_of old) job part are change (λ m. ap (λ (l : Locks). count_of l job m) is ∙ sym (count_parts old are job m)) (λ j m other. refl)),
      )

  -- the trees follow all as they follow the part
  follows_all : (s t : Name → Option Stand) → AreParts new → Follows s t (part_at old job) part job n → Follows s t (holds_of old) (holds_of new) job n
  follows_all s t are' f =
      subst (λ (o : Option ℕ). follow_by o (find hold_cmp (hold_of job n) (holds_of new)) s t job n) (sym (find_parts old are job n))
      (subst (λ (o : Option ℕ). follow_by (find hold_cmp (hold_of job n) (part_at old job)) o s t job n)
      (sym (find_parts new are' job n ∙ ap (λ (l : Locks). find hold_cmp (hold_of job n) l) change.own)) f)

  module _ (s t : Name → Option Stand) (told : Tell s (holds_of old)) (follows : Follows s t (part_at old job) part job n) where
    -- what a take of the name leaves, got or not, or refused
    pub taken_all : {E : Type 0} (r : Result Bool E) → IsFree (holds_of old) job n → is_past_limit (holds_of old) job ≡ false
        → IfOk r (λ taken. TakeLeaves (part_at old job) (one_more (part_at old job) job n) job taken part) → OnErr r (part ≡ part_at old job)
        → (IfOk r (λ taken. TakeLeaves (holds_of old) (one_more (holds_of old) job n) job taken (holds_of new)) × OnErr r (holds_of new ≡ holds_of old)) × (AreParts new × Tell t (holds_of new))
    taken_all (Ok true) free within ok err =
        let all = got ok.0 in (
          ((all.1, sym (over_part old job n are within).1 ∙ ok.1), tt),
          (
            all.0,
            subst (Tell t) (sym all.1)
                (told_more s t (holds_of old) job n (order_parts old are) (counted_parts old are) told free
                (subst (λ (l : Locks). Follows s t (holds_of old) l job n) all.1 (follows_all s t all.0 follows))),
          ),
        )
    taken_all (Ok false) free within ok err =
        let all = kept ok.0 in (
          ((all.1, sym (over_part old job n are within).1 ∙ ok.1), tt),
          (
            all.0,
            subst (Tell t) (sym all.1)
                (told_same s t (holds_of old) job n (order_parts old are) (counted_parts old are) told
                (subst (λ (l : Locks). Follows s t (holds_of old) l job n) all.1 (follows_all s t all.0 follows))),
          ),
        )
    taken_all (Err e) free within ok err =
        let all = kept err in (
          (tt, all.1),
          (
            all.0,
            subst (Tell t) (sym all.1)
                (told_same s t (holds_of old) job n (order_parts old are) (counted_parts old are) told
                (subst (λ (l : Locks). Follows s t (holds_of old) l job n) all.1 (follows_all s t all.0 follows))),
          ),
        )

    pub given_all : part ≡ one_less (part_at old job) job n → (holds_of new ≡ one_less (holds_of old) job n) × (AreParts new × Tell t (holds_of new))
    given_all is =
        let all = given is in (
          all.1,
          (
            all.0,
            subst (Tell t) (sym all.1)
                (told_less s t (holds_of old) job n (order_parts old are) (counted_parts old are) told
                (subst (λ (l : Locks). Follows s t (holds_of old) l job n) all.1 (follows_all s t all.0 follows))),
          ),
        )

-- ---- what the job's part may ask for

pub room_there : (s : Name → Option Stand) (parts : Parts) (job : ℕ) (n : Name) → AreParts parts → Tell s (holds_of parts)
    → (p : List (List ℕ)) → tally_of (along s n p) job ≤ names_of (part_at parts job) job
room_there s parts job n are told p =
    let few = few_tallied s (holds_of parts) job n p told in
    let same = names_parts parts are job in
    omega (arith, few, same)

pub free_there : (s : Name → Option Stand) (parts : Parts) (job : ℕ) (n : Name) → AreParts parts → Tell s (holds_of parts) → IsFree (holds_of parts) job n
    → find hold_cmp (hold_of job n) (part_at parts job) ≡ None → holder_of (s n) ≡ None
free_there s parts job n are told free none = no_holder_there s (holds_of parts) job n told free (find_parts parts are job n ∙ none)

-- ---- a job that is taken out

pub parts_without : (old new : Parts) (job : ℕ) → AreParts old → IsRefilled old new job [] → IsStrictlySortedBy nat_cmp (keys_of new)
    → AreParts new × (holds_of new ≡ after_give_all (holds_of old) job)
parts_without old new job are change rises =
    let are' = parts_refilled old new job [] change are rises (record { in_order = tt; counted = refl; own = refl }) in (
      are',
      same_parts new (after_give_all (holds_of old) job) are' (order-after_give_all (holds_of old) job (order_parts old are)) counted
          (counts_refilled old new (after_give_all (holds_of old) job) job [] are change mine others),
    )
  where
    counted : list_any (λ e. e.1 == 0) (after_give_all (holds_of old) job) ≡ false
    counted = any-filter hold_cmp (λ v. v == 0) (λ e. not (job_of e.0 == job)) (holds_of old) (counted_parts old are)

    mine : (m : Name) → count_of [] job m ≡ count_of (after_give_all (holds_of old) job) job m
    mine m = sym (without (holds_of old) job job m ∙ ap (λ b. cond b 0 (count_of (holds_of old) job m)) (eq-eqb job job refl))

    others : (j : ℕ) (m : Name) → (j ≡ job → ⊥) → count_of (after_give_all (holds_of old) job) j m ≡ count_of (holds_of old) j m
    others j m other = without (holds_of old) job j m ∙ ap (λ b. cond b 0 (count_of (holds_of old) j m)) (unlike j job other)

-- ---- an empty part that is put in

pub parts_opened : (old new : Parts) (job : ℕ) (part : BTreeMap Name ℕ) → AreParts old → part.entries ≡ [] → lookup (is_at (nat_cmp job)) old ≡ None
    → IsRefilled old new job (held_by job part.entries)
    → IsStrictlySortedBy nat_cmp (keys_of new) → AreParts new × (holds_of new ≡ holds_of old)
parts_opened old new job part are empty none change rises =
    kept old new job (record { global = true; word = []; subscripts = [] }) (held_by job part.entries) are change rises
    (ap (held_by job) empty ∙ sym (ap (part_in job) none))

-- ---- a job without holds

pub given_none : (parts : Parts) (job : ℕ) (n : Name) → AreParts parts → part_at parts job ≡ [] → holds_of parts ≡ one_less (holds_of parts) job n
given_none parts job n are empty =
    let none : find hold_cmp (hold_of job n) (holds_of parts) ≡ None = find_parts parts are job n ∙ ap (λ (l : Locks). find hold_cmp (hold_of job n) l) empty in
    sym (ap (λ (o : Option ℕ). with_count (holds_of parts) job n (unwrap_or o 0 - 1)) none ∙ filter_absent hold_cmp (hold_of job n) (holds_of parts) none)
