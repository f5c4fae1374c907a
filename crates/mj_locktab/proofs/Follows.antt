-- The trees follow the holds: what they tell after each change of a hold.
use Rattle.std.proofs.Common.{◌≡◌, ℕ, zero, suc, ◌+◌, ◌<◌, ◌≤◌, ◌↔◌, Bool, true, false, cond, not, ◌&&◌, List, [], ◌∷◌, length, get_or, take, Option, Some, None, inl, refl, sym, ap, ◌∙◌, subst, arith, eq-eqb, eqb→eq, count_by}
use Rattle.std.specs.Prelude.{T, ◌==◌, unwrap_or}
use Rattle.std.specs.List.{filter}
use Rattle.std.specs.Ordering.{is_eq, eq_by_cmp}
use Rattle.std.specs.FinMap.{find, put}
use Rattle.std.specs.FinMap.Entries.{find-where_key, find-put}
use Rattle.std.proofs.lemmas.Cmp.{tied_itself}
use Rattle.std.proofs.lemmas.List.Sums.{sum_by-cons}
use Rattle.mj_subs.specs.Name.{Name, names_eq}
use Rattle.mj_subs.specs.Laws.Tests.{names_eq-Decides}
use Rattle.mj_locktab.specs.declared.hold.Hold.{Hold}
use Rattle.mj_locktab.specs.Locks.{Locks, hold_of, job_of, name_of, hold_cmp, count_of, names_of, IsInOrder}
use Rattle.mj_locktab.specs.Changes.{after_take}
use Rattle.mj_locktab.specs.Tries.{AreFree}
use Rattle.mj_locktab.specs.Trees.{Stand, holder_of, tally_of, is_at_or_above, along, AreAlike, HasOneMore, HasOneLess}
use Rattle.mj_locktab.specs.Told.{Tell, IsFree}
use Rattle.mj_locktab.proofs.Order.{hold_cmp_total, hold_cmp-IsAntisymmetric}
use Rattle.mj_locktab.proofs.Entries.{count-put_new, count-put_other, count-put_found, any-put_no, found_no}
use Rattle.mj_locktab.proofs.Counts.{IsCounted, count-put, count-without, order-put, rises, same_locks, above_none, counted-with, order-with}

equal_job : (j k : ℕ) → (j == k) ≡ true → j ≡ k
equal_job j k e = eqb→eq j k (subst T (sym e) tt)

-- an equation of jobs is tested alike both ways
swapped_job : (j k : ℕ) → (j == k) ≡ (k == j)
swapped_job j k = at (j == k) (k == j) refl refl where
  at : (a b : Bool) → (j == k) ≡ a → (k == j) ≡ b → (j == k) ≡ (k == j)
  at true b e f = e ∙ sym (eq-eqb k j (sym (equal_job j k e)))
  at false true e f = absurd (let is_so : (j == k) ≡ true = eq-eqb j k (sym (equal_job k j f)) in let never : ⊥ = cc in never)
  at false false e f = e ∙ sym f

swapped : (a : Bool) (j job : ℕ) → (job == j && a) ≡ (a && j == job)
swapped true j job = last (job == j) ∙ swapped_job job j where
  last : (b : Bool) → (b && true) ≡ b
  last true = refl
  last false = refl
swapped false j job = last (job == j) where
  last : (b : Bool) → (b && false) ≡ false
  last true = refl
  last false = refl

above_zero : (n : ℕ) → (n == 0) ≡ false → 0 < n
above_zero zero e = absurd (let never : ⊥ = cc in never)
above_zero (suc n) e = omega arith

-- the holds that a tally counts
abbrev tallied : Name → ℕ → Hold → Bool
tallied m j h = job_of h == j && is_at_or_above m (name_of h)

count-put_if : (g : Hold → Bool) (h : Hold) (v : ℕ) (locks : Locks) → find hold_cmp h locks ≡ None → count_by (λ e. g e.0) (put hold_cmp h v locks) ≡ count_by (λ e. g e.0) locks + cond (g h) 1 0
count-put_if g h v locks none = at (g h) refl where
  at : (b : Bool) → g h ≡ b → count_by (λ e. g e.0) (put hold_cmp h v locks) ≡ count_by (λ e. g e.0) locks + cond b 1 0
  at true e = count-put_new hold_cmp g h v locks e none
  at false e = let same = count-put_other hold_cmp g h v locks e in omega (arith, same)

-- a holder and a count that are told by others
by_both : (x y : Option ℕ) (j c d : ℕ) → x ≡ y → c ≡ d → ((y ≡ Some j) ↔ (0 < d)) → ((x ≡ Some j) ↔ (0 < c))
by_both x y j c d same equal told = (λ e. subst (λ (n : ℕ). 0 < n) (sym equal) (told.0 (sym same ∙ e)), λ up. same ∙ told.1 (subst (λ (n : ℕ). 0 < n) equal up))

-- without the hold it isn't found
pub gone : (locks : Locks) (job : ℕ) (n : Name) → find hold_cmp (hold_of job n) (filter (λ e. not (eq_by_cmp hold_cmp (hold_of job n) e.0)) locks) ≡ None
gone locks job n =
    find-where_key hold_cmp (λ x. not (eq_by_cmp hold_cmp (hold_of job n) x)) (hold_of job n)
    (λ x tie. ap (λ (y : Hold). not (eq_by_cmp hold_cmp (hold_of job n) y)) (sym (hold_cmp-IsAntisymmetric (hold_of job n) x tie))) locks
    ∙ ap (λ b. cond (not b) (find hold_cmp (hold_of job n) locks) None) (ap is_eq (tied_itself hold_cmp_total (hold_of job n)))

-- and with another count it is found so
pub found_put : (locks : Locks) (job : ℕ) (n : Name) (v : ℕ) → find hold_cmp (hold_of job n) (put hold_cmp (hold_of job n) v locks) ≡ Some v
found_put locks job n v =
    find-put hold_cmp hold_cmp_total (hold_of job n) (hold_of job n) v locks
    ∙ ap (λ b. cond b (Some v) (find hold_cmp (hold_of job n) locks)) (ap is_eq (tied_itself hold_cmp_total (hold_of job n)))

-- ---- what is told alike

-- one more, and the same less again
pub more_and_less : (s t u : Name → Option Stand) (job : ℕ) (n : Name) → holder_of (s n) ≡ None → HasOneMore s t (λ m. names_eq m n) (λ m. is_at_or_above m n) job
    → HasOneLess t u (λ m. names_eq m n) (λ m. is_at_or_above m n) job → AreAlike s u
more_and_less s t u job n none more less = record {
  holders = λ m. less.holders m ∙ ap (λ (o : Option ℕ). cond (names_eq m n) None o) (more.holders m) ∙ at m (names_eq m n) refl;
  tallies = λ m j. let up = more.tallies m j in let down = less.tallies m j in omega (arith, up, down);
} where
  at : (m : Name) (b : Bool) → names_eq m n ≡ b → cond b None (cond b (Some job) (holder_of (s m))) ≡ holder_of (s m)
  at m true e = sym (ap (λ (x : Name). holder_of (s x)) ((names_eq-Decides m n).0 e) ∙ none)
  at m false e = refl

pub told_alike : (s t : Name → Option Stand) (locks : Locks) → AreAlike s t → Tell s locks → Tell t locks
told_alike s t locks alike told = record {
  holders = λ n j. by_both (holder_of (t n)) (holder_of (s n)) j (count_of locks j n) (count_of locks j n) (alike.holders n) refl (told.holders n j);
  tallies = λ n j. alike.tallies n j ∙ told.tallies n j;
}

pub told_none : (s : Name → Option Stand) → AreAlike (λ n. None) s → Tell s []
told_none s bare = record {
  holders = λ n j. by_both (holder_of (s n)) None j 0 0 (bare.holders n) refl (λ e. absurd (let never : ⊥ = cc in never), λ up. absurd (omega (arith, up)));
  tallies = λ n j. bare.tallies n j;
}

module _ (s : Name → Option Stand) (locks : Locks) (job : ℕ) (n : Name) (told : Tell s locks) where
  -- where no job holds the name, none stands there
  pub no_holder_there : IsFree locks job n → find hold_cmp (hold_of job n) locks ≡ None → holder_of (s n) ≡ None
  no_holder_there free none = at (holder_of (s n)) refl where
    here : count_of locks job n ≡ 0
    here = ap (λ (o : Option ℕ). unwrap_or o 0) none

    at : (o : Option ℕ) → holder_of (s n) ≡ o → o ≡ None
    at None e = refl
    at (Some j) e = absurd (by (j == job) refl) where
      up : 0 < count_of locks j n
      up = (told.holders n j).0 e

      by : (b : Bool) → (j == job) ≡ b → ⊥
      by true f = let same : count_of locks j n ≡ count_of locks job n = ap (λ (x : ℕ). count_of locks x n) (equal_job j job f) in omega (arith, up, same, here)
      by false f = let zero' = free j (λ e'. let is_so : (j == job) ≡ true = eq-eqb j job e' in let never : ⊥ = cc in never) in omega (arith, up, zero')

  -- ---- a hold that is new

  pub told_new : (t : Name → Option Stand) (v : ℕ) → 0 < v → IsFree locks job n → find hold_cmp (hold_of job n) locks ≡ None
      → HasOneMore s t (λ m. names_eq m n) (λ m. is_at_or_above m n) job → Tell t (put hold_cmp (hold_of job n) v locks)
  told_new t v some free none more = record {
    holders = λ m j. by_both _ _ j _ _ (more.holders m) (count-put locks job v n j m) (at m j (names_eq m n) (j == job) refl refl);
    tallies = λ m j.
        more.tallies m j
        ∙ ap (λ (x : ℕ). x + cond (is_at_or_above m n && j == job) 1 0) (told.tallies m j)
        ∙ ap (λ b. count_by (λ e. tallied m j e.0) locks + cond b 1 0) (sym (swapped (is_at_or_above m n) j job))
        ∙ sym (count-put_if (tallied m j) (hold_of job n) v locks none);
  } where
    at : (m : Name) (j : ℕ) (b c : Bool) → names_eq m n ≡ b → (j == job) ≡ c → ((cond b (Some job) (holder_of (s m)) ≡ Some j) ↔ (0 < cond (c && b) v (count_of locks j m)))
    at m j true true e f = (λ _. some, λ _. ap (λ (x : ℕ). Some x) (sym (equal_job j job f)))
    at m j true false e f = (
      λ h. absurd (let same : job ≡ j = cc in let is_so : (j == job) ≡ true = eq-eqb j job (sym same) in let never : ⊥ = cc in never),
      λ up. absurd (
          let zero' = free j (λ e'. let is_so : (j == job) ≡ true = eq-eqb j job e' in let never : ⊥ = cc in never) in
          let same : count_of locks j m ≡ count_of locks j n = ap (λ (x : Name). count_of locks j x) ((names_eq-Decides m n).0 e) in
          omega (arith, up, zero', same)),
    )
    at m j false true e f = told.holders m j
    at m j false false e f = told.holders m j

  -- ---- a hold that is there

  module _ (c : ℕ) (order : IsInOrder locks) (counted : IsCounted locks) (found : find hold_cmp (hold_of job n) locks ≡ Some c) where
    pub some_held : 0 < c
    some_held = above_zero c (found_no hold_cmp (λ v. v == 0) (hold_of job n) c locks counted found)

    held_here : 0 < count_of locks job n
    held_here = let is : count_of locks job n ≡ c = ap (λ (o : Option ℕ). unwrap_or o 0) found in omega (arith, is, some_held)

    -- with another count the same is told
    pub told_again : (v : ℕ) → 0 < v → Tell s (put hold_cmp (hold_of job n) v locks)
    told_again v some = record {
      holders = λ m j. by_both (holder_of (s m)) (holder_of (s m)) j _ _ refl (count-put locks job v n j m) (at m j (names_eq m n) (j == job) refl refl);
      tallies = λ m j. told.tallies m j ∙ sym (count-put_found hold_cmp hold_cmp_total (tallied m j) (hold_of job n) v c locks order found);
    } where
      at : (m : Name) (j : ℕ) (b d : Bool) → names_eq m n ≡ b → (j == job) ≡ d → ((holder_of (s m) ≡ Some j) ↔ (0 < cond (d && b) v (count_of locks j m)))
      at m j true true e f = (
        λ _. some,
        λ _. (told.holders m j).1 (subst (λ (x : ℕ). 0 < x)
            (ap (λ (x : ℕ). count_of locks x n) (sym (equal_job j job f)) ∙ ap (λ (x : Name). count_of locks j x) (sym ((names_eq-Decides m n).0 e))) held_here),
      )
      at m j true false e f = told.holders m j
      at m j false true e f = told.holders m j
      at m j false false e f = told.holders m j

    less : Locks
    less = filter (λ e. not (eq_by_cmp hold_cmp (hold_of job n) e.0)) locks

    -- with the hold they are again what they were
    with_it : put hold_cmp (hold_of job n) c less ≡ locks
    unfolding less
    with_it =
        same_locks (put hold_cmp (hold_of job n) c less) locks (order-put less (hold_of job n) c (order-with 0 locks job n order)) order
        (any-put_no hold_cmp (λ v. v == 0) (hold_of job n) c less (above_none c some_held) (counted-with 0 locks job n counted)) counted
        (λ j m. count-put less job c n j m ∙ ap (λ (x : ℕ). cond (j == job && names_eq m n) c x) (count-without locks job n j m) ∙ at j m (j == job) (names_eq m n) refl refl) where
          at : (j : ℕ) (m : Name) (a b : Bool) → (j == job) ≡ a → names_eq m n ≡ b → cond (a && b) c (cond (a && b) 0 (count_of locks j m)) ≡ count_of locks j m
          at j m true true e f =
              ap (λ (o : Option ℕ). unwrap_or o 0) (sym found)
              ∙ ap (λ (x : ℕ). count_of locks x n) (sym (equal_job j job e)) ∙ ap (λ (x : Name). count_of locks j x) (sym ((names_eq-Decides m n).0 f))
          at j m true false e f = refl
          at j m false b e f = refl

    -- without it the job holds one name less
    pub told_gone : (t : Name → Option Stand) → HasOneLess s t (λ m. names_eq m n) (λ m. is_at_or_above m n) job
        → Tell t (filter (λ e. not (eq_by_cmp hold_cmp (hold_of job n) e.0)) locks)
    unfolding less
    told_gone t fewer = record {
      holders = λ m j. by_both _ _ j _ _ (fewer.holders m) (count-without locks job n j m) (at m j (names_eq m n) (j == job) refl refl);
      tallies = λ m j.
          let was : count_by (λ e. tallied m j e.0) locks ≡ count_by (λ e. tallied m j e.0) less + cond (is_at_or_above m n && j == job) 1 0 =
          ap (λ (l : Locks). count_by (λ e. tallied m j e.0) l) (sym with_it)
          ∙ count-put_if (tallied m j) (hold_of job n) c less (gone locks job n)
          ∙ ap (λ b. count_by (λ e. tallied m j e.0) less + cond b 1 0) (swapped (is_at_or_above m n) j job) in
          let now = fewer.tallies m j in
          let before = told.tallies m j in
          omega (arith, was, now, before);
    } where
      at : (m : Name) (j : ℕ) (b d : Bool) → names_eq m n ≡ b → (j == job) ≡ d → ((cond b None (holder_of (s m)) ≡ Some j) ↔ (0 < cond (d && b) 0 (count_of locks j m)))
      at m j true true e f = (λ h. absurd (let never : ⊥ = cc in never), λ up. absurd (omega (arith, up)))
      at m j true false e f = (
        λ h. absurd (let never : ⊥ = cc in never),
        λ up. absurd (
            let same = (names_eq-Decides m n).0 e in
            let mine : holder_of (s m) ≡ Some job = ap (λ (x : Name). holder_of (s x)) same ∙ (told.holders n job).1 held_here in
            let its : holder_of (s m) ≡ Some j = (told.holders m j).1 up in
            let one : job ≡ j = cc in
            let is_so : (j == job) ≡ true = eq-eqb j job (sym one) in
            let never : ⊥ = cc in never),
      )
      at m j false true e f = told.holders m j
      at m j false false e f = told.holders m j

-- ---- how many names a tally can count

count_both : (f g : Hold → Bool) (locks : Locks) → count_by (λ e. f e.0 && g e.0) locks ≤ count_by (λ e. f e.0) locks
count_both f g [] = omega arith
count_both f g (e ∷ es) =
    at (count_both f g es) (f e.0) (g e.0) (sum_by-cons (λ (x : Hold × ℕ). cond (f x.0 && g x.0) 1 0) e es) (sum_by-cons (λ (x : Hold × ℕ). cond (f x.0) 1 0) e es)
  where
    at : count_by (λ x. f x.0 && g x.0) es ≤ count_by (λ x. f x.0) es → (a b : Bool) → count_by (λ x. f x.0 && g x.0) (e ∷ es) ≡ cond (a && b) 1 0 + count_by (λ x. f x.0 && g x.0) es
        → count_by (λ x. f x.0) (e ∷ es) ≡ cond a 1 0 + count_by (λ x. f x.0) es → count_by (λ x. f x.0 && g x.0) (e ∷ es) ≤ count_by (λ x. f x.0) (e ∷ es)
    at rest true true p q = omega (arith, p, q, rest)
    at rest true false p q = omega (arith, p, q, rest)
    at rest false b p q = omega (arith, p, q, rest)

pub few_tallied : (s : Name → Option Stand) (locks : Locks) (job : ℕ) (n : Name) (p : List (List ℕ)) → Tell s locks → tally_of (along s n p) job ≤ names_of locks job
few_tallied s locks job n p told =
    let m : Name = record { global = n.global; word = n.word; subscripts = p } in
    let is = told.tallies m job in
    omega (arith, is, count_both (λ h. job_of h == job) (λ h. is_at_or_above m (name_of h)) locks)

-- ---- names that are asked for stay free of other jobs

pub free_at : (locks : Locks) (job : ℕ) (names : List Name) (i : ℕ) (n : Name) → AreFree locks job names → i < length names → n ≡ get_or names i n → IsFree (after_take locks job (take i names)) job n
free_at locks job names i n are_free lt here = λ k other. at k other (count_of locks k n) refl (k == job) refl (rises locks job (take i names) k n) where
  at : (k : ℕ) → (k ≡ job → ⊥) → (c : ℕ) → count_of locks k n ≡ c → (b : Bool) → (k == job) ≡ b
      → count_of (after_take locks job (take i names)) k n ≡ count_of locks k n + cond b (count_by (names_eq n) (take i names)) 0 → count_of (after_take locks job (take i names)) k n ≡ 0
  at k other zero e true f up = absurd (other (equal_job k job f))
  at k other zero e false f up = omega (arith, up, e)
  at k other (suc c) e b f up = absurd (are_free k n (record { other = other; held = omega (arith, e); asked = n; among = (i, lt, sym here); overlap = inl refl }))
