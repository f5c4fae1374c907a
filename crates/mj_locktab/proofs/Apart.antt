-- Which names are in the way of others, and that those of different jobs stay apart.
use Rattle.std.proofs.Common.{◌≡◌, ℕ, zero, suc, ◌+◌, ◌<◌, Bool, true, false, cond, not, ◌&&◌, List, [], ◌∷◌, length, get_or, Option, Some, None, ◌⊎◌, inl, inr, refl, sym, ap, ◌∙◌, subst, arith, eqb→eq, eq-eqb, count_by}
use Rattle.std.specs.Prelude.{T, ◌==◌, unwrap_or}
use Rattle.std.specs.Option.{option_or}
use Rattle.std.specs.List.{Contains}
use Rattle.std.specs.declared.cmp.Ordering.{Ordering}
use Rattle.std.specs.declared.cmp.Ordering.TheVariants.{Less, Equal, Greater}
use Rattle.std.specs.Ordering.{is_eq, eq_by_cmp}
use Rattle.std.specs.FinMap.{find}
use Rattle.std.proofs.lemmas.Cmp.{tied_itself}
use Rattle.std.proofs.lemmas.List.Sums.{sum_by-cons}
use Rattle.mj_subs.specs.Name.{Name, names_eq, overlaps, Overlaps}
use Rattle.mj_subs.specs.Laws.Tests.{overlaps-Decides, names_eq-Decides}
use Rattle.mj_locktab.specs.declared.hold.Hold.{Hold}
use Rattle.mj_locktab.specs.Locks.{Locks, hold_of, job_of, name_of, hold_cmp, count_of, LocksApart}
use Rattle.mj_locktab.specs.Changes.{after_take, after_give, after_give_all, places_of}
use Rattle.mj_locktab.specs.Tries.{is_conflict, conflict_with, conflict_of, IsInTheWay, AreFree}
use Rattle.mj_locktab.proofs.Order.{hold_cmp_total, hold_cmp-IsAntisymmetric}
use Rattle.mj_locktab.proofs.Counts.{IsCounted, rises, falls, without}
use Rattle.mj_locktab.proofs.Entries.{neither}

-- ---- holds and counts

both : (a b : Bool) → (a && b) ≡ true → (a ≡ true) × (b ≡ true)
both true true e = (refl, refl)
both true false e = absurd (let never : ⊥ = cc in never)
both false b e = absurd (let never : ⊥ = cc in never)

other_job : (j job : ℕ) → not (j == job) ≡ true → j ≡ job → ⊥
other_job j job e same = let mine : (j == job) ≡ true = eq-eqb j job same in let never : ⊥ = cc in never

other_true : (j job : ℕ) → (j ≡ job → ⊥) → not (j == job) ≡ true
other_true j job other = at (j == job) refl where
  at : (b : Bool) → (j == job) ≡ b → not (j == job) ≡ true
  at true e = absurd (other (eqb→eq j job (subst T (sym e) tt)))
  at false e = ap not e

overlap_back : (m n : Name) → Overlaps m n → Overlaps n m
overlap_back m n (inl e) = inl (sym e)
overlap_back m n (inr (inl a)) = inr (inr a)
overlap_back m n (inr (inr a)) = inr (inl a)

above_zero : (n : ℕ) → (n == 0) ≡ false → 0 < n
above_zero zero e = absurd (let never : ⊥ = cc in never)
above_zero (suc n) e = omega arith

pub among-cons : (e : Hold × ℕ) (locks : Locks) (h : Hold) → (e.1 == 0) ≡ false → 0 < count_of locks h.job h.name → 0 < count_of (e ∷ locks) h.job h.name
among-cons e locks h some below =
    elim (eq_by_cmp hold_cmp (hold_of h.job h.name) e.0) as (λ b. 0 < unwrap_or (cond b (Some e.1) (find hold_cmp (hold_of h.job h.name) locks)) 0) [
      | true ↦ above_zero e.1 some
      | false ↦ below
    ]

pub among-head : (e : Hold × ℕ) (locks : Locks) → (e.1 == 0) ≡ false → 0 < count_of (e ∷ locks) e.0.job e.0.name
among-head e locks some =
    let tie : eq_by_cmp hold_cmp (hold_of e.0.job e.0.name) e.0 ≡ true = ap is_eq (tied_itself hold_cmp_total e.0) in
    let P : Bool → Type 0 = λ b. 0 < unwrap_or (cond b (Some e.1) (find hold_cmp (hold_of e.0.job e.0.name) locks)) 0 in
    subst P (sym tie) (above_zero e.1 some)

-- ---- what is in the way of a name

-- what is found is another job's hold of a name that overlaps
unfoldable pub Conflicts : Locks → ℕ → Name → Hold × ℕ → Type 0
Conflicts locks job n e = (e.0.job ≡ job → ⊥) × (0 < count_of locks e.0.job e.0.name) × Overlaps e.0.name n

pub conflicts : (locks : Locks) (job : ℕ) (n : Name) (e : Hold × ℕ) → IsCounted locks → conflict_with locks job n ≡ Some e → Conflicts locks job n e
unfolding Conflicts
conflicts [] job n e c f = absurd (let never : ⊥ = cc in never)
conflicts (g ∷ locks) job n e c f =
    let cs = neither (g.1 == 0) _ c in
    elim (is_conflict job n g) as (λ b. is_conflict job n g ≡ b → cond b (Some g) (conflict_with locks job n) ≡ Some e → Conflicts (g ∷ locks) job n e) [
      | true ↦ λ is h.
          let same : g ≡ e = cc in
          let t = both _ _ is in
          subst (Conflicts (g ∷ locks) job n) same (other_job g.0.job job t.0, among-head g locks cs.0, (overlaps-Decides g.0.name n).0 t.1)
      | false ↦ λ is h.
          let r = conflicts locks job n e cs.1 h in
          (r.0, among-cons g locks e.0 cs.0 r.1, r.2)
    ] refl f

-- where none is found, no other job holds a name that overlaps
pub free : (locks : Locks) (job : ℕ) (n : Name) → conflict_with locks job n ≡ None → (j : ℕ) (m : Name) → (j ≡ job → ⊥) → 0 < count_of locks j m → Overlaps m n → ⊥
free [] job n none j m other held over = omega (arith, held)
free (g ∷ locks) job n none j m other held over =
    elim (is_conflict job n g) as (λ b. is_conflict job n g ≡ b → cond b (Some g) (conflict_with locks job n) ≡ None → ⊥) [
      | true ↦ λ is h. let never : ⊥ = cc in never
      | false ↦ λ is h.
          elim (eq_by_cmp hold_cmp (hold_of j m) g.0) as (λ b. eq_by_cmp hold_cmp (hold_of j m) g.0 ≡ b → 0 < unwrap_or (cond b (Some g.1) (find hold_cmp (hold_of j m) locks)) 0 → ⊥) [
            | true ↦ λ tie up.
                let same : hold_of j m ≡ g.0 = hold_cmp-IsAntisymmetric (hold_of j m) g.0 (tied _ tie) in
                let P : Hold → Type 0 = λ (x : Hold). (not (job_of x == job) && overlaps (name_of x) n) ≡ false in
                let here : (not (j == job) && overlaps m n) ≡ false = subst P (sym same) is in
                let there : (not (j == job) && overlaps m n) ≡ true = ap (λ b. b && overlaps m n) (other_true j job other) ∙ (overlaps-Decides m n).1 over in
                let never : ⊥ = cc in never
            | false ↦ λ tie up. free locks job n h j m other up over
          ] refl held
    ] refl none
  where
    tied : (r : Ordering) → is_eq r ≡ true → r ≡ Equal
    tied Less e = absurd (let never : ⊥ = cc in never)
    tied Equal e = refl
    tied Greater e = absurd (let never : ⊥ = cc in never)

-- ---- of a list of names

contains-head : (n : Name) (names : List Name) → Contains (n ∷ names) n
contains-head n names = (0, omega arith, refl)

contains-tail : (n m : Name) (names : List Name) → Contains names m → Contains (n ∷ names) m
contains-tail n m names c = (suc c.0, omega (arith, c.1), c.2)

pub in_the_way : (locks : Locks) (job : ℕ) (names : List Name) (e : Hold × ℕ) → IsCounted locks → conflict_of locks job names ≡ Some e → IsInTheWay locks job names e.0.job e.0.name
unfolding Conflicts
in_the_way locks job [] e c f = absurd (let never : ⊥ = cc in never)
in_the_way locks job (n ∷ names) e c f = at (in_the_way locks job names e c) (conflict_with locks job n) refl f where
  at : (conflict_of locks job names ≡ Some e → IsInTheWay locks job names e.0.job e.0.name) → (o : Option (Hold × ℕ)) → conflict_with locks job n ≡ o
      → option_or o (conflict_of locks job names) ≡ Some e → IsInTheWay locks job (n ∷ names) e.0.job e.0.name
  at later (Some g) is h =
      let r = conflicts locks job n e c (is ∙ h) in
      record { other = r.0; held = r.1; asked = n; among = contains-head n names; overlap = r.2 }
  at later None is h =
      let r = later h in
      record { other = r.other; held = r.held; asked = r.asked; among = contains-tail n r.asked names r.among; overlap = r.overlap }

pub all_free : (locks : Locks) (job : ℕ) (names : List Name) → conflict_of locks job names ≡ None → AreFree locks job names
all_free locks job [] none = λ holder name w. omega (arith, w.among.1)
all_free locks job (n ∷ names) none = at (all_free locks job names) (conflict_with locks job n) refl none where
  by : conflict_with locks job n ≡ None → AreFree locks job names → (holder : ℕ) (name : Name) (w : IsInTheWay locks job (n ∷ names) holder name) (k : ℕ) → k < length (n ∷ names)
      → get_or (n ∷ names) k w.asked ≡ w.asked → ⊥
  by is later holder name w zero lt here = free locks job n is holder name w.other w.held (subst (Overlaps name) (sym here) w.overlap)
  by is later holder name w (suc k) lt here = later holder name (record { other = w.other; held = w.held; asked = w.asked; among = (k, omega (arith, lt), here); overlap = w.overlap })

  at : (conflict_of locks job names ≡ None → AreFree locks job names) → (o : Option (Hold × ℕ)) → conflict_with locks job n ≡ o → option_or o (conflict_of locks job names) ≡ None
      → AreFree locks job (n ∷ names)
  at later (Some g) is h = absurd (let never : ⊥ = cc in never)
  at later None is h = λ holder name w. by is (later h) holder name w w.among.0 w.among.1 w.among.2

-- ---- names of different jobs stay apart

-- a name that the list gives places stands in it
listed : (m : Name) (names : List Name) → 0 < count_by (names_eq m) names → Contains names m
listed m [] up = absurd (omega (arith, up))
listed m (n ∷ names) up = by (listed m names) (names_eq m n) refl (subst (λ (c : ℕ). 0 < c) (sum_by-cons (λ x. cond (names_eq m x) 1 0) n names) up) where
  by : (0 < count_by (names_eq m) names → Contains names m) → (b : Bool) → names_eq m n ≡ b → 0 < cond b 1 0 + count_by (names_eq m) names → Contains (n ∷ names) m
  by later true e up = (0, omega arith, sym ((names_eq-Decides m n).0 e))
  by later false e up = contains-tail n m names (later (omega (arith, up)))

placed : (j : ℕ) (m : Name) (job : ℕ) (names : List Name) → 0 < places_of j m job names → (j ≡ job) × Contains names m
placed j m job names up = at (j == job) refl up where
  at : (b : Bool) → (j == job) ≡ b → 0 < cond b (count_by (names_eq m) names) 0 → (j ≡ job) × Contains names m
  at true e up = (eqb→eq j job (subst T (sym e) tt), listed m names up)
  at false e up = absurd (omega (arith, up))

-- what is held after a take was held before, or was asked for by the job
held_before : (locks : Locks) (job : ℕ) (names : List Name) (j : ℕ) (m : Name) → 0 < count_of (after_take locks job names) j m → (0 < count_of locks j m) ⊎ ((j ≡ job) × Contains names m)
held_before locks job names j m up = at (count_of locks j m) refl where
  at : (c : ℕ) → count_of locks j m ≡ c → (0 < count_of locks j m) ⊎ ((j ≡ job) × Contains names m)
  at zero e = inr (placed j m job names (omega (arith, up, rises locks job names j m, e)))
  at (suc c) e = inl (omega (arith, e))

pub apart-after_take : (locks : Locks) (job : ℕ) (names : List Name) → AreFree locks job names → LocksApart locks → LocksApart (after_take locks job names)
apart-after_take locks job names are_free apart = λ j k m n other one two over.
    at j k m n other over (held_before locks job names j m one) (held_before locks job names k n two) where
      at : (j k : ℕ) (m n : Name) → (j ≡ k → ⊥) → Overlaps m n → (0 < count_of locks j m) ⊎ ((j ≡ job) × Contains names m) → (0 < count_of locks k n) ⊎ ((k ≡ job) × Contains names n) → ⊥
      at j k m n other over (inl one) (inl two) = apart j k m n other one two over
      at j k m n other over (inl one) (inr new) = are_free j m (record { other = λ same. other (same ∙ sym new.0); held = one; asked = n; among = new.1; overlap = over })
      at j k m n other over (inr new) (inl two) = are_free k n (record { other = λ same. other (new.0 ∙ sym same); held = two; asked = m; among = new.1; overlap = overlap_back m n over })
      at j k m n other over (inr new) (inr new') = other (new.0 ∙ sym new'.0)

pub apart-after_give : (locks : Locks) (job : ℕ) (names : List Name) → LocksApart locks → LocksApart (after_give locks job names)
apart-after_give locks job names apart = λ j k m n other one two over.
    apart j k m n other (omega (arith, one, falls locks job names j m)) (omega (arith, two, falls locks job names k n)) over

pub apart-after_give_all : (locks : Locks) (job : ℕ) → LocksApart locks → LocksApart (after_give_all locks job)
apart-after_give_all locks job apart = λ j k m n other one two over. apart j k m n other (still j m one) (still k n two) over where
  still : (j : ℕ) (m : Name) → 0 < count_of (after_give_all locks job) j m → 0 < count_of locks j m
  still j m up = at (j == job) (subst (λ (c : ℕ). 0 < c) (without locks job j m) up) where
    at : (b : Bool) → 0 < cond b 0 (count_of locks j m) → 0 < count_of locks j m
    at true up = absurd (omega (arith, up))
    at false up = up
