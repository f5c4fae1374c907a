-- Who is in the way by the trees is who holds a name that overlaps.
use Rattle.std.proofs.Common.{◌≡◌, ℕ, ◌+◌, ◌<◌, Bool, true, false, cond, ◌&&◌, List, [], ◌∷◌, Option, Some, None, ◌⊎◌, inl, inr, refl, sym, ap, ◌∙◌, subst, arith, eq-eqb, eqb→eq, count_by}
use Rattle.std.specs.Prelude.{T, ◌==◌, unwrap_or}
use Rattle.std.specs.Str.{bytes_eq}
use Rattle.std.specs.Cmp.Lexicographic.{bytes_decides}
use Rattle.std.specs.declared.cmp.Ordering.{Ordering}
use Rattle.std.specs.declared.cmp.Ordering.TheVariants.{Less, Equal, Greater}
use Rattle.std.specs.Ordering.{is_eq, eq_by_cmp}
use Rattle.std.specs.FinMap.{find}
use Rattle.std.proofs.lemmas.List.Sums.{sum_by-cons}
use Rattle.mj_subs.specs.Name.{Name, kinds_eq, is_proper_front, are_in_line, overlaps, Overlaps}
use Rattle.mj_subs.specs.Laws.Tests.{overlaps-Decides}
use Rattle.mj_locktab.specs.declared.hold.Hold.{Hold}
use Rattle.mj_locktab.specs.Locks.{Locks, hold_of, job_of, name_of, hold_cmp, count_of}
use Rattle.mj_locktab.specs.Tries.{conflict_with}
use Rattle.mj_locktab.specs.Trees.{Stand, holder_of, tally_of, is_front, is_at_or_above, is_job, is_in_way, along, NoOther}
use Rattle.mj_locktab.specs.Told.{Tell}
use Rattle.mj_locktab.proofs.Order.{hold_cmp-IsAntisymmetric}
use Rattle.mj_locktab.proofs.Entries.{or_left, or_right, neither, one_or_other}
use Rattle.mj_locktab.proofs.Limits.{lt_true, from_lt_true}
use Rattle.mj_locktab.proofs.Counts.{IsCounted}
use Rattle.mj_locktab.proofs.Apart.{Conflicts, conflicts, among-head, among-cons}

both : (a b : Bool) → (a && b) ≡ true → (a ≡ true) × (b ≡ true)
both true true e = (refl, refl)
both true false e = absurd (let never : ⊥ = cc in never)
both false b e = absurd (let never : ⊥ = cc in never)

together : (a b : Bool) → a ≡ true → b ≡ true → (a && b) ≡ true
together true b e f = f
together false b e f = e

-- ---- along a list of subscripts

-- who holds a proper front is in the way
in_way_above : (f : List (List ℕ) → Option Stand) (q p : List (List ℕ)) (j : ℕ) → is_proper_front q p ≡ true → holder_of (f q) ≡ Some j → is_in_way f p j ≡ true
in_way_above f q [] j above holds = absurd (let never : ⊥ = cc in never)
in_way_above f [] (s ∷ p) j above holds = or_left (is_job (holder_of (f [])) j) _ (ap (λ (o : Option ℕ). is_job o j) holds ∙ eq-eqb j j refl)
in_way_above f (t ∷ q) (s ∷ p) j above holds =
    let parts = both (bytes_eq t s) (is_proper_front q p) above in
    let same : t ≡ s = (bytes_decides t s).0 parts.0 in
    or_right (is_job (holder_of (f [])) j) _ (in_way_above (λ x. f (s ∷ x)) q p j parts.1 (ap (λ (x : List ℕ). holder_of (f (x ∷ q))) (sym same) ∙ holds))

-- who has a name there or below is in the way
in_way_below : (f : List (List ℕ) → Option Stand) (p : List (List ℕ)) (j : ℕ) → 0 < tally_of (f p) j → is_in_way f p j ≡ true
in_way_below f [] j up = lt_true 0 (tally_of (f []) j) up
in_way_below f (s ∷ p) j up = or_right (is_job (holder_of (f [])) j) _ (in_way_below (λ x. f (s ∷ x)) p j up)

-- of two lists that agree as far as both go the first is a proper front of the second, or the second is a front of the first
in_line : (q p : List (List ℕ)) → are_in_line q p ≡ true → (is_proper_front q p ≡ true) ⊎ (is_front p q ≡ true)
in_line [] [] e = inr refl
in_line [] (s ∷ p) e = inl refl
in_line (t ∷ q) [] e = inr refl
in_line (t ∷ q) (s ∷ p) e = at (in_line q p (both (bytes_eq t s) (are_in_line q p) e).1) where
  there : t ≡ s
  there = (bytes_decides t s).0 (both (bytes_eq t s) (are_in_line q p) e).0

  at : (is_proper_front q p ≡ true) ⊎ (is_front p q ≡ true) → ((bytes_eq t s && is_proper_front q p) ≡ true) ⊎ ((bytes_eq s t && is_front p q) ≡ true)
  at (inl h) = inl (together (bytes_eq t s) (is_proper_front q p) ((bytes_decides t s).1 there) h)
  at (inr h) = inr (together (bytes_eq s t) (is_front p q) ((bytes_decides s t).1 (sym there)) h)

-- ---- a hold is tallied

tied : (r : Ordering) → is_eq r ≡ true → r ≡ Equal
tied Less e = absurd (let never : ⊥ = cc in never)
tied Equal e = refl
tied Greater e = absurd (let never : ⊥ = cc in never)

kinds_same : (a b : Bool) → kinds_eq a b ≡ true → a ≡ b
kinds_same true true e = refl
kinds_same true false e = absurd (let never : ⊥ = cc in never)
kinds_same false true e = absurd (let never : ⊥ = cc in never)
kinds_same false false e = refl

kinds_back : (a b : Bool) → a ≡ b → kinds_eq b a ≡ true
kinds_back true true e = refl
kinds_back true false e = absurd (let never : ⊥ = cc in never)
kinds_back false true e = absurd (let never : ⊥ = cc in never)
kinds_back false false e = refl

one_counted : (g : Hold → Bool) (h : Hold) (locks : Locks) → g h ≡ true → 0 < count_of locks h.job h.name → 0 < count_by (λ e. g e.0) locks
one_counted g h [] passes up = absurd (omega (arith, up))
one_counted g h (e ∷ es) passes up = at (one_counted g h es passes) (eq_by_cmp hold_cmp (hold_of h.job h.name) e.0) refl up where
  more : count_by (λ x. g x.0) (e ∷ es) ≡ cond (g e.0) 1 0 + count_by (λ x. g x.0) es
  more = sum_by-cons (λ (x : Hold × ℕ). cond (g x.0) 1 0) e es

  at : (0 < count_of es h.job h.name → 0 < count_by (λ x. g x.0) es) → (b : Bool) → eq_by_cmp hold_cmp (hold_of h.job h.name) e.0 ≡ b
      → 0 < unwrap_or (cond b (Some e.1) (find hold_cmp (hold_of h.job h.name) es)) 0 → 0 < count_by (λ x. g x.0) (e ∷ es)
  at rest true tie some =
      let same : h ≡ e.0 = hold_cmp-IsAntisymmetric h e.0 (tied (hold_cmp h e.0) tie) in
      let one : ◌≡◌ {A = ℕ} (cond (g e.0) 1 0) 1 = ap (λ (x : Hold). cond (g x) 1 0) (sym same) ∙ ap (λ b. cond b 1 0) passes in
      omega (arith, more, one)
  at rest false tie some = omega (arith, more, rest some)

-- ---- a conflict is in the way

module _ (s : Name → Option Stand) (locks : Locks) (job : ℕ) (n : Name) (told : Tell s locks) where
  pub conflict_in_way : (e : Hold × ℕ) → Conflicts locks job n e → is_in_way (along s n) n.subscripts e.0.job ≡ true
  unfolding Conflicts
  conflict_in_way e c = by (in_line e.0.name.subscripts n.subscripts parts.1) where
    tests : overlaps e.0.name n ≡ true
    tests = (overlaps-Decides e.0.name n).1 c.2

    parts : ((kinds_eq e.0.name.global n.global && bytes_eq e.0.name.word n.word) ≡ true) × (are_in_line e.0.name.subscripts n.subscripts ≡ true)
    parts = both (kinds_eq e.0.name.global n.global && bytes_eq e.0.name.word n.word) (are_in_line e.0.name.subscripts n.subscripts) tests

    kinds : e.0.name.global ≡ n.global
    kinds = kinds_same e.0.name.global n.global (both (kinds_eq e.0.name.global n.global) (bytes_eq e.0.name.word n.word) parts.0).0

    words : e.0.name.word ≡ n.word
    words = (bytes_decides e.0.name.word n.word).0 (both (kinds_eq e.0.name.global n.global) (bytes_eq e.0.name.word n.word) parts.0).1

    by : (is_proper_front e.0.name.subscripts n.subscripts ≡ true) ⊎ (is_front n.subscripts e.0.name.subscripts ≡ true) → is_in_way (along s n) n.subscripts e.0.job ≡ true
    by (inl above) =
        let place : e.0.name ≡ record { global = n.global; word = n.word; subscripts = e.0.name.subscripts } = (λ i. record { global = kinds i; word = words i; subscripts = e.0.name.subscripts }) in
        in_way_above (along s n) e.0.name.subscripts n.subscripts e.0.job above (ap (λ (x : Name). holder_of (s x)) (sym place) ∙ (told.holders e.0.name e.0.job).1 c.1)
    by (inr below) =
        let within : is_at_or_above n e.0.name ≡ true =
        together (kinds_eq n.global e.0.name.global && bytes_eq n.word e.0.name.word) (is_front n.subscripts e.0.name.subscripts)
        (together (kinds_eq n.global e.0.name.global) (bytes_eq n.word e.0.name.word) (kinds_back e.0.name.global n.global kinds) ((bytes_decides n.word e.0.name.word).1 (sym words))) below in
        let passes : (job_of e.0 == e.0.job && is_at_or_above n (name_of e.0)) ≡ true = together (e.0.job == e.0.job) (is_at_or_above n e.0.name) (eq-eqb e.0.job e.0.job refl) within in
        let counts = one_counted (λ h. job_of h == e.0.job && is_at_or_above n (name_of h)) e.0 locks passes c.1 in
        in_way_below (along s n) n.subscripts e.0.job (subst (λ (x : ℕ). 0 < x) (sym (told.tallies n e.0.job)) counts)

  -- where no other job is in the way there is no conflict
  pub no_conflict : IsCounted locks → NoOther (is_in_way (along s n) n.subscripts) job → conflict_with locks job n ≡ None
  unfolding Conflicts
  no_conflict counted free = at (conflict_with locks job n) refl where
    at : (o : Option (Hold × ℕ)) → conflict_with locks job n ≡ o → o ≡ None
    at None e = refl
    at (Some e) found =
        let c = conflicts locks job n e counted found in
        absurd (let not_so : is_in_way (along s n) n.subscripts e.0.job ≡ false = free e.0.job c.0 in let is_so = conflict_in_way e c in let never : ⊥ = cc (not_so, is_so) in never)

-- ---- and who is in the way has a conflict

equal_job : (j k : ℕ) → (j == k) ≡ true → j ≡ k
equal_job j k e = eqb→eq j k (subst T (sym e) tt)

held_job : (o : Option ℕ) (j : ℕ) → is_job o j ≡ true → o ≡ Some j
held_job None j e = absurd (let never : ⊥ = cc in never)
held_job (Some k) j e = ap (λ (x : ℕ). Some x) (equal_job k j e)

-- someone in the way holds a proper front, or has a name there or below
in_way_split : (f : List (List ℕ) → Option Stand) (p : List (List ℕ)) (j : ℕ) → is_in_way f p j ≡ true
    → ((q : List (List ℕ)) × (is_proper_front q p ≡ true) × (holder_of (f q) ≡ Some j)) ⊎ (0 < tally_of (f p) j)
in_way_split f [] j t = inr (from_lt_true 0 (tally_of (f []) j) t)
in_way_split f (s ∷ p) j t =
    one_or_other (is_job (holder_of (f [])) j) (is_in_way (λ q. f (s ∷ q)) p j) _ t
    (λ here. inl ([], refl, held_job (holder_of (f [])) j here)) (λ below. further (in_way_split (λ q. f (s ∷ q)) p j below))
  where
    further : ((q : List (List ℕ)) × (is_proper_front q p ≡ true) × (holder_of (f (s ∷ q)) ≡ Some j)) ⊎ (0 < tally_of (f (s ∷ p)) j)
        → ((q : List (List ℕ)) × (is_proper_front q (s ∷ p) ≡ true) × (holder_of (f q) ≡ Some j)) ⊎ (0 < tally_of (f (s ∷ p)) j)
    further (inl w) = inl (s ∷ w.0, together (bytes_eq s s) (is_proper_front w.0 p) ((bytes_decides s s).1 refl) w.1, w.2)
    further (inr up) = inr up

line_above : (q p : List (List ℕ)) → is_proper_front q p ≡ true → are_in_line q p ≡ true
line_above q [] e = absurd (let never : ⊥ = cc in never)
line_above [] (s ∷ p) e = refl
line_above (t ∷ q) (s ∷ p) e =
    let parts = both (bytes_eq t s) (is_proper_front q p) e in
    together (bytes_eq t s) (are_in_line q p) parts.0 (line_above q p parts.1)

line_below : (q p : List (List ℕ)) → is_front p q ≡ true → are_in_line q p ≡ true
line_below [] p e = refl
line_below (t ∷ q) [] e = refl
line_below (t ∷ q) (s ∷ p) e =
    let parts = both (bytes_eq s t) (is_front p q) e in
    together (bytes_eq t s) (are_in_line q p) ((bytes_decides t s).1 (sym ((bytes_decides s t).0 parts.0))) (line_below q p parts.1)

some_counted : (g : Hold → Bool) (locks : Locks) → IsCounted locks → 0 < count_by (λ e. g e.0) locks → (h : Hold) × (g h ≡ true) × (0 < count_of locks h.job h.name)
some_counted g [] counted up = absurd (omega (arith, up))
some_counted g (e ∷ es) counted up = at (some_counted g es (neither (e.1 == 0) _ counted).1) (g e.0) refl (sum_by-cons (λ (x : Hold × ℕ). cond (g x.0) 1 0) e es) where
  parts : ((e.1 == 0) ≡ false) × IsCounted es
  parts = neither (e.1 == 0) _ counted

  at : (0 < count_by (λ x. g x.0) es → (h : Hold) × (g h ≡ true) × (0 < count_of es h.job h.name)) → (b : Bool) → g e.0 ≡ b
      → count_by (λ x. g x.0) (e ∷ es) ≡ cond (g e.0) 1 0 + count_by (λ x. g x.0) es → (h : Hold) × (g h ≡ true) × (0 < count_of (e ∷ es) h.job h.name)
  at below true t more = (e.0, t, among-head e es parts.0)
  at below false t more =
      let none : ◌≡◌ {A = ℕ} (cond (g e.0) 1 0) 0 = ap (λ b. cond b 1 0) t in
      let rest = below (omega (arith, up, more, none)) in
      (rest.0, rest.1, among-cons e es rest.0 parts.0 rest.2)

pub in_way_conflict : (s : Name → Option Stand) (locks : Locks) (n : Name) (j : ℕ) → Tell s locks → IsCounted locks → is_in_way (along s n) n.subscripts j ≡ true
    → (m : Name) × (0 < count_of locks j m) × Overlaps m n
in_way_conflict s locks n j told counted t = by (in_way_split (along s n) n.subscripts j t) where
  by : ((q : List (List ℕ)) × (is_proper_front q n.subscripts ≡ true) × (holder_of (along s n q) ≡ Some j)) ⊎ (0 < tally_of (along s n n.subscripts) j)
      → (m : Name) × (0 < count_of locks j m) × Overlaps m n
  by (inl w) =
      let m : Name = record { global = n.global; word = n.word; subscripts = w.0 } in
      let kinds = together (kinds_eq n.global n.global) (bytes_eq n.word n.word) (kinds_back n.global n.global refl) ((bytes_decides n.word n.word).1 refl) in
      let line = together (kinds_eq n.global n.global && bytes_eq n.word n.word) (are_in_line w.0 n.subscripts) kinds (line_above w.0 n.subscripts w.1) in
      (m, (told.holders m j).0 w.2, (overlaps-Decides m n).0 line)
  by (inr up) =
      let counts : 0 < count_by (λ e. job_of e.0 == j && is_at_or_above n (name_of e.0)) locks = subst (λ (x : ℕ). 0 < x) (told.tallies n j) up in
      let h = some_counted (λ x. job_of x == j && is_at_or_above n (name_of x)) locks counted counts in
      let tests = both (job_of h.0 == j) (is_at_or_above n h.0.name) h.1 in
      let parts = both (kinds_eq n.global h.0.name.global && bytes_eq n.word h.0.name.word) (is_front n.subscripts h.0.name.subscripts) tests.1 in
      let firsts = both (kinds_eq n.global h.0.name.global) (bytes_eq n.word h.0.name.word) parts.0 in
      let kinds = together (kinds_eq h.0.name.global n.global) (bytes_eq h.0.name.word n.word)
      (kinds_back n.global h.0.name.global (kinds_same n.global h.0.name.global firsts.0)) ((bytes_decides h.0.name.word n.word).1 (sym ((bytes_decides n.word h.0.name.word).0 firsts.1))) in
      let line = together (kinds_eq h.0.name.global n.global && bytes_eq h.0.name.word n.word) (are_in_line h.0.name.subscripts n.subscripts) kinds
      (line_below h.0.name.subscripts n.subscripts parts.1) in
      (h.0.name, subst (λ (x : ℕ). 0 < count_of locks x h.0.name) (equal_job h.0.job j tests.0) h.2, (overlaps-Decides h.0.name n).0 line)
