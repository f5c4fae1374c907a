-- A pool that nothing was taken of is what its names and counts say.
use Rattle.std.proofs.Common.{◌≡◌, ◌∙◌, ◌+◌, ◌≤◌, zero, suc, ℕ, true, false, Bool, cond, List, [], ◌∷◌, ◌++◌, map, Option, Some, None, refl, sym, ap, append-nil, arith}
use Rattle.std.specs.List.{find}
use Rattle.std.specs.Str.{bytes_eq}
use Rattle.std.specs.Cmp.Lexicographic.{slice_cmp}
use Rattle.std.specs.Ordering.{nat_cmp, is_lt, match_ordering}
use Rattle.std.specs.declared.cmp.Ordering.TheVariants.{Less}
use Rattle.std.proofs.lemmas.Cmp.{nat_list_cmp_total, tied_itself}
use Rattle.std.proofs.lemmas.List.{append_assoc}
use Rattle.mj_ask.proofs.Lists.{and_true}
use Rattle.mj_dev.specs.Shelves.{Shelf, IsBelow, AreRising, added, count_of, is_named, left_of, new_shelf, one_more, principal}
use Rattle.mj_dev.specs.Pools.{with_more, with_all, shelves_of}
use Rattle.mj_replica.specs.Replicas.{counted_shelf, AreWhole}
use Rattle.mj_trace.specs.Lines.{is_before, rises}
use Rattle.mj_trace.specs.Lines as lines

-- ---- names that rise

pub names_rise : (pool : List Shelf) → AreRising pool → rises (map count_of pool) ≡ true
names_rise [] h = refl
names_rise (s ∷ []) h = refl
names_rise (s ∷ t ∷ pool) h = and_true (is_before s.name t.name) (rises (map count_of (t ∷ pool))) (ap is_lt h.0) (names_rise (t ∷ pool) h.1)

-- ---- the principal device

at_most : (a b : ℕ) → a ≤ a + b
at_most a b = omega arith

abbrev left_in : Option Shelf → ℕ
left_in o = elim o [ None ↦ 0 | Some shelf ↦ shelf.left ]

-- as many of its sessions are left as the count says, or fewer
pub principals_counted : (pool : List Shelf) → left_of principal pool ≤ lines.principal (map count_of pool)
principals_counted [] = at_most 0 0
principals_counted (s ∷ pool) = by (bytes_eq s.name principal) (principals_counted pool)
  where
    by : (b : Bool) → left_of principal pool ≤ lines.principal (map count_of pool)
        → left_in (cond b (Some s) (find (is_named principal) pool)) ≤ cond b (s.left + s.taken) (lines.principal (map count_of pool))
    by true rest = at_most s.left s.taken
    by false rest = rest

-- ---- one name more, behind others

-- all names come before this one
abbrev AllBefore : List ℕ → List Shelf → Type 0
AllBefore name [] = Unit {0}
AllBefore name (s ∷ ss) = (slice_cmp nat_cmp s.name name ≡ Less) × AllBefore name ss

first_added : (name : List ℕ) (ss : List Shelf) → AllBefore name ss → added name ss ≡ ss ++ counted_shelf (name, 1) ∷ []
first_added name [] h = refl
first_added name (s ∷ ss) h =
    ap (λ o. match_ordering o (s ∷ added name ss) (one_more s ∷ ss) (new_shelf name ∷ s ∷ ss)) h.0
    ∙ ap (λ (l : List Shelf). s ∷ l) (first_added name ss h.1)

next_added : (name : List ℕ) (n : ℕ) (ss : List Shelf) → AllBefore name ss → added name (ss ++ counted_shelf (name, n) ∷ []) ≡ ss ++ counted_shelf (name, suc n) ∷ []
next_added name n [] h =
    let many : n + 1 ≡ suc n = omega arith in
    ap (λ o. match_ordering o (counted_shelf (name, n) ∷ added name []) (one_more (counted_shelf (name, n)) ∷ []) (new_shelf name ∷ counted_shelf (name, n) ∷ []))
    (tied_itself nat_list_cmp_total name)
    ∙ ap (λ (m : ℕ). counted_shelf (name, m) ∷ []) many
next_added name n (s ∷ ss) h =
    let rest : List Shelf = ss ++ counted_shelf (name, n) ∷ [] in
    ap (λ o. match_ordering o (s ∷ added name rest) (one_more s ∷ rest) (new_shelf name ∷ s ∷ rest)) h.0
    ∙ ap (λ (l : List Shelf). s ∷ l) (next_added name n ss h.1)

more_added : (n : ℕ) (name : List ℕ) (k : ℕ) (ss : List Shelf) → AllBefore name ss → with_more n name (ss ++ counted_shelf (name, k) ∷ []) ≡ ss ++ counted_shelf (name, k + n) ∷ []
more_added zero name k ss h = let same : k ≡ k + 0 = omega arith in ap (λ (m : ℕ). ss ++ counted_shelf (name, m) ∷ []) same
more_added (suc n) name k ss h =
    let same : suc k + n ≡ k + suc n = omega arith in
    ap (λ (l : List Shelf). with_more n name l) (next_added name k ss h)
    ∙ more_added n name (suc k) ss h
    ∙ ap (λ (m : ℕ). ss ++ counted_shelf (name, m) ∷ []) same

all_added : (n : ℕ) (name : List ℕ) (ss : List Shelf) → AllBefore name ss → with_more (suc n) name ss ≡ ss ++ counted_shelf (name, suc n) ∷ []
all_added n name ss h =
    let same : 1 + n ≡ suc n = omega arith in
    ap (λ (l : List Shelf). with_more n name l) (first_added name ss h)
    ∙ more_added n name 1 ss h
    ∙ ap (λ (m : ℕ). ss ++ counted_shelf (name, m) ∷ []) same

-- a shelf that nothing was taken of
module _ (s : Shelf) (front : List Shelf) (some : 1 ≤ s.left) (none : s.taken ≡ 0) (before : AllBefore s.name front) where
  counted : (n : ℕ) → s.left + s.taken ≡ suc n → counted_shelf (s.name, suc n) ≡ s
  counted n e =
      let left : suc n ≡ s.left = omega (arith, none, e) in
      let taken : 0 ≡ s.taken = sym none in
      λ i. record { name = s.name; left = left i; taken = taken i }

  shelf_added : with_more (s.left + s.taken) s.name front ≡ front ++ s ∷ []
  shelf_added = by (s.left + s.taken) refl
    where
      by : (n : ℕ) → s.left + s.taken ≡ n → with_more n s.name front ≡ front ++ s ∷ []
      by zero e = absurd (omega (arith, some, e))
      by (suc n) e = all_added n s.name front before ∙ ap (λ (x : Shelf). front ++ x ∷ []) (counted n e)

-- ---- all names

all_before : (name other : List ℕ) (ss : List Shelf) → slice_cmp nat_cmp name other ≡ Less → AllBefore name ss → AllBefore other ss
all_before name other [] up h = tt
all_before name other (s ∷ ss) up h = (nat_list_cmp_total.trans s.name name other h.0 up, all_before name other ss up h.1)

before_last : (name : List ℕ) (ss : List Shelf) (s : Shelf) → AllBefore name ss → slice_cmp nat_cmp s.name name ≡ Less → AllBefore name (ss ++ s ∷ [])
before_last name [] s h up = (up, tt)
before_last name (t ∷ ss) s h up = (h.0, before_last name ss s h.1 up)

-- the first name comes behind these
abbrev IsBehind : List Shelf → List Shelf → Type 0
IsBehind front [] = Unit {0}
IsBehind front (s ∷ ss) = AllBefore s.name front

behind_on : (front : List Shelf) (s : Shelf) (pool : List Shelf) → AllBefore s.name front → IsBelow s.name pool → IsBehind (front ++ s ∷ []) pool
behind_on front s [] h up = tt
behind_on front s (t ∷ pool) h up = before_last t.name front s (all_before s.name t.name front up h) up

filled : (front pool : List Shelf) → AreWhole pool → AreRising pool → IsBehind front pool → with_all (map count_of pool) front ≡ front ++ pool
filled front [] whole rising h = sym (append-nil front)
filled front (s ∷ pool) whole rising h =
    ap (λ (l : List Shelf). with_all (map count_of pool) l) (shelf_added s front whole.0 whole.1 h)
    ∙ filled (front ++ s ∷ []) pool whole.2 rising.1 (behind_on front s pool h rising.0)
    ∙ append_assoc front (s ∷ []) pool

behind_none : (pool : List Shelf) → IsBehind [] pool
behind_none [] = tt
behind_none (s ∷ pool) = tt

pub filled_again : (pool : List Shelf) → AreWhole pool → AreRising pool → shelves_of (map count_of pool) ≡ pool
filled_again pool whole rising = filled [] pool whole rising (behind_none pool)
