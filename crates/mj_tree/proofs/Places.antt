-- Places of which some hold nothing, and lists of which one stands behind the other.
use Rattle.std.proofs.Common.{◌≡◌, ℕ, zero, suc, ◌<◌, ◌≤◌, Bool, true, false, cond, not, List, [], ◌∷◌, ◌++◌, length, take, drop, get_or, Option, Some, None, refl, sym, ap, ◌∙◌, subst, arith}
use Rattle.std.specs.Prelude.{T, slice_set}
use Rattle.std.specs.declared.cmp.Ordering.{Ordering}
use Rattle.std.specs.declared.cmp.Ordering.TheVariants.{Less, Equal, Greater}
use Rattle.std.specs.Ordering.{is_eq, is_lt, match_ordering, ordering_reverse}
use Rattle.std.specs.Cmp.{IsTotalOrder, tied_itself}
use Rattle.std.specs.FinMap.{is_sorted}
use Rattle.std.specs.FinMap.Entries.{below_all}
use Rattle.std.specs.List.{filter}
use Rattle.std.specs.Map.{lookup, set_value, remove_entry}
use Rattle.std.specs.BTreeMap.{is_at, insert_entry}
use Rattle.mj_store.specs.Nodes.{is_empty}
use Rattle.mj_tree.specs.Nest.{under, below, beyond, AreFilled}
use Rattle.mj_tree.specs.Rows.{live, earlier, AllBefore, IsTrimmed}
use Rattle.mj_tree.specs.Maps.{first_so, second_so, both_so, is_less, lookup_before, before_less, tied_before}
use Rattle.mj_tree.proofs.Copies.{joined}

-- ---- what is taken out of a list by a test

pub filter-append : {A : Type 0} (f : A → Bool) (xs ys : List A) → filter f (xs ++ ys) ≡ filter f xs ++ filter f ys
filter-append f [] ys = refl
filter-append f (x ∷ xs) ys =
    ap (λ r. cond (f x) (x ∷ r) r) (filter-append f xs ys)
    ∙ elim (f x) as (λ b. cond b (x ∷ (filter f xs ++ filter f ys)) (filter f xs ++ filter f ys) ≡ cond b (x ∷ filter f xs) (filter f xs) ++ filter f ys) [ true ↦ refl | false ↦ refl ]

pub filter_swap : {A : Type 0} (f g : A → Bool) (xs : List A) → filter f (filter g xs) ≡ filter g (filter f xs)
filter_swap f g [] = refl
filter_swap {A} f g (x ∷ xs) = by (f x) (g x) refl refl (filter_swap f g xs)
  where
    by : (a b : Bool) → f x ≡ a → g x ≡ b → filter f (filter g xs) ≡ filter g (filter f xs) → filter f (cond b (x ∷ filter g xs) (filter g xs)) ≡ filter g (cond a (x ∷ filter f xs) (filter f xs))
    by true true p q e =
        ap (λ t. cond t (x ∷ filter f (filter g xs)) (filter f (filter g xs))) p
        ∙ ap (λ (r : List A). x ∷ r) e
        ∙ sym (ap (λ t. cond t (x ∷ filter g (filter f xs)) (filter g (filter f xs))) q)
    by true false p q e = e ∙ sym (ap (λ t. cond t (x ∷ filter g (filter f xs)) (filter g (filter f xs))) q)
    by false true p q e = ap (λ t. cond t (x ∷ filter f (filter g xs)) (filter f (filter g xs))) p ∙ e
    by false false p q e = e

-- ---- two of an order

module _ {K : Type 0} (R : K → K → Ordering) (o : IsTotalOrder R) where
  pub greater_of : (s t : K) → R t s ≡ Less → R s t ≡ Greater
  greater_of s t e = o.antisymm s t ∙ ap ordering_reverse e

  pub less_of : (s t : K) → R t s ≡ Greater → R s t ≡ Less
  less_of s t e = o.antisymm s t ∙ ap ordering_reverse e

  pub tied_first : (s t : K) → t ≡ s → R s t ≡ Equal
  tied_first s t is = ap (R s) is ∙ tied_itself o s

-- ---- places that hold something

module _ {K A : Type 0} where
  pub live-append : (xs ys : List (K × List A)) → live (xs ++ ys) ≡ live xs ++ live ys
  live-append xs ys = filter-append (λ k. not (is_empty k.1)) xs ys

  pub live_filled : (s : K) (c : List A) (xs : List (K × List A)) → 0 < length c → live ((s, c) ∷ xs) ≡ (s, c) ∷ live xs
  live_filled s [] xs h = absurd (omega arith)
  live_filled s (n ∷ ns) xs h = refl

module _ {K V : Type 0} where
  pub below-append : (xs ys : List (K × List (List K × V))) → below (xs ++ ys) ≡ below xs ++ below ys
  below-append [] ys = refl
  below-append (k ∷ ks) ys = ap (λ (r : List (List K × V)). under k.0 k.1 ++ r) (below-append ks ys) ∙ sym (joined (under k.0 k.1) (below ks) (below ys))

  pub below-live : (ks : List (K × List (List K × V))) → below (live ks) ≡ below ks
  below-live [] = refl
  below-live ((s, []) ∷ ks) = below-live ks
  below-live ((s, n ∷ ns) ∷ ks) = ap (λ (r : List (List K × V)). under s (n ∷ ns) ++ r) (below-live ks)

  pub same_live : (ks es : List (K × List (List K × V))) → live ks ≡ live es → below ks ≡ below es
  same_live ks es h = sym (below-live ks) ∙ ap below h ∙ below-live es

  pub filled-live : (ks : List (K × List (List K × V))) → AreFilled (live ks)
  filled-live [] = tt
  filled-live ((s, []) ∷ ks) = filled-live ks
  filled-live ((s, n ∷ ns) ∷ ks) = (omega arith, filled-live ks)

  pub live_whole : (ks : List (K × List (List K × V))) → AreFilled ks → live ks ≡ ks
  live_whole [] h = refl
  live_whole ((s, []) ∷ ks) h = absurd (omega (arith, h.0))
  live_whole ((s, n ∷ ns) ∷ ks) h = ap (λ (r : List (K × List (List K × V))). (s, n ∷ ns) ∷ r) (live_whole ks h.1)

  -- sound children that have a place have a node
  pub some_below : (row others : List (K × List (List K × V))) → IsTrimmed row → AreFilled others → 0 < length (row ++ others) → 0 < length (below (row ++ others))
  some_below [] [] t f h = absurd (omega arith)
  some_below [] ((s, []) ∷ os) t f h = absurd (omega (arith, f.0))
  some_below [] ((s, n ∷ ns) ∷ os) t f h = omega arith
  some_below ((s, []) ∷ row) others t f h = absurd (omega (arith, t))
  some_below ((s, n ∷ ns) ∷ row) others t f h = omega arith

  pub trimmed_front : (xs ys : List (K × List (List K × V))) → IsTrimmed (xs ++ ys) → IsTrimmed xs
  trimmed_front [] ys h = tt
  trimmed_front (x ∷ xs) ys h = h

  pub trimmed_pushed : (xs : List (K × List (List K × V))) (s : K) (c : List (List K × V)) → IsTrimmed xs → (xs ≡ [] → 0 < length c) → IsTrimmed (xs ++ (s, c) ∷ [])
  trimmed_pushed [] s c h some = some refl
  trimmed_pushed (x ∷ xs) s c h some = h

module _ {K X : Type 0} (R : K → K → Ordering) where
  -- ---- two lists, one behind the other

  pub below_front : (t : K) (xs ys : List (K × X)) → T (below_all R t (xs ++ ys)) → T (below_all R t xs)
  below_front t [] ys h = tt
  below_front t (x ∷ xs) ys h = both_so (is_lt (R t x.0)) _ (first_so _ _ h) (below_front t xs ys (second_so _ _ h))

  pub below_back : (t : K) (xs ys : List (K × X)) → T (below_all R t (xs ++ ys)) → T (below_all R t ys)
  below_back t [] ys h = h
  below_back t (x ∷ xs) ys h = below_back t xs ys (second_so _ _ h)

  pub below_both : (t : K) (xs ys : List (K × X)) → T (below_all R t xs) → T (below_all R t ys) → T (below_all R t (xs ++ ys))
  below_both t [] ys h k = k
  below_both t (x ∷ xs) ys h k = both_so (is_lt (R t x.0)) _ (first_so _ _ h) (below_both t xs ys (second_so _ _ h) k)

  pub sorted_front : (xs ys : List (K × X)) → T (is_sorted R (xs ++ ys)) → T (is_sorted R xs)
  sorted_front [] ys h = tt
  sorted_front (x ∷ xs) ys h = both_so (below_all R x.0 xs) _ (below_front x.0 xs ys (first_so _ _ h)) (sorted_front xs ys (second_so _ _ h))

  pub sorted_back : (xs ys : List (K × X)) → T (is_sorted R (xs ++ ys)) → T (is_sorted R ys)
  sorted_back [] ys h = h
  sorted_back (x ∷ xs) ys h = sorted_back xs ys (second_so _ _ h)

  -- the same without what stands between
  pub sorted_without : (xs ys zs : List (K × X)) → T (is_sorted R (xs ++ (ys ++ zs))) → T (is_sorted R (xs ++ zs))
  sorted_without [] ys zs h = sorted_back ys zs h
  sorted_without (x ∷ xs) ys zs h =
      both_so (below_all R x.0 (xs ++ zs)) _ (below_both x.0 xs zs (below_front x.0 xs (ys ++ zs) (first_so _ _ h)) (below_back x.0 ys zs (below_back x.0 xs (ys ++ zs) (first_so _ _ h))))
      (sorted_without xs ys zs (second_so _ _ h))

  pub lookup_front : (s : K) (c : X) (xs ys : List (K × X)) → lookup (is_at (R s)) xs ≡ Some c → lookup (is_at (R s)) (xs ++ ys) ≡ Some c
  lookup_front s c [] ys h = absurd cc
  lookup_front s c (x ∷ xs) ys h =
      elim (is_eq (R s x.0)) as (λ b. cond b (Some x.1) (lookup (is_at (R s)) xs) ≡ Some c → cond b (Some x.1) (lookup (is_at (R s)) (xs ++ ys)) ≡ Some c) [
        | true ↦ λ e. e
        | false ↦ λ e. lookup_front s c xs ys e
      ] h

  pub lookup_past : (s : K) (xs ys : List (K × X)) → lookup (is_at (R s)) xs ≡ None → lookup (is_at (R s)) (xs ++ ys) ≡ lookup (is_at (R s)) ys
  lookup_past s [] ys h = refl
  lookup_past s (x ∷ xs) ys h =
      elim (is_eq (R s x.0)) as (λ b. cond b (Some x.1) (lookup (is_at (R s)) xs) ≡ None → cond b (Some x.1) (lookup (is_at (R s)) (xs ++ ys)) ≡ lookup (is_at (R s)) ys) [
        | true ↦ λ e. absurd cc
        | false ↦ λ e. lookup_past s xs ys e
      ] h

  pub none_front : (s : K) (xs ys : List (K × X)) → lookup (is_at (R s)) (xs ++ ys) ≡ None → lookup (is_at (R s)) xs ≡ None
  none_front s [] ys h = refl
  none_front s (x ∷ xs) ys h =
      elim (is_eq (R s x.0)) as (λ b. cond b (Some x.1) (lookup (is_at (R s)) (xs ++ ys)) ≡ None → cond b (Some x.1) (lookup (is_at (R s)) xs) ≡ None) [
        | true ↦ λ e. e
        | false ↦ λ e. none_front s xs ys e
      ] h

  pub set_past : (s : K) (w : X) (xs ys : List (K × X)) → lookup (is_at (R s)) xs ≡ None → set_value (is_at (R s)) (xs ++ ys) w ≡ xs ++ set_value (is_at (R s)) ys w
  set_past s w [] ys h = refl
  set_past s w (x ∷ xs) ys h =
      elim (is_eq (R s x.0)) as (λ b. cond b (Some x.1) (lookup (is_at (R s)) xs) ≡ None
      → cond b ((x.0, w) ∷ (xs ++ ys)) (x ∷ set_value (is_at (R s)) (xs ++ ys) w) ≡ x ∷ (xs ++ set_value (is_at (R s)) ys w)) [
        | true ↦ λ e. absurd cc
        | false ↦ λ e. ap (λ (r : List (K × X)). x ∷ r) (set_past s w xs ys e)
      ] h

  pub set_front : (s : K) (c w : X) (xs ys : List (K × X)) → lookup (is_at (R s)) xs ≡ Some c → set_value (is_at (R s)) (xs ++ ys) w ≡ set_value (is_at (R s)) xs w ++ ys
  set_front s c w [] ys h = absurd cc
  set_front s c w (x ∷ xs) ys h =
      elim (is_eq (R s x.0)) as (λ b. cond b (Some x.1) (lookup (is_at (R s)) xs) ≡ Some c
      → cond b ((x.0, w) ∷ (xs ++ ys)) (x ∷ set_value (is_at (R s)) (xs ++ ys) w) ≡ cond b ((x.0, w) ∷ xs) (x ∷ set_value (is_at (R s)) xs w) ++ ys) [
        | true ↦ λ e. refl
        | false ↦ λ e. ap (λ (r : List (K × X)). x ∷ r) (set_front s c w xs ys e)
      ] h

  pub remove_past : (s : K) (xs ys : List (K × X)) → lookup (is_at (R s)) xs ≡ None → remove_entry (is_at (R s)) (xs ++ ys) ≡ xs ++ remove_entry (is_at (R s)) ys
  remove_past s [] ys h = refl
  remove_past s (x ∷ xs) ys h =
      elim (is_eq (R s x.0)) as (λ b. cond b (Some x.1) (lookup (is_at (R s)) xs) ≡ None
      → cond b (xs ++ ys) (x ∷ remove_entry (is_at (R s)) (xs ++ ys)) ≡ x ∷ (xs ++ remove_entry (is_at (R s)) ys)) [
        | true ↦ λ e. absurd cc
        | false ↦ λ e. ap (λ (r : List (K × X)). x ∷ r) (remove_past s xs ys e)
      ] h

  pub insert_past : (s : K) (c : X) (xs ys : List (K × X)) → AllBefore R s xs → insert_entry R (xs ++ ys) s c ≡ xs ++ insert_entry R ys s c
  insert_past s c [] ys h = refl
  insert_past s c (x ∷ xs) ys h =
      ap (λ r. match_ordering r ((s, c) ∷ x ∷ (xs ++ ys)) ((x.0, c) ∷ (xs ++ ys)) (x ∷ insert_entry R (xs ++ ys) s c)) h.0
      ∙ ap (λ (r : List (K × X)). x ∷ r) (insert_past s c xs ys h.1)

  pub insert_before : (s : K) (c : X) (ks : List (K × X)) → T (below_all R s ks) → insert_entry R ks s c ≡ (s, c) ∷ ks
  insert_before s c [] h = refl
  insert_before s c (k ∷ ks) h = ap (λ r. match_ordering r ((s, c) ∷ k ∷ ks) ((k.0, c) ∷ ks) (k ∷ insert_entry R ks s c)) (is_less _ (first_so _ _ h))

  pub insert_between : (s : K) (c : X) (xs ys : List (K × X)) → AllBefore R s xs → T (below_all R s ys) → insert_entry R (xs ++ ys) s c ≡ xs ++ (s, c) ∷ ys
  insert_between s c xs ys h k = insert_past s c xs ys h ∙ ap (λ (r : List (K × X)). xs ++ r) (insert_before s c ys k)

  pub beyond_all : (s : K) (ks : List (K × X)) → T (below_all R s ks) → beyond R s ks ≡ ks
  beyond_all s [] h = refl
  beyond_all s (k ∷ ks) h =
      ap (λ r. cond (is_lt r) (k ∷ beyond R s ks) (beyond R s ks)) (is_less _ (first_so _ _ h)) ∙ ap (λ (r : List (K × X)). k ∷ r) (beyond_all s ks (second_so _ _ h))

  pub beyond_none : (s : K) (ks : List (K × X)) → AllBefore R s ks → beyond R s ks ≡ []
  beyond_none s [] h = refl
  beyond_none s (k ∷ ks) h = ap (λ r. cond (is_lt r) (k ∷ beyond R s ks) (beyond R s ks)) h.0 ∙ beyond_none s ks h.1

  pub lookup_behind : (s : K) (ks : List (K × X)) → AllBefore R s ks → lookup (is_at (R s)) ks ≡ None
  lookup_behind s [] h = refl
  lookup_behind s (k ∷ ks) h = ap (λ r. cond (is_eq r) (Some k.1) (lookup (is_at (R s)) ks)) h.0 ∙ lookup_behind s ks h.1

  module _ (o : IsTotalOrder R) where
    pub earlier_none : (s : K) (ks : List (K × X)) → T (below_all R s ks) → earlier R s ks ≡ []
    earlier_none s [] h = refl
    earlier_none s (k ∷ ks) h =
        ap (λ r. cond (is_lt r) (k ∷ earlier R s ks) (earlier R s ks)) (greater_of R o k.0 s (is_less _ (first_so _ _ h))) ∙ earlier_none s ks (second_so _ _ h)

    pub earlier_all : (s : K) (ks : List (K × X)) → AllBefore R s ks → earlier R s ks ≡ ks
    earlier_all s [] h = refl
    earlier_all s (k ∷ ks) h =
        ap (λ r. cond (is_lt r) (k ∷ earlier R s ks) (earlier R s ks)) (less_of R o k.0 s h.0) ∙ ap (λ (r : List (K × X)). k ∷ r) (earlier_all s ks h.1)

    -- ---- a place that is told by its index

    less_at : (t : K) (ks : List (K × X)) (at : ℕ) (x : K × X) → T (below_all R t ks) → at < length ks → R t (get_or ks at x).0 ≡ Less
    less_at t [] at x h lt = absurd (omega arith)
    less_at t (k ∷ ks) zero x h lt = is_less _ (first_so _ _ h)
    less_at t (k ∷ ks) (suc at) x h lt = less_at t ks at x (second_so _ _ h) (omega arith)

    past_first : (s : K) (k : K × X) (ks : List (K × X)) (at : ℕ) (x : K × X) → T (is_sorted R (k ∷ ks)) → at < length ks → (get_or ks at x).0 ≡ s → R s k.0 ≡ Greater
    past_first s k ks at x h lt is = greater_of R o s k.0 (ap (R k.0) (sym is) ∙ less_at k.0 ks at x (first_so _ _ h) lt)

    pub lookup_place : (ks : List (K × X)) (at : ℕ) (s : K) (x : K × X) → T (is_sorted R ks) → at < length ks → (get_or ks at x).0 ≡ s → lookup (is_at (R s)) ks ≡ Some (get_or ks at x).1
    lookup_place [] at s x h lt is = absurd (omega arith)
    lookup_place (k ∷ ks) zero s x h lt is = ap (λ r. cond (is_eq r) (Some k.1) (lookup (is_at (R s)) ks)) (tied_first R o s k.0 is)
    lookup_place (k ∷ ks) (suc at) s x h lt is =
        ap (λ r. cond (is_eq r) (Some k.1) (lookup (is_at (R s)) ks)) (past_first s k ks at x h (omega arith) is) ∙ lookup_place ks at s x (second_so _ _ h) (omega arith) is

    pub set_place : (ks : List (K × X)) (at : ℕ) (s : K) (e x : K × X) → T (is_sorted R ks) → at < length ks → (get_or ks at x).0 ≡ s → e.0 ≡ s → slice_set ks at e ≡ set_value (is_at (R s)) ks e.1
    set_place [] at s e x h lt is new = absurd (omega arith)
    set_place (k ∷ ks) zero s e x h lt is new =
        (λ i. ((new ∙ sym is) i, e.1) ∷ ks) ∙ sym (ap (λ r. cond (is_eq r) ((k.0, e.1) ∷ ks) (k ∷ set_value (is_at (R s)) ks e.1)) (tied_first R o s k.0 is))
    set_place (k ∷ ks) (suc at) s e x h lt is new =
        ap (λ (r : List (K × X)). k ∷ r) (set_place ks at s e x (second_so _ _ h) (omega arith) is new)
        ∙ sym (ap (λ r. cond (is_eq r) ((k.0, e.1) ∷ ks) (k ∷ set_value (is_at (R s)) ks e.1)) (past_first s k ks at x h (omega arith) is))

    pub beyond_place : (ks : List (K × X)) (at : ℕ) (s : K) (x : K × X) → T (is_sorted R ks) → at < length ks → (get_or ks at x).0 ≡ s → beyond R s ks ≡ drop (suc at) ks
    beyond_place [] at s x h lt is = absurd (omega arith)
    beyond_place (k ∷ ks) zero s x h lt is =
        ap (λ r. cond (is_lt r) (k ∷ beyond R s ks) (beyond R s ks)) (tied_first R o s k.0 is) ∙ beyond_all s ks (tied_before R o s k.0 ks (tied_first R o s k.0 is) (first_so _ _ h))
    beyond_place (k ∷ ks) (suc at) s x h lt is =
        ap (λ r. cond (is_lt r) (k ∷ beyond R s ks) (beyond R s ks)) (past_first s k ks at x h (omega arith) is) ∙ beyond_place ks at s x (second_so _ _ h) (omega arith) is

    pub earlier_place : (ks : List (K × X)) (at : ℕ) (s : K) (x : K × X) → T (is_sorted R ks) → at < length ks → (get_or ks at x).0 ≡ s → earlier R s ks ≡ take at ks
    earlier_place [] at s x h lt is = absurd (omega arith)
    earlier_place (k ∷ ks) zero s x h lt is =
        ap (λ r. cond (is_lt r) (k ∷ earlier R s ks) (earlier R s ks)) (ap (λ (t : K). R t s) is ∙ tied_itself o s)
        ∙ earlier_none s ks (tied_before R o s k.0 ks (tied_first R o s k.0 is) (first_so _ _ h))
    earlier_place (k ∷ ks) (suc at) s x h lt is =
        ap (λ r. cond (is_lt r) (k ∷ earlier R s ks) (earlier R s ks)) (less_of R o k.0 s (past_first s k ks at x h (omega arith) is))
        ∙ ap (λ (r : List (K × X)). k ∷ r) (earlier_place ks at s x (second_so _ _ h) (omega arith) is)

-- ---- what holds of all places holds of those that hold something

module _ {K A : Type 0} (R : K → K → Ordering) where
  pub below_all-live : (t : K) (ks : List (K × List A)) → T (below_all R t ks) → T (below_all R t (live ks))
  below_all-live t [] h = tt
  below_all-live t ((s, []) ∷ ks) h = below_all-live t ks (second_so _ _ h)
  below_all-live t ((s, n ∷ ns) ∷ ks) h = both_so (is_lt (R t s)) _ (first_so _ _ h) (below_all-live t ks (second_so _ _ h))

  pub sorted-live : (ks : List (K × List A)) → T (is_sorted R ks) → T (is_sorted R (live ks))
  sorted-live [] h = tt
  sorted-live ((s, []) ∷ ks) h = sorted-live ks (second_so _ _ h)
  sorted-live ((s, n ∷ ns) ∷ ks) h = both_so (below_all R s (live ks)) _ (below_all-live s ks (first_so _ _ h)) (sorted-live ks (second_so _ _ h))

  pub none-live : (s : K) (ks : List (K × List A)) → lookup (is_at (R s)) ks ≡ None → lookup (is_at (R s)) (live ks) ≡ None
  none-live s [] h = refl
  none-live s ((t, []) ∷ ks) h =
      none-live s ks (elim (is_eq (R s t)) as (λ b. cond b (Some []) (lookup (is_at (R s)) ks) ≡ None → lookup (is_at (R s)) ks ≡ None) [ true ↦ λ e. absurd cc | false ↦ λ e. e ] h)
  none-live s ((t, n ∷ ns) ∷ ks) h =
      elim (is_eq (R s t)) as (λ b. cond b (Some (n ∷ ns)) (lookup (is_at (R s)) ks) ≡ None → cond b (Some (n ∷ ns)) (lookup (is_at (R s)) (live ks)) ≡ None) [
        | true ↦ λ e. e
        | false ↦ λ e. none-live s ks e
      ] h

  pub live-insert : IsTotalOrder R → (s : K) (c : List A) (ks : List (K × List A)) → T (is_sorted R ks) → lookup (is_at (R s)) ks ≡ None → 0 < length c
      → live (insert_entry R ks s c) ≡ insert_entry R (live ks) s c
  live-insert o s c [] h none f = live_filled s c [] f
  live-insert o s c ((t, []) ∷ ks) h none f =
      elim (R s t) as (λ r. R s t ≡ r → cond (is_eq r) (Some []) (lookup (is_at (R s)) ks) ≡ None
      → live (match_ordering r ((s, c) ∷ (t, []) ∷ ks) ((t, c) ∷ ks) ((t, []) ∷ insert_entry R ks s c)) ≡ insert_entry R (live ks) s c) [
        | Less ↦ λ e l. live_filled s c ((t, []) ∷ ks) f ∙ sym (insert_before R s c (live ks) (below_all-live s ks (before_less R o s t ks e (first_so _ _ h))))
        | Equal ↦ λ e l. absurd cc
        | Greater ↦ λ e l. live-insert o s c ks (second_so _ _ h) l f
      ] refl none
  live-insert o s c ((t, n ∷ ns) ∷ ks) h none f =
      elim (R s t) as (λ r. R s t ≡ r → cond (is_eq r) (Some (n ∷ ns)) (lookup (is_at (R s)) ks) ≡ None
      → live (match_ordering r ((s, c) ∷ (t, n ∷ ns) ∷ ks) ((t, c) ∷ ks) ((t, n ∷ ns) ∷ insert_entry R ks s c))
      ≡ match_ordering r ((s, c) ∷ (t, n ∷ ns) ∷ live ks) ((t, c) ∷ live ks) ((t, n ∷ ns) ∷ insert_entry R (live ks) s c)) [
        | Less ↦ λ e l. live_filled s c ((t, n ∷ ns) ∷ ks) f
        | Equal ↦ λ e l. absurd cc
        | Greater ↦ λ e l. ap (λ (r : List (K × List A)). (t, n ∷ ns) ∷ r) (live-insert o s c ks (second_so _ _ h) l f)
      ] refl none
