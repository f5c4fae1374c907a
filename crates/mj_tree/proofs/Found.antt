-- The first and the last of some children, and of those beyond a subscript.
use Rattle.std.proofs.Common.{◌≡◌, ℕ, zero, suc, ◌-◌, ◌<◌, ◌≤◌, Bool, true, false, cond, not, ◌&&◌, List, [], ◌∷◌, ◌++◌, length, take, drop, get_or, Option, Some, None, Bor, refl, sym, ap, ◌∙◌, subst, arith}
use Rattle.std.specs.Prelude.{slice_range}
use Rattle.std.specs.declared.cmp.Ordering.{Ordering}
use Rattle.std.specs.declared.cmp.Ordering.TheVariants.{Less, Equal, Greater}
use Rattle.std.specs.declared.ops.Bound.TheVariants.{Excluded, Unbounded}
use Rattle.std.specs.Ordering.{is_lt, is_le, ordering_reverse}
use Rattle.std.specs.Cmp.{IsTotalOrder}
use Rattle.std.specs.List.{filter}
use Rattle.std.specs.Map.Iter.{TakesFirst, TakesLast, deref_pair}
use Rattle.std.specs.BTreeMap.Range.{entries_between}
use Rattle.mj_store.specs.Nodes.{is_empty}
use Rattle.mj_tree.specs.Nest.{AreFilled, beyond}
use Rattle.mj_tree.specs.Rows.{live, earlier, IsFirst, IsLast}
use Rattle.mj_tree.proofs.Copies.{joined}
use Rattle.mj_tree.proofs.Places.{filter-append, filter_swap, live-append, live_filled, live_whole}

append_none : {A : Type 0} (xs : List A) → xs ++ [] ≡ xs
append_none [] = refl
append_none (x ∷ xs) = ap (λ ys. x ∷ ys) (append_none xs)

and_true : (a : Bool) → a && true ≡ a
and_true true = refl
and_true false = refl

turned : {K : Type 0} (R : K → K → Ordering) (o : IsTotalOrder R) (s k : K) → not (is_le (R s k)) ≡ is_lt (R k s)
turned R o s k = ap (λ r. not (is_le r)) (o.antisymm s k) ∙ elim (R k s) as (λ r. not (is_le (ordering_reverse r)) ≡ is_lt r) [ Less ↦ refl | Equal ↦ refl | Greater ↦ refl ]

-- ---- in one list behind another

module _ {K X : Type 0} where
  pub first_front : (xs ys : List (K × X)) (x : Bor K × Bor X) → IsFirst xs (Some x) → IsFirst (xs ++ ys) (Some x)
  first_front xs ys x h = (h.0 ++ ys, ap (λ (zs : List (K × X)). zs ++ ys) h.1)

  pub first_behind : (xs ys : List (K × X)) (r : Option (Bor K × Bor X)) → IsFirst xs None → IsFirst ys r → IsFirst (xs ++ ys) r
  first_behind xs ys r h k = subst (λ (zs : List (K × X)). IsFirst (zs ++ ys) r) (sym h.1.0) k

  pub last_behind : (xs ys : List (K × X)) (x : Bor K × Bor X) → IsLast ys (Some x) → IsLast (xs ++ ys) (Some x)
  last_behind xs ys x h = (xs ++ h.0, ap (λ (zs : List (K × X)). xs ++ zs) h.1 ∙ sym (joined xs h.0 (deref_pair x ∷ [])))

  pub last_front : (xs ys : List (K × X)) (r : Option (Bor K × Bor X)) → IsLast ys None → IsLast xs r → IsLast (xs ++ ys) r
  last_front xs ys r h k = subst (λ (zs : List (K × X)). IsLast zs r) (sym (ap (λ (zs : List (K × X)). xs ++ zs) h.1.0 ∙ append_none xs)) k

  same_test : (f g : K × X → Bool) → ((x : K × X) → f x ≡ g x) → (xs : List (K × X)) → filter f xs ≡ filter g xs
  same_test f g same [] = refl
  same_test f g same (x ∷ xs) = (λ i. cond (same x i) (x ∷ same_test f g same xs i) (same_test f g same xs i))

  module _ (R : K → K → Ordering) (o : IsTotalOrder R) where
    pub between_after : (s : K) (es fs : List (K × X)) → fs ≡ entries_between R (Excluded s) Unbounded es → fs ≡ beyond R s es
    between_after s es fs e = e ∙ same_test (λ k. is_lt (R s k.0) && true) (λ k. is_lt (R s k.0)) (λ k. and_true (is_lt (R s k.0))) es

    pub between_before : (s : K) (es fs : List (K × X)) → fs ≡ entries_between R Unbounded (Excluded s) es → fs ≡ earlier R s es
    between_before s es fs e = e ∙ same_test (λ k. not (is_le (R s k.0))) (λ k. is_lt (R k.0 s)) (λ k. turned R o s k.0) es

-- ---- in a row with others behind it

module _ {K V : Type 0} where
  filled_test : (f : K × List (List K × V) → Bool) (ks : List (K × List (List K × V))) → AreFilled ks → AreFilled (filter f ks)
  filled_test f [] h = tt
  filled_test f (k ∷ ks) h = elim (f k) as (λ b. AreFilled (cond b (k ∷ filter f ks) (filter f ks))) [ true ↦ (h.0, filled_test f ks h.1) | false ↦ filled_test f ks h.1 ]

  -- a test of what is live in a row and the others behind it
  tested : (f : K × List (List K × V) → Bool) (row others : List (K × List (List K × V))) → AreFilled others → filter f (live (row ++ others)) ≡ live (filter f row) ++ filter f others
  tested f row others h =
      filter_swap f (λ (k : K × List (List K × V)). not (is_empty k.1)) (row ++ others)
      ∙ ap (λ (ks : List (K × List (List K × V))). live ks) (filter-append f row others)
      ∙ live-append (filter f row) (filter f others)
      ∙ ap (λ (ks : List (K × List (List K × V))). live (filter f row) ++ ks) (live_whole (filter f others) (filled_test f others h))

  all_live : (row others : List (K × List (List K × V))) → AreFilled others → live (row ++ others) ≡ live row ++ others
  all_live row others h = live-append row others ∙ ap (λ (ks : List (K × List (List K × V))). live row ++ ks) (live_whole others h)

  pub first_of_row : (row others : List (K × List (List K × V))) (x : Bor K × Bor (List (List K × V))) → AreFilled others → IsFirst (live row) (Some x) → IsFirst (live (row ++ others)) (Some x)
  first_of_row row others x f h = subst (λ (ks : List (K × List (List K × V))). IsFirst ks (Some x)) (sym (all_live row others f)) (first_front (live row) others x h)

  pub first_of_others : (row others : List (K × List (List K × V))) (r : Option (Bor K × Bor (List (List K × V)))) → AreFilled others → IsFirst (live row) None → IsFirst others r
      → IsFirst (live (row ++ others)) r
  first_of_others row others r f h k = subst (λ (ks : List (K × List (List K × V))). IsFirst ks r) (sym (all_live row others f)) (first_behind (live row) others r h k)

  pub last_of_others : (row others : List (K × List (List K × V))) (x : Bor K × Bor (List (List K × V))) → AreFilled others → IsLast others (Some x) → IsLast (live (row ++ others)) (Some x)
  last_of_others row others x f h = subst (λ (ks : List (K × List (List K × V))). IsLast ks (Some x)) (sym (all_live row others f)) (last_behind (live row) others x h)

  pub last_of_row : (row others : List (K × List (List K × V))) (r : Option (Bor K × Bor (List (List K × V)))) → AreFilled others → IsLast others None → IsLast (live row) r
      → IsLast (live (row ++ others)) r
  last_of_row row others r f h k = subst (λ (ks : List (K × List (List K × V))). IsLast ks r) (sym (all_live row others f)) (last_front (live row) others r h k)

  module _ (R : K → K → Ordering) (s : K) (row others : List (K × List (List K × V))) (f : AreFilled others) where
    pub after_row : (from : ℕ) (x : Bor K × Bor (List (List K × V))) → beyond R s row ≡ drop from row → IsFirst (live (drop from row)) (Some x) → IsFirst (beyond R s (live (row ++ others))) (Some x)
    after_row from x part h =
        subst (λ (ks : List (K × List (List K × V))). IsFirst ks (Some x)) (sym (tested (λ k. is_lt (R s k.0)) row others f))
        (first_front (live (beyond R s row)) (beyond R s others) x (subst (λ (ks : List (K × List (List K × V))). IsFirst (live ks) (Some x)) (sym part) h))

    pub after_others : (from : ℕ) (r : Option (Bor K × Bor (List (List K × V)))) → beyond R s row ≡ drop from row → IsFirst (live (drop from row)) None → IsFirst (beyond R s others) r
        → IsFirst (beyond R s (live (row ++ others))) r
    after_others from r part h k =
        subst (λ (ks : List (K × List (List K × V))). IsFirst ks r) (sym (tested (λ k. is_lt (R s k.0)) row others f))
        (first_behind (live (beyond R s row)) (beyond R s others) r (subst (λ (ks : List (K × List (List K × V))). IsFirst (live ks) None) (sym part) h) k)

    pub before_others : (x : Bor K × Bor (List (List K × V))) → IsLast (earlier R s others) (Some x) → IsLast (earlier R s (live (row ++ others))) (Some x)
    before_others x h =
        subst (λ (ks : List (K × List (List K × V))). IsLast ks (Some x)) (sym (tested (λ k. is_lt (R k.0 s)) row others f)) (last_behind (live (earlier R s row)) (earlier R s others) x h)

    pub before_row : (end : ℕ) (r : Option (Bor K × Bor (List (List K × V)))) → earlier R s row ≡ take end row → IsLast (earlier R s others) None → IsLast (live (take end row)) r
        → IsLast (earlier R s (live (row ++ others))) r
    before_row end r part h k =
        subst (λ (ks : List (K × List (List K × V))). IsLast ks r) (sym (tested (λ k. is_lt (R k.0 s)) row others f))
        (last_front (live (earlier R s row)) (earlier R s others) r h (subst (λ (ks : List (K × List (List K × V))). IsLast (live ks) r) (sym part) k))

-- ---- in the loops over a row

module _ {K A : Type 0} where
  -- a child that holds something is the first of those that are left
  pub live_found : (all left rest : List (K × List A)) (x : K × List A) → live all ≡ live left → left ≡ x ∷ rest → (x.1 ≡ [] → ⊥) → live all ≡ x ∷ live rest
  live_found all left rest x same next some = same ∙ ap (λ (ks : List (K × List A)). live ks) next ∙ live_filled x.0 x.1 rest (filled x.1 some)
    where
      filled : (c : List A) → (c ≡ [] → ⊥) → 0 < length c
      filled [] none = absurd (none refl)
      filled (n ∷ ns) none = omega arith

  pub live_past : (all left rest : List (K × List A)) (x : K × List A) → live all ≡ live left → left ≡ x ∷ rest → x.1 ≡ [] → live all ≡ live rest
  live_past all left rest x same next none = same ∙ ap (λ (ks : List (K × List A)). live ks) next ∙ ap (λ (c : List A). live ((x.0, c) ∷ rest)) none

  take_last : (ks : List (K × List A)) (at : ℕ) (x : K × List A) → at < length ks → take (suc at) ks ≡ take at ks ++ get_or ks at x ∷ []
  take_last [] at x lt = absurd (omega arith)
  take_last (k ∷ ks) zero x lt = refl
  take_last (k ∷ ks) (suc at) x lt = ap (λ (r : List (K × List A)). k ∷ r) (take_last ks at x (omega arith))

  back_at : (ks : List (K × List A)) (n at : ℕ) (x : K × List A) → n ≡ suc at → at < length ks → x ≡ get_or ks at x → live (take n ks) ≡ live (take at ks) ++ live (x ∷ [])
  back_at ks n at x is lt e =
      ap (λ m. live (take m ks)) is
      ∙ ap (λ (r : List (K × List A)). live r) (take_last ks at x lt ∙ ap (λ (y : K × List A). take at ks ++ y ∷ []) (sym e))
      ∙ live-append (take at ks) (x ∷ [])

  pub live_back : (ks : List (K × List A)) (all : List (K × List A)) (n at : ℕ) (x : K × List A) → all ≡ live (take n ks) → n ≡ suc at → at < length ks → x ≡ get_or ks at x → (x.1 ≡ [] → ⊥)
      → all ≡ live (take at ks) ++ x ∷ []
  live_back ks all n at x same is lt e some = same ∙ back_at ks n at x is lt e ∙ ap (λ (r : List (K × List A)). live (take at ks) ++ r) (live_found (x ∷ []) (x ∷ []) [] x refl refl some)

  pub live_back_past : (ks : List (K × List A)) (all : List (K × List A)) (n at : ℕ) (x : K × List A) → all ≡ live (take n ks) → n ≡ suc at → at < length ks → x ≡ get_or ks at x → x.1 ≡ []
      → all ≡ live (take at ks)
  live_back_past ks all n at x same is lt e none =
      same ∙ back_at ks n at x is lt e ∙ ap (λ (r : List (K × List A)). live (take at ks) ++ r) (live_past (x ∷ []) (x ∷ []) [] x refl refl none) ∙ append_none (live (take at ks))

  -- what an iterator from a place on has
  pub range_from : (ks : List (K × List A)) (from end : ℕ) → end ≡ length ks → slice_range ks from end ≡ drop from ks
  range_from ks from end is = ap (λ n. slice_range ks from n) is ∙ whole (drop from ks) (length ks - from) (short ks from)
    where
      whole : (xs : List (K × List A)) (n : ℕ) → length xs ≤ n → take n xs ≡ xs
      whole [] zero h = refl
      whole [] (suc n) h = refl
      whole (x ∷ xs) zero h = absurd (omega arith)
      whole (x ∷ xs) (suc n) h = ap (λ (r : List (K × List A)). x ∷ r) (whole xs n (omega arith))

      short : (xs : List (K × List A)) (n : ℕ) → length (drop n xs) ≤ length xs - n
      short [] zero = omega arith
      short [] (suc n) = omega arith
      short (x ∷ xs) zero = omega arith
      short (x ∷ xs) (suc n) = omega (arith, short xs n)
