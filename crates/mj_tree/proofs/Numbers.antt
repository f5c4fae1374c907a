-- Rows of numbers, and where a subscript stands to them.
use Rattle.std.proofs.Common.{◌≡◌, ℕ, zero, suc, ◌+◌, ◌<◌, ◌≤◌, ℤ, pos, ◌+ℤ◌, Bool, true, false, cond, List, [], ◌∷◌, ◌++◌, length, take, drop, get_or, Option, Some, None, refl, sym, ap, ◌∙◌, subst, arith}
use Rattle.std.specs.Prelude.{T, slice_set, int_lt, ◌<ℤ◌, ◌≤ℤ◌, ◌-ℤ◌, MatchOption}
use Rattle.std.specs.declared.cmp.Ordering.{Ordering}
use Rattle.std.specs.declared.cmp.Ordering.TheVariants.{Less, Equal, Greater}
use Rattle.std.specs.Ordering.{is_eq, is_lt, int_cmp}
use Rattle.std.proofs.lemmas.Cmp.{int_ranked}
use Rattle.std.proofs.lemmas.Int.{ints}
use Rattle.std.specs.FinMap.{is_sorted}
use Rattle.std.specs.FinMap.Entries.{below_all}
use Rattle.std.specs.Map.{lookup}
use Rattle.std.specs.BTreeMap.{is_at, insert_entry}
use Rattle.mj_num.specs.Number.{number_of, is_canonic, IsInRange}
use Rattle.mj_num.proofs.Laws.{canonic_same, written_of-canonic}
use Rattle.mj_subs.specs.Collation.{subscript_cmp, filled_cmp}
use Rattle.mj_subs.specs.Laws.Total.{subscript_cmp_total}
use Rattle.mj_store.specs.Questions.{Subtree}
use Rattle.mj_tree.specs.Nest.{AreFilled, beyond}
use Rattle.mj_tree.specs.Rows.{IsNumber, AreNumbers, IsRow, IsPlace, IsPlaceOf, IsEnd, IsPast, IsAhead, is_ahead, AllBefore, earlier, live, IsOrdered, IsTrimmed}
use Rattle.mj_tree.specs.Maps.{first_so, second_so, both_so, is_less, lookup_before, before_less, sorted_insert}
use Rattle.mj_tree.proofs.Copies.{joined}
use Rattle.mj_tree.proofs.Places.{lookup_behind, lookup_place, beyond_place, earlier_place, beyond_all, earlier_none, beyond_none, earlier_all, sorted_front, sorted_without, insert_between, live-append, live-insert}

int_less : (x y : ℤ) → x <ℤ y → int_cmp x y ≡ Less
int_less x y h = by (int_lt x y) refl
  where
    by : (t : Bool) → int_lt x y ≡ t → cond t Less (cond (int_lt y x) Greater Equal) ≡ Less
    by true e = refl
    by false e = absurd (omega (arith, ints))

int_greater : (x y : ℤ) → y <ℤ x → int_cmp x y ≡ Greater
int_greater x y h = by (int_lt x y) (int_lt y x) refl refl
  where
    by : (t u : Bool) → int_lt x y ≡ t → int_lt y x ≡ u → cond t Less (cond u Greater Equal) ≡ Greater
    by true u e f = absurd (omega (arith, ints))
    by false true e f = refl
    by false false e f = absurd (omega (arith, ints))

-- ---- two subscripts of which one is a number

pub cmp_numbers : (s t : List ℕ) → is_canonic s ≡ true → is_canonic t ≡ true → subscript_cmp s t ≡ int_cmp (number_of s) (number_of t)
cmp_numbers [] t p q = absurd cc
cmp_numbers (b ∷ s) [] p q = absurd cc
cmp_numbers (b ∷ s) (c ∷ t) p q = (λ i. filled_cmp (p i) (q i) (b ∷ s) (c ∷ t))

of_numbers : (s t : List ℕ) (n m : ℤ) → IsNumber s n → IsNumber t m → subscript_cmp s t ≡ int_cmp n m
of_numbers s t n m h k = cmp_numbers s t h.0 k.0 ∙ (λ i. int_cmp (h.1 i) (k.1 i))

pub number_before : (s t : List ℕ) (n m : ℤ) → IsNumber s n → IsNumber t m → n <ℤ m → subscript_cmp s t ≡ Less
number_before s t n m h k lt = of_numbers s t n m h k ∙ int_less n m lt

number_after : (s t : List ℕ) (n m : ℤ) → IsNumber s n → IsNumber t m → m <ℤ n → subscript_cmp s t ≡ Greater
number_after s t n m h k lt = of_numbers s t n m h k ∙ int_greater n m lt

-- a filled text that is no number comes behind each number
word_after : (b : ℕ) (s t : List ℕ) → is_canonic (b ∷ s) ≡ false → is_canonic t ≡ true → subscript_cmp (b ∷ s) t ≡ Greater
word_after b s [] p q = absurd cc
word_after b s (c ∷ t) p q = (λ i. filled_cmp (p i) (q i) (b ∷ s) (c ∷ t))

empty_before : (t : List ℕ) → is_canonic t ≡ true → subscript_cmp [] t ≡ Less
empty_before [] q = absurd cc
empty_before (c ∷ t) q = refl

pub bounded : (s : List ℕ) (n : ℤ) → IsNumber s n → IsInRange n
bounded s n h = subst IsInRange h.1 (written_of-canonic s h.0).bounded

same_number : (s t : List ℕ) (n m : ℤ) → IsNumber s n → IsNumber t m → n ≡ m → s ≡ t
same_number s t n m h k e = canonic_same s t h.0 k.0 (h.1 ∙ e ∙ sym k.1)

not_ahead : (s t : List ℕ) (n z : ℤ) → IsNumber s n → IsNumber t z → is_lt (subscript_cmp s t) ≡ false → z ≤ℤ n
not_ahead s t n z h k e = by (int_lt n z) refl
  where
    by : (b : Bool) → int_lt n z ≡ b → z ≤ℤ n
    by true f = let lt : n <ℤ z = omega (arith, ints) in let g : true ≡ false = sym (ap is_lt (number_before s t n z h k lt)) ∙ e in absurd cc
    by false f = omega (arith, ints)

-- ---- a subscript and a row

module _ {X : Type 0} where
  pub below_numbers : (s : List ℕ) (n z : ℤ) (ks : List (List ℕ × X)) → IsNumber s n → n <ℤ z → AreNumbers z ks → T (below_all subscript_cmp s ks)
  below_numbers s n z [] h lt a = tt
  below_numbers s n z (k ∷ ks) h lt a =
      both_so (is_lt (subscript_cmp s k.0)) (below_all subscript_cmp s ks) (subst (λ r. T (is_lt r)) (sym (number_before s k.0 n z h a.0 lt)) tt)
      (below_numbers s n (z +ℤ pos 1) ks h (omega (arith, ints)) a.1)

  pub after_numbers : (s : List ℕ) (n z : ℤ) (ks : List (List ℕ × X)) → IsNumber s n → AreNumbers z ks → (z +ℤ pos (length ks)) ≤ℤ n → AllBefore subscript_cmp s ks
  after_numbers s n z [] h a le = tt
  after_numbers s n z (k ∷ ks) h a le =
      let past : (z +ℤ pos (suc (length ks))) ≤ℤ n = le in
      let first : z <ℤ n = omega (arith, ints) in
      let rest : ((z +ℤ pos 1) +ℤ pos (length ks)) ≤ℤ n = omega (arith, ints) in (number_after s k.0 n z h a.0 first, after_numbers s n (z +ℤ pos 1) ks h a.1 rest)

  at_number : (z : ℤ) (ks : List (List ℕ × X)) (at : ℕ) (d : List ℕ × X) → AreNumbers z ks → at < length ks → IsNumber (get_or ks at d).0 (z +ℤ pos at)
  at_number z [] at d a lt = absurd (omega arith)
  at_number z (k ∷ ks) zero d a lt = subst (IsNumber k.0) (omega (arith, ints)) a.0
  at_number z (k ∷ ks) (suc at) d a lt = subst (IsNumber (get_or ks at d).0) (omega (arith, ints)) (at_number (z +ℤ pos 1) ks at d a.1 (omega arith))

  -- the number that stands so far behind the first is at that place
  pub the_place : (n z : ℤ) (ks : List (List ℕ × X)) (at : ℕ) → AreNumbers z ks → at < length ks → n ≡ z +ℤ pos at → IsPlace n ks (Some at)
  the_place n z ks at a lt is = (lt, λ s h d. same_number (get_or ks at d).0 s (z +ℤ pos at) n (at_number z ks at d a lt) h (sym is))

  pub no_place_below : (n z : ℤ) (ks : List (List ℕ × X)) → AreNumbers z ks → n <ℤ z → IsPlace n ks None
  no_place_below n z ks a lt s h = lookup_before subscript_cmp s ks (below_numbers s n z ks h lt a)

  pub no_place_past : (n z : ℤ) (ks : List (List ℕ × X)) → AreNumbers z ks → (z +ℤ pos (length ks)) ≤ℤ n → IsPlace n ks None
  no_place_past n z ks a le s h = lookup_behind subscript_cmp s ks (after_numbers s n z ks h a le)

  -- the place of a subscript is that of its number
  pub place_by_number : (s : List ℕ) (n : ℤ) (ks : List (List ℕ × X)) (r : Option ℕ) → IsNumber s n → IsPlace n ks r → IsPlaceOf s ks r
  place_by_number s n ks None h p = p s h
  place_by_number s n ks (Some at) h p = (p.0, λ d. p.1 s h d)

  words_after : (b : ℕ) (s : List ℕ) (z : ℤ) (ks : List (List ℕ × X)) → is_canonic (b ∷ s) ≡ false → AreNumbers z ks → AllBefore subscript_cmp (b ∷ s) ks
  words_after b s z [] p a = tt
  words_after b s z (k ∷ ks) p a = (word_after b s k.0 p a.0.0, words_after b s (z +ℤ pos 1) ks p a.1)

  -- no number has the place of a text that is none
  pub no_place_word : (s : List ℕ) (z : ℤ) (ks : List (List ℕ × X)) → is_canonic s ≡ false → AreNumbers z ks → lookup (is_at (subscript_cmp s)) ks ≡ None
  no_place_word [] z [] p a = refl
  no_place_word [] z (k ∷ ks) p a = ap (λ r. cond (is_eq r) (Some k.1) (lookup (is_at (subscript_cmp [])) ks)) (empty_before k.0 a.0.0) ∙ no_place_word [] (z +ℤ pos 1) ks p a.1
  no_place_word (b ∷ s) z ks p a = lookup_behind subscript_cmp (b ∷ s) ks (words_after b s z ks p a)

  past_numbers : (s : List ℕ) (n z : ℤ) (ks : List (List ℕ × X)) → IsNumber s n → AreNumbers z ks → z ≤ℤ n → lookup (is_at (subscript_cmp s)) ks ≡ None → AllBefore subscript_cmp s ks
  past_numbers s n z [] h a le none = tt
  past_numbers s n z (k ∷ ks) h a le none =
      elim (subscript_cmp s k.0) as (λ r. subscript_cmp s k.0 ≡ r → cond (is_eq r) (Some k.1) (lookup (is_at (subscript_cmp s)) ks) ≡ None → (r ≡ Greater) × AllBefore subscript_cmp s ks) [
        | Less ↦ λ e l. let lt : n <ℤ z = int_ranked n z Less (sym e ∙ of_numbers s k.0 n z h a.0) in absurd (omega (arith, ints))
        | Equal ↦ λ e l. absurd cc
        | Greater ↦ λ e l.
            let lt : z <ℤ n = int_ranked n z Greater (sym e ∙ of_numbers s k.0 n z h a.0) in (refl, past_numbers s n (z +ℤ pos 1) ks h a.1 (omega (arith, ints)) l)
      ] refl none

  -- what has no place in a row and doesn't stand before it comes behind it
  pub past_row : (s : List ℕ) (z : ℤ) (ks : List (List ℕ × X)) → AreNumbers z ks → lookup (is_at (subscript_cmp s)) ks ≡ None → is_ahead s ks ≡ false → AllBefore subscript_cmp s ks
  past_row s z [] a none out = tt
  past_row [] z (k ∷ ks) a none out = let f : true ≡ false = sym (ap is_lt (empty_before k.0 a.0.0)) ∙ out in absurd cc
  past_row (b ∷ s) z (k ∷ ks) a none out = by (is_canonic (b ∷ s)) refl
    where
      by : (t : Bool) → is_canonic (b ∷ s) ≡ t → AllBefore subscript_cmp (b ∷ s) (k ∷ ks)
      by true p = past_numbers (b ∷ s) (number_of (b ∷ s)) z (k ∷ ks) (p, refl) a (not_ahead (b ∷ s) k.0 (number_of (b ∷ s)) z (p, refl) a.0 out) none
      by false p = words_after b s z (k ∷ ks) p a

  -- what stands before the first of a row stands before all of it
  pub ahead_row : (s : List ℕ) (ks : List (List ℕ × X)) → T (is_sorted subscript_cmp ks) → is_ahead s ks ≡ true → T (below_all subscript_cmp s ks)
  ahead_row s [] h out = absurd cc
  ahead_row s (k ∷ ks) h out =
      let lt : T (is_lt (subscript_cmp s k.0)) = subst T (sym out) tt in
      both_so (is_lt (subscript_cmp s k.0)) (below_all subscript_cmp s ks) lt (before_less subscript_cmp subscript_cmp_total s k.0 ks (is_less _ lt) (first_so _ _ h))

  -- how many places come before a subscript, and how many up to it
  pub span_place : (s : List ℕ) (ks : List (List ℕ × X)) (at : ℕ) → T (is_sorted subscript_cmp ks) → IsPlaceOf s ks (Some at)
      → (earlier subscript_cmp s ks ≡ take at ks) × (beyond subscript_cmp s ks ≡ drop (at + 1) ks)
  span_place s [] at h p = absurd (omega (arith, p.0))
  span_place s (k ∷ ks) at h p = (
    earlier_place subscript_cmp subscript_cmp_total (k ∷ ks) at s k h p.0 (p.1 k),
    beyond_place subscript_cmp subscript_cmp_total (k ∷ ks) at s k h p.0 (p.1 k) ∙ ap (λ n. drop n (k ∷ ks)) {x = suc at} {y = at + 1} (omega arith),
  )

  take_all : (ks : List (List ℕ × X)) → take (length ks) ks ≡ ks
  take_all [] = refl
  take_all (k ∷ ks) = ap (λ (r : List (List ℕ × X)). k ∷ r) (take_all ks)

  drop_all : (ks : List (List ℕ × X)) → drop (length ks) ks ≡ []
  drop_all [] = refl
  drop_all (k ∷ ks) = drop_all ks

  pub span_ahead : (s : List ℕ) (ks : List (List ℕ × X)) → T (is_sorted subscript_cmp ks) → is_ahead s ks ≡ true
      → (earlier subscript_cmp s ks ≡ take 0 ks) × (beyond subscript_cmp s ks ≡ drop 0 ks)
  span_ahead s ks h out = let b = ahead_row s ks h out in (earlier_none subscript_cmp subscript_cmp_total s ks b, beyond_all subscript_cmp s ks b)

  pub span_past : (s : List ℕ) (ks : List (List ℕ × X)) (n : ℕ) → IsRow ks → lookup (is_at (subscript_cmp s)) ks ≡ None → is_ahead s ks ≡ false → n ≡ length ks
      → (earlier subscript_cmp s ks ≡ take n ks) × (beyond subscript_cmp s ks ≡ drop n ks)
  span_past s ks n r none out is =
      let b = past_row s r.0 ks r.1 none out in (
        earlier_all subscript_cmp subscript_cmp_total s ks b ∙ sym (take_all ks) ∙ ap (λ m. take m ks) (sym is),
        beyond_none subscript_cmp s ks b ∙ sym (drop_all ks) ∙ ap (λ m. drop m ks) (sym is),
      )

  -- ---- the first of a row

  pub start_told : (ks : List (List ℕ × X)) (x : List ℕ × X) (r : Option ℤ) → 0 < length ks → x ≡ get_or ks 0 x → IsRow ks
      → MatchOption r (is_canonic x.0 ≡ false) (λ n. (is_canonic x.0 ≡ true) × (n ≡ number_of x.0)) → MatchOption r (ks ≡ []) (λ z. AreNumbers z ks)
  start_told [] x r some is row told = absurd (omega arith)
  start_told (k ∷ ks) x None some is row told = let f : true ≡ false = sym row.1.0.0 ∙ ap (λ (e : List ℕ × X). is_canonic e.0) (sym is) ∙ told in absurd cc
  start_told (k ∷ ks) x (Some n) some is row told =
      subst (λ z. AreNumbers z (k ∷ ks)) (sym row.1.0.1 ∙ ap (λ (e : List ℕ × X). number_of e.0) (sym is) ∙ sym told.1) row.1

  pub numbers_set : (z : ℤ) (ks : List (List ℕ × X)) (at : ℕ) (e x : List ℕ × X) → AreNumbers z ks → at < length ks → e.0 ≡ (get_or ks at x).0 → AreNumbers z (slice_set ks at e)
  numbers_set z [] at e x a lt is = absurd (omega arith)
  numbers_set z (k ∷ ks) zero e x a lt is = (subst (λ s. IsNumber s z) (sym is) a.0, a.1)
  numbers_set z (k ∷ ks) (suc at) e x a lt is = (a.0, numbers_set (z +ℤ pos 1) ks at e x a.1 (omega arith) is)

  pub numbers_pushed : (z : ℤ) (ks : List (List ℕ × X)) (s : List ℕ) (c : X) → AreNumbers z ks → IsNumber s (z +ℤ pos (length ks)) → AreNumbers z (ks ++ (s, c) ∷ [])
  numbers_pushed z [] s c a h = (subst (IsNumber s) (omega (arith, ints)) h, tt)
  numbers_pushed z (k ∷ ks) s c a h = (a.0, numbers_pushed (z +ℤ pos 1) ks s c a.1 (subst (IsNumber s) (omega (arith, ints)) h))

  pub numbers_front : (z : ℤ) (xs ys : List (List ℕ × X)) → AreNumbers z (xs ++ ys) → AreNumbers z xs
  numbers_front z [] ys a = tt
  numbers_front z (x ∷ xs) ys a = (a.0, numbers_front (z +ℤ pos 1) xs ys a.1)

  nearest : (s : List ℕ) (n z : ℤ) (k : List ℕ × X) (ks : List (List ℕ × X)) → IsNumber s n → AreNumbers z (k ∷ ks) → AllBefore subscript_cmp s (k ∷ ks) → z ≤ℤ n
  nearest s n z k ks h a b = let lt : z <ℤ n = int_ranked n z Greater (sym b.0 ∙ of_numbers s k.0 n z h a.0) in let le : z ≤ℤ n = omega (arith, ints) in le

  far : (s : List ℕ) (n z : ℤ) (ks : List (List ℕ × X)) → IsNumber s n → AreNumbers z ks → AllBefore subscript_cmp s ks → z ≤ℤ n → (z +ℤ pos (length ks)) ≤ℤ n
  far s n z [] h a b le = let is : (z +ℤ pos 0) ≤ℤ n = omega (arith, ints) in is
  far s n z (k ∷ ks) h a b le =
      let lt : z <ℤ n = int_ranked n z Greater (sym b.0 ∙ of_numbers s k.0 n z h a.0) in
      let next : (z +ℤ pos 1) ≤ℤ n = omega (arith, ints) in
      let rest : ((z +ℤ pos 1) +ℤ pos (length ks)) ≤ℤ n = far s n (z +ℤ pos 1) ks h a.1 b.1 next in
      let is : (z +ℤ pos (suc (length ks))) ≤ℤ n = omega (arith, ints) in is

  -- a number that comes behind a row is so many numbers past its end
  pub past_of : (s : List ℕ) (n : ℤ) (ks : List (List ℕ × X)) → IsNumber s n → IsRow ks → AllBefore subscript_cmp s ks → IsPast n ks
  past_of s n [] h r b = tt
  past_of s n (k ∷ ks) h r b = subst (λ z. (z +ℤ pos (length (k ∷ ks))) ≤ℤ n) (sym r.1.0.1) (far s n r.0 (k ∷ ks) h r.1 b (nearest s n r.0 k ks h r.1 b))
