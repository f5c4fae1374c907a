-- A row that grows and shrinks, with others behind it.
use Rattle.std.proofs.Common.{◌≡◌, ℕ, zero, suc, ◌+◌, ◌<◌, ◌≤◌, ℤ, pos, negsuc, ◌+ℤ◌, ◌^◌, Bool, true, false, cond, List, [], ◌∷◌, ◌++◌, length, length-append, Option, Some, None, refl, sym, ap, ◌∙◌, subst, arith}
use Rattle.std.specs.Prelude.{T, ◌<ℤ◌, ◌≤ℤ◌, slice_set}
use Rattle.std.specs.declared.cmp.Ordering.TheVariants.{Less, Greater}
use Rattle.std.specs.Ordering.{is_lt}
use Rattle.std.proofs.lemmas.Int.{ints}
use Rattle.std.specs.FinMap.{is_sorted}
use Rattle.std.specs.FinMap.Entries.{below_all}
use Rattle.std.specs.Map.{lookup, set_value, remove_entry}
use Rattle.std.specs.BTreeMap.{is_at, insert_entry}
use Rattle.mj_num.specs.Number.{number_of, is_canonic, IsInRange}
use Rattle.mj_subs.specs.Collation.{subscript_cmp}
use Rattle.mj_subs.specs.Laws.Total.{subscript_cmp_total}
use Rattle.mj_store.specs.Questions.{Subtree}
use Rattle.mj_tree.specs.Nest.{AreFilled}
use Rattle.mj_tree.specs.Rows.{IsNumber, AreNumbers, IsRow, IsPlaceOf, IsEnd, IsAhead, AllBefore, live, IsOrdered, IsTrimmed}
use Rattle.mj_tree.specs.Maps.{first_so, second_so, both_so, lookup_before, before_less, sorted_insert, sorted_set_value, sorted_removed}
use Rattle.mj_tree.proofs.Copies.{joined}
use Rattle.mj_tree.proofs.Places.{trimmed_pushed, live-append, live_filled, live-insert, lookup_behind, lookup_past, insert_past, insert_before, insert_between, below_all-live, sorted_back, sorted_without}
use Rattle.mj_tree.proofs.Puts.{filled_insert}
use Rattle.mj_tree.proofs.Numbers.{number_before, after_numbers, numbers_pushed, numbers_front, bounded}

abbrev Places : Type 0
Places = List (List ℕ × Subtree)

-- a number at the end of a row, or past it, comes behind it
pub behind_row : (s : List ℕ) (n : ℤ) (gap : ℕ) (row : Places) → IsRow row → IsNumber s n → IsEnd row gap n → AllBefore subscript_cmp s row
behind_row s n gap [] r h e = tt
behind_row s n gap (k ∷ ks) r h e =
    let first : number_of k.0 ≡ r.0 = r.1.0.1 in
    let end : n ≡ number_of k.0 +ℤ pos (suc (length ks) + gap) = e in
    let past : (r.0 +ℤ pos (suc (length ks))) ≤ℤ n = omega (arith, ints) in after_numbers s n r.0 (k ∷ ks) h r.1 past

-- it has no place where all others come after it
pub absent_between : (s : List ℕ) (row others : Places) → AllBefore subscript_cmp s row → T (below_all subscript_cmp s others) → lookup (is_at (subscript_cmp s)) (row ++ others) ≡ None
absent_between s row others b h = lookup_past subscript_cmp s row others (lookup_behind subscript_cmp s row b) ∙ lookup_before subscript_cmp s others h

inserted : (s : List ℕ) (c : Subtree) (n : ℤ) (row others : Places) → IsRow row → IsNumber s n → IsEnd row 0 n → T (below_all subscript_cmp s others)
    → (row ++ (s, c) ∷ []) ++ others ≡ insert_entry subscript_cmp (row ++ others) s c
inserted s c n row others r h e b = joined row ((s, c) ∷ []) others ∙ sym (insert_between subscript_cmp s c row others (behind_row s n 0 row r h e) b)

row_pushed : (s : List ℕ) (c : Subtree) (n : ℤ) (row : Places) → IsRow row → IsNumber s n → IsEnd row 0 n → IsRow (row ++ (s, c) ∷ [])
row_pushed s c n [] r h e = (n, (h, tt))
row_pushed s c n (k ∷ ks) r h e =
    let first : number_of k.0 ≡ r.0 = r.1.0.1 in
    let end : n ≡ number_of k.0 +ℤ pos (suc (length ks) + 0) = e in
    let is : n ≡ r.0 +ℤ pos (suc (length ks)) = omega (arith, ints) in (r.0, numbers_pushed r.0 (k ∷ ks) s c r.1 (subst (IsNumber s) is h))

-- the next number is put behind a row
pub pushed : (s : List ℕ) (c : Subtree) (n : ℤ) (row others : Places) → IsOrdered row others → IsNumber s n → IsEnd row 0 n → T (below_all subscript_cmp s others)
    → IsOrdered (row ++ (s, c) ∷ []) others
pushed s c n row others o h e b = record {
  is_row = row_pushed s c n row o.is_row h e;
  rises =
      subst (λ (xs : Places). T (is_sorted subscript_cmp xs)) (sym (inserted s c n row others o.is_row h e b)) (sorted_insert subscript_cmp subscript_cmp_total (row ++ others) s c o.rises);
  filled = o.filled;
}

pub live_pushed : (s : List ℕ) (c : Subtree) (n : ℤ) (row others : Places) → IsOrdered row others → IsNumber s n → IsEnd row 0 n → T (below_all subscript_cmp s others) → 0 < length c
    → live ((row ++ (s, c) ∷ []) ++ others) ≡ insert_entry subscript_cmp (live (row ++ others)) s c
live_pushed s c n row others o h e b f =
    ap (λ (xs : Places). live xs) (inserted s c n row others o.is_row h e b)
    ∙ live-insert subscript_cmp subscript_cmp_total s c (row ++ others) o.rises (absent_between s row others (behind_row s n 0 row o.is_row h e) b) f

pub live_hole : (s : List ℕ) (c : Subtree) (row others : Places) → c ≡ [] → live ((row ++ (s, c) ∷ []) ++ others) ≡ live (row ++ others)
live_hole s c row others is =
    ap (λ (xs : Places). live xs) (joined row ((s, c) ∷ []) others)
    ∙ ap (λ (d : Subtree). live (row ++ (s, d) ∷ others)) is
    ∙ live-append row ((s, []) ∷ others)
    ∙ sym (live-append row others)

-- the number of the first empty place behind a row
pub hole_end : (n m : ℤ) (gap : ℕ) (row : Places) → IsEnd row (gap + 1) n → m +ℤ pos (gap + 1) ≡ n → IsEnd row 0 m
hole_end n m gap [] e is = absurd (omega arith)
hole_end n m gap (k ∷ ks) e is =
    let end : n ≡ number_of k.0 +ℤ pos (suc (length ks) + (gap + 1)) = e in
    let is : m ≡ number_of k.0 +ℤ pos (suc (length ks) + 0) = omega (arith, ints) in is

pub end_pushed : (n : ℤ) (gap : ℕ) (s : List ℕ) (c : Subtree) (row : Places) → IsEnd row (gap + 1) n → IsEnd (row ++ (s, c) ∷ []) gap n
end_pushed n gap s c [] e = absurd (omega arith)
end_pushed n gap s c (k ∷ ks) e =
    let l : length (ks ++ (s, c) ∷ []) ≡ length ks + 1 = length-append ks ((s, c) ∷ []) in
    let end : n ≡ number_of k.0 +ℤ pos (suc (length ks) + (gap + 1)) = e in
    let is : n ≡ number_of k.0 +ℤ pos (suc (length (ks ++ (s, c) ∷ [])) + gap) = omega (arith, ints) in is

-- it is in range, and comes before what the first behind it comes before
pub hole_before : (s t : List ℕ) (n m : ℤ) (gap : ℕ) (others : Places) → IsNumber s n → IsNumber t m → m +ℤ pos (gap + 1) ≡ n → T (below_all subscript_cmp s others)
    → T (below_all subscript_cmp t others)
hole_before s t n m gap others h k is b = let lt : m <ℤ n = omega (arith, ints) in before_less subscript_cmp subscript_cmp_total t s others (number_before t s m n k h lt) b

-- ---- before a row

first_less : (s : List ℕ) (n : ℤ) (gap : ℕ) (k : List ℕ × Subtree) (ks : Places) → IsRow (k ∷ ks) → IsNumber s n → IsAhead (k ∷ ks) gap n → subscript_cmp s k.0 ≡ Less
first_less s n gap k ks r h e =
    let ahead : number_of k.0 ≡ n +ℤ pos (gap + 1) = e in
    let lt : n <ℤ number_of k.0 = omega (arith, ints) in number_before s k.0 n (number_of k.0) h (r.1.0.0, refl) lt

pub before_row : (s : List ℕ) (n : ℤ) (gap : ℕ) (row others : Places) → IsOrdered row others → IsNumber s n → IsAhead row gap n → T (below_all subscript_cmp s (row ++ others))
before_row s n gap [] others o h e = absurd e
before_row s n gap (k ∷ ks) others o h e =
    let less = first_less s n gap k ks o.is_row h e in
    both_so (is_lt (subscript_cmp s k.0)) (below_all subscript_cmp s (ks ++ others)) (subst (λ r. T (is_lt r)) (sym less) tt)
    (before_less subscript_cmp subscript_cmp_total s k.0 (ks ++ others) less (first_so _ _ o.rises))

row_fronted : (s : List ℕ) (c : Subtree) (n : ℤ) (row : Places) → IsRow row → IsNumber s n → IsAhead row 0 n → IsRow ((s, c) ∷ row)
row_fronted s c n [] r h e = absurd e
row_fronted s c n (k ∷ ks) r h e =
    let first : number_of k.0 ≡ r.0 = r.1.0.1 in
    let ahead : number_of k.0 ≡ n +ℤ pos (0 + 1) = e in
    let is : r.0 ≡ n +ℤ pos 1 = omega (arith, ints) in (n, (h, subst (λ z. AreNumbers z (k ∷ ks)) is r.1))

-- the number before is put before a row
pub fronted : (s : List ℕ) (c : Subtree) (n : ℤ) (row others : Places) → IsOrdered row others → IsNumber s n → IsAhead row 0 n → IsOrdered ((s, c) ∷ row) others
fronted s c n row others o h e = record {
  is_row = row_fronted s c n row o.is_row h e;
  rises = both_so (below_all subscript_cmp s (row ++ others)) _ (before_row s n 0 row others o h e) o.rises;
  filled = o.filled;
}

pub live_fronted : (s : List ℕ) (c : Subtree) (n : ℤ) (row others : Places) → IsOrdered row others → IsNumber s n → IsAhead row 0 n → 0 < length c
    → live (((s, c) ∷ row) ++ others) ≡ insert_entry subscript_cmp (live (row ++ others)) s c
live_fronted s c n row others o h e f =
    live_filled s c (row ++ others) f ∙ sym (insert_before subscript_cmp s c (live (row ++ others)) (below_all-live subscript_cmp s (row ++ others) (before_row s n 0 row others o h e)))

pub live_hole_front : (s : List ℕ) (c : Subtree) (row others : Places) → c ≡ [] → live (((s, c) ∷ row) ++ others) ≡ live (row ++ others)
live_hole_front s c row others is = ap (λ (d : Subtree). live ((s, d) ∷ (row ++ others))) is

pub hole_ahead : (n m : ℤ) (gap : ℕ) (row : Places) → IsAhead row (gap + 1) n → m ≡ n +ℤ pos (gap + 1) → IsAhead row 0 m
hole_ahead n m gap [] e is = absurd e
hole_ahead n m gap (k ∷ ks) e is =
    let ahead : number_of k.0 ≡ n +ℤ pos ((gap + 1) + 1) = e in
    let next : number_of k.0 ≡ m +ℤ pos (0 + 1) = omega (arith, ints) in next

-- ---- what goes

pub front_gone : (x : List ℕ × Subtree) (row others : Places) → IsOrdered (x ∷ row) others → IsOrdered row others
front_gone x row others o = record { is_row = (o.is_row.0 +ℤ pos 1, o.is_row.1.1); rises = second_so _ _ o.rises; filled = o.filled }

pub back_gone : (x : List ℕ × Subtree) (row others : Places) → IsOrdered (row ++ x ∷ []) others → IsOrdered row others
back_gone x row others o = record {
  is_row = (o.is_row.0, numbers_front o.is_row.0 row (x ∷ []) o.is_row.1);
  rises = sorted_without subscript_cmp row (x ∷ []) others (subst (λ (xs : Places). T (is_sorted subscript_cmp xs)) (joined row (x ∷ []) others) o.rises);
  filled = o.filled;
}

-- the last of a row goes before the others
pub moved : (s : List ℕ) (c : Subtree) (row others : Places) → IsOrdered (row ++ (s, c) ∷ []) others → insert_entry subscript_cmp others s c ≡ (s, c) ∷ others
moved s c row others o =
    insert_before subscript_cmp s c others
    (first_so _ _ (sorted_back subscript_cmp row ((s, c) ∷ others) (subst (λ (xs : Places). T (is_sorted subscript_cmp xs)) (joined row ((s, c) ∷ []) others) o.rises)))

pub moved_ordered : (s : List ℕ) (c : Subtree) (row others : Places) → IsOrdered (row ++ (s, c) ∷ []) others → 0 < length c → IsOrdered row ((s, c) ∷ others)
moved_ordered s c row others o f = record {
  is_row = (o.is_row.0, numbers_front o.is_row.0 row ((s, c) ∷ []) o.is_row.1);
  rises = subst (λ (xs : Places). T (is_sorted subscript_cmp xs)) (joined row ((s, c) ∷ []) others) o.rises;
  filled = (f, o.filled);
}

-- a child that comes behind the row is put to the others
pub other_ordered : (s : List ℕ) (c : Subtree) (row others : Places) → IsOrdered row others → AllBefore subscript_cmp s row → 0 < length c → IsOrdered row (insert_entry subscript_cmp others s c)
other_ordered s c row others o b f = record {
  is_row = o.is_row;
  rises =
      subst (λ (xs : Places). T (is_sorted subscript_cmp xs)) (insert_past subscript_cmp s c row others b) (sorted_insert subscript_cmp subscript_cmp_total (row ++ others) s c o.rises);
  filled = filled_insert subscript_cmp others s c o.filled f;
}

pub other_live : (s : List ℕ) (c : Subtree) (row others : Places) → IsOrdered row others → AllBefore subscript_cmp s row → lookup (is_at (subscript_cmp s)) (row ++ others) ≡ None → 0 < length c
    → live (row ++ insert_entry subscript_cmp others s c) ≡ insert_entry subscript_cmp (live (row ++ others)) s c
other_live s c row others o b none f =
    ap (λ (xs : Places). live xs) (sym (insert_past subscript_cmp s c row others b)) ∙ live-insert subscript_cmp subscript_cmp_total s c (row ++ others) o.rises none f

-- the hole before a row is so much nearer
pub ahead_fronted : (n m : ℤ) (gap : ℕ) (s : List ℕ) (c : Subtree) (row : Places) → IsNumber s m → m ≡ n +ℤ pos (gap + 1) → IsAhead ((s, c) ∷ row) gap n
ahead_fronted n m gap s c row h is = h.1 ∙ is

-- numbers between two numbers are in range
pub between_in_range : (a b m : ℤ) → IsInRange a → IsInRange b → a ≤ℤ m → m ≤ℤ b → IsInRange m
between_in_range (pos a) (pos b) (pos m) p q l u = let r : m < 10 ^ 18 = omega (arith, ints) in r
between_in_range (pos a) (pos b) (negsuc m) p q l u = absurd (omega (arith, ints))
between_in_range (pos a) (negsuc b) m p q l u = absurd (omega (arith, ints))
between_in_range (negsuc a) (pos b) (pos m) p q l u = let r : m < 10 ^ 18 = omega (arith, ints) in r
between_in_range (negsuc a) (pos b) (negsuc m) p q l u = let r : suc m < 10 ^ 18 = omega (arith, ints) in r
between_in_range (negsuc a) (negsuc b) (pos m) p q l u = absurd (omega (arith, ints))
between_in_range (negsuc a) (negsuc b) (negsuc m) p q l u = let r : suc m < 10 ^ 18 = omega (arith, ints) in r

-- ---- one more empty place, behind a row and before one

pub record IsLonger (s : List ℕ) (n : ℤ) (gap : ℕ) (row new others : Places) : Type 0 where
  pub ordered : IsOrdered new others
  pub trimmed : IsTrimmed new
  pub end : IsEnd new gap n
  pub same : live (new ++ others) ≡ live (row ++ others)

pub longer_behind : (s t : List ℕ) (d : Subtree) (n m : ℤ) (gap : ℕ) (row new others : Places) → IsOrdered row others → IsTrimmed row → IsNumber s n → IsEnd row (gap + 1) n
    → T (below_all subscript_cmp s others) → IsNumber t m → m +ℤ pos (gap + 1) ≡ n → d ≡ [] → new ≡ row ++ (t, d) ∷ [] → IsLonger s n gap row new others
longer_behind s t d n m gap row new others o trimmed h e b k is empty put =
    subst (λ (r : Places). IsLonger s n gap row r others) (sym put) (record {
      ordered = pushed t d m row others o k (hole_end n m gap row e is) (hole_before s t n m gap others h k is b);
      trimmed = trimmed_pushed row t d trimmed (λ none. absurd (no_end row e none));
      end = end_pushed n gap t d row e;
      same = live_hole t d row others empty;
    })
  where
    no_end : (row : Places) → IsEnd row (gap + 1) n → row ≡ [] → ⊥
    no_end [] e none = omega arith
    no_end (r ∷ rs) e none = absurd cc

pub record IsLongerAhead (n : ℤ) (gap : ℕ) (row new others : Places) : Type 0 where
  pub ordered : IsOrdered new others
  pub ahead : IsAhead new gap n
  pub same : live (new ++ others) ≡ live (row ++ others)

pub longer_ahead : (t : List ℕ) (d : Subtree) (n m : ℤ) (gap : ℕ) (row new others : Places) → IsOrdered row others → IsAhead row (gap + 1) n → IsNumber t m → m ≡ n +ℤ pos (gap + 1) → d ≡ []
    → new ≡ (t, d) ∷ row → IsLongerAhead n gap row new others
longer_ahead t d n m gap row new others o e k is empty put =
    subst (λ (r : Places). IsLongerAhead n gap row r others) (sym put) (record {
      ordered = fronted t d m row others o k (hole_ahead n m gap row e is);
      ahead = ahead_fronted n m gap t d row k is;
      same = live_hole_front t d row others empty;
    })
