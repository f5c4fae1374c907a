-- The labels of a map, and which line one leads to once another has come.
use Rattle.std.proofs.Common.{◌≡◌, ℕ, zero, suc, arith, true, false, Bool, cond, nat_cmp, List, [], ◌∷◌, ◌++◌, Option, Some, None, Vec, Global, refl, sym, ap, ◌∙◌}
use Rattle.std.specs.Option.{is_some, unwrap_or}
use Rattle.std.specs.Str.{bytes_eq}
use Rattle.std.specs.Cmp.Lexicographic.{slice_cmp, nat_list_cmp_total, nat_list_eq_equiv}
use Rattle.std.specs.declared.cmp.Ordering.{Ordering}
use Rattle.std.specs.declared.cmp.Ordering.TheVariants.{Less, Equal, Greater}
use Rattle.std.specs.Ordering.{is_eq, match_ordering}
use Rattle.std.specs.FinMap.{slice_cmp-IsAntisymmetric, nat_cmp-IsAntisymmetric}
use Rattle.std.specs.List.{All}
use Rattle.std.specs.Map.{lookup}
use Rattle.std.specs.BTreeMap.{is_at, insert_entry}
use Rattle.std.proofs.lemmas.Cmp.{tied_itself}
use Rattle.std.proofs.lemmas.Map.Text.{is_eq-slice_cmp}
use Rattle.std.proofs.lemmas.Slice.Eq.{bytes_eq-Decides}
use Rattle.std.proofs.lemmas.List.Elements.{All-append, All-weaker}
use Rattle.mj_pcode.specs.Labels.{Labels, spelled, line_with, with_label}
use Rattle.mj_pcode.specs.Rows.{IsRow, AreRows}

-- the order of texts
abbrev by_bytes : List ℕ → List ℕ → Ordering
by_bytes = slice_cmp nat_cmp

-- ---- labels by their bytes are the labels

same_test : (l t : List ℕ) → is_eq (by_bytes l t) ≡ bytes_eq t l
same_test l t = is_eq-slice_cmp l t ∙ nat_list_eq_equiv.symm l t

pub line_spelled : (l : List ℕ) (es : List (Vec ℕ Global × ℕ)) → lookup (is_at (λ (k : Vec ℕ Global). by_bytes l k.items)) es ≡ line_with l (spelled es)
line_spelled l [] = refl
line_spelled l (e ∷ es) = λ i. cond (same_test l e.0.items i) (Some e.1) (line_spelled l es i)

pub insert_spelled : (es : List (Vec ℕ Global × ℕ)) (k : Vec ℕ Global) (n : ℕ)
    → spelled (insert_entry (λ (x y : Vec ℕ Global). by_bytes x.items y.items) es k n) ≡ insert_entry by_bytes (spelled es) k.items n
insert_spelled [] k n = refl
insert_spelled (e ∷ es) k n =
    elim (by_bytes k.items e.0.items) as (λ r. spelled (match_ordering r ((k, n) ∷ e ∷ es) ((e.0, n) ∷ es) (e ∷ insert_entry (λ (x y : Vec ℕ Global). by_bytes x.items y.items) es k n))
    ≡ match_ordering r ((k.items, n) ∷ (e.0.items, e.1) ∷ spelled es) ((e.0.items, n) ∷ spelled es) ((e.0.items, e.1) ∷ insert_entry by_bytes (spelled es) k.items n)) [
      | Less ↦ refl
      | Equal ↦ refl
      | Greater ↦ ap (λ (r : Labels). (e.0.items, e.1) ∷ r) (insert_spelled es k n)
    ]

-- ---- a label leads to the line that it came with, and each other one to the same line as before

same_bytes : (l t : List ℕ) → bytes_eq t l ≡ true → t ≡ l
same_bytes l t e = (bytes_eq-Decides t l).0 e

-- a label in the place of one with the same text
over_same : (l t u : List ℕ) (k n : ℕ) (es : Labels) → t ≡ u → cond (bytes_eq u l) (Some k) (line_with l es) ≡ cond (bytes_eq t l) (Some k) (cond (bytes_eq u l) (Some n) (line_with l es))
over_same l t u k n es e =
    go (bytes_eq u l) ∙ ap (λ (w : List ℕ). cond (bytes_eq w l) (Some k) (cond (bytes_eq u l) (Some n) (line_with l es))) (sym e)
  where
    go : (b : Bool) → cond b (Some k) (line_with l es) ≡ cond b (Some k) (cond b (Some n) (line_with l es))
    go true = refl
    go false = refl

-- a label behind one with another text
past_other : (l t u : List ℕ) (k n : ℕ) (es later : Labels) → by_bytes t u ≡ Greater → line_with l later ≡ cond (bytes_eq t l) (Some k) (line_with l es)
    → cond (bytes_eq u l) (Some n) (line_with l later) ≡ cond (bytes_eq t l) (Some k) (cond (bytes_eq u l) (Some n) (line_with l es))
past_other l t u k n es later apart h =
    ap (λ (o : Option ℕ). cond (bytes_eq u l) (Some n) o) h ∙ go (bytes_eq u l) (bytes_eq t l) refl refl
  where
    go : (b a : Bool) → bytes_eq u l ≡ b → bytes_eq t l ≡ a → cond b (Some n) (cond a (Some k) (line_with l es)) ≡ cond a (Some k) (cond b (Some n) (line_with l es))
    go true true p q =
        let same : t ≡ u = same_bytes l t q ∙ sym (same_bytes l u p) in
        let tied : by_bytes t u ≡ Equal = ap (by_bytes t) (sym same) ∙ tied_itself nat_list_cmp_total t in
        let e : ◌≡◌ {A = Ordering} Greater Equal = sym apart ∙ tied in
        cc
    go true false p q = refl
    go false true p q = refl
    go false false p q = refl

line_inserted : (l t : List ℕ) (k : ℕ) (labels : Labels) → line_with l (insert_entry by_bytes labels t k) ≡ cond (bytes_eq t l) (Some k) (line_with l labels)
line_inserted l t k [] = refl
line_inserted l t k (e ∷ es) =
    elim (by_bytes t e.0) as (λ r. by_bytes t e.0 ≡ r → line_with l (match_ordering r ((t, k) ∷ e ∷ es) ((e.0, k) ∷ es) (e ∷ insert_entry by_bytes es t k))
    ≡ cond (bytes_eq t l) (Some k) (cond (bytes_eq e.0 l) (Some e.1) (line_with l es))) [
      | Less ↦ λ p. refl
      | Equal ↦ λ p. over_same l t e.0 k e.1 es (slice_cmp-IsAntisymmetric nat_cmp-IsAntisymmetric t e.0 p)
      | Greater ↦ λ p. past_other l t e.0 k e.1 es (insert_entry by_bytes es t k) p (line_inserted l t k es)
    ] refl

pub is_none : (o : Option ℕ) → is_some o ≡ false → o ≡ None
is_none None e = refl
is_none (Some n) e = let p : ◌≡◌ {A = Bool} true false = e in cc

-- the rows of labels, once one more label has come with its row
pub one_more_row : (labels : Labels) (l : List ℕ) (k : ℕ) (rows : List (List ℕ × ℕ))
    → line_with l labels ≡ None → AreRows labels rows → AreRows (insert_entry by_bytes labels l k) (rows ++ (l, k) ∷ [])
one_more_row labels l k rows none are =
    All-append (IsRow (insert_entry by_bytes labels l k)) rows ((l, k) ∷ [])
    (All-weaker (IsRow labels) (IsRow (insert_entry by_bytes labels l k)) (λ row is. line_inserted row.0 l k labels ∙ other row (bytes_eq l row.0) refl is) rows are)
    (one (line_inserted l l k labels ∙ ap (λ (b : Bool). cond b (Some k) (line_with l labels)) ((bytes_eq-Decides l l).1 refl)))
  where
    one : IsRow (insert_entry by_bytes labels l k) (l, k) → All (IsRow (insert_entry by_bytes labels l k)) ((l, k) ∷ [])
    one is zero d h = is
    one is (suc j) d h = absurd (omega (arith, h))

    other : (row : List ℕ × ℕ) (b : Bool) → bytes_eq l row.0 ≡ b → line_with row.0 labels ≡ Some row.1 → cond b (Some k) (line_with row.0 labels) ≡ Some row.1
    other row true e is =
        let never : ◌≡◌ {A = Option ℕ} None (Some row.1) = sym none ∙ ap (λ (w : List ℕ). line_with w labels) (same_bytes row.0 l e) ∙ is in
        cc
    other row false e is = is

-- Once a label has come with line k, another one leads to the line that it led to before, or else to `later`; this one leads to the
-- line that it led to before, or else to line k.
pub line_behind : (l t : List ℕ) (k later : ℕ) (labels : Labels) → unwrap_or (line_with l (with_label labels t k)) later ≡ unwrap_or (line_with l labels) (cond (bytes_eq t l) k later)
line_behind l t k later labels = go (line_with t labels) refl
  where
    -- the label is the one that came
    absent : (b : Bool) → bytes_eq t l ≡ b → line_with t labels ≡ None → unwrap_or (cond b (Some k) (line_with l labels)) later ≡ unwrap_or (line_with l labels) (cond b k later)
    absent true e none = ap (λ (o : Option ℕ). unwrap_or o k) (sym (ap (λ (w : List ℕ). line_with w labels) (sym (same_bytes l t e)) ∙ none))
    absent false e none = refl

    present : (b : Bool) (n : ℕ) → bytes_eq t l ≡ b → line_with t labels ≡ Some n → unwrap_or (line_with l labels) later ≡ unwrap_or (line_with l labels) (cond b k later)
    present true n e some =
        let there : line_with l labels ≡ Some n = ap (λ (w : List ℕ). line_with w labels) (sym (same_bytes l t e)) ∙ some in
        ap (λ (o : Option ℕ). unwrap_or o later) there ∙ sym (ap (λ (o : Option ℕ). unwrap_or o k) there)
    present false n e some = refl

    go : (o : Option ℕ) → line_with t labels ≡ o → unwrap_or (line_with l (elim o as (λ v. Labels) [ None ↦ insert_entry by_bytes labels t k | Some n ↦ labels ])) later
        ≡ unwrap_or (line_with l labels) (cond (bytes_eq t l) k later)
    go None none = ap (λ (o : Option ℕ). unwrap_or o later) (line_inserted l t k labels) ∙ absent (bytes_eq t l) refl none
    go (Some n) some = present (bytes_eq t l) n refl some

-- ---- a label that comes

pub kept : (labels : Labels) (l : List ℕ) (k : ℕ) → is_some (line_with l labels) ≡ true → with_label labels l k ≡ labels
kept labels l k there = go (line_with l labels) there
  where
    go : (o : Option ℕ) → is_some o ≡ true → elim o as (λ v. Labels) [ None ↦ insert_entry by_bytes labels l k | Some n ↦ labels ] ≡ labels
    go None e = let p : ◌≡◌ {A = Bool} false true = e in cc
    go (Some n) e = refl

pub came : (labels : Labels) (l : List ℕ) (k : ℕ) → is_some (line_with l labels) ≡ false → with_label labels l k ≡ insert_entry by_bytes labels l k
came labels l k absent = go (line_with l labels) absent
  where
    go : (o : Option ℕ) → is_some o ≡ false → elim o as (λ v. Labels) [ None ↦ insert_entry by_bytes labels l k | Some n ↦ labels ] ≡ insert_entry by_bytes labels l k
    go None e = refl
    go (Some n) e = let p : ◌≡◌ {A = Bool} true false = e in cc
