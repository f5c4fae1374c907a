-- The places of words, and what changes where one word gets other nodes.
use Rattle.std.proofs.Common.{◌≡◌, ℕ, ◌+◌, ◌<◌, zero, suc, Bool, true, false, cond, List, [], ◌∷◌, ◌++◌, length, get_or, inl, inr, length-append, Option, Some, None, Vec, Global, refl, sym, ap, ◌∙◌, subst, arith}
use Rattle.std.specs.Prelude.{T, is_some, slice_set}
use Rattle.std.specs.Option.{option_map}
use Rattle.std.specs.declared.cmp.Ordering.{Ordering}
use Rattle.std.specs.declared.cmp.Ordering.TheVariants.{Less, Equal, Greater}
use Rattle.std.specs.Ordering.{is_eq, match_ordering}
use Rattle.std.specs.Cmp.{tied_itself}
use Rattle.std.specs.Map.{lookup}
use Rattle.std.specs.BTreeMap.{is_at, insert_entry}
use Rattle.std.specs.FinMap.{is_sorted}
use Rattle.std.proofs.lemmas.Cmp.{nat_list_cmp_total}
use Rattle.std.proofs.lemmas.List.{get_or_read}
use Rattle.std.proofs.lemmas.Bool.{cases_lt}
use Rattle.mj_store.specs.Questions.{Subtree}
use Rattle.mj_tree.specs.Nest.{nodes_of}
use Rattle.mj_globs.proofs.Groups.{W, S, W_same}
use Rattle.mj_locals.specs.Trees.{Trees, at, placed, added, place_of, word_at, IsPlace, AreTrees}
use Rattle.mj_locals.specs.Placing.{ArePlaced}

pub is_tied : (r : Ordering) → is_eq r ≡ true → r ≡ Equal
is_tied Less e = absurd cc
is_tied Equal e = refl
is_tied Greater e = absurd cc

pub same_word : (v w : List ℕ) → is_eq (W v w) ≡ true → v ≡ w
same_word v w e = W_same v w (is_tied _ e)

pub itself : (w : List ℕ) → is_eq (W w w) ≡ true
itself w = ap is_eq (tied_itself nat_list_cmp_total w)

-- ---- the place of a word

-- a word that has a place stands there, and has the nodes of that place
pub placing : (ts : Trees) (w : List ℕ) (p : ℕ) → place_of w ts ≡ Some p → (p < length ts) × (word_at ts p ≡ w) × (lookup (is_at (W w)) ts ≡ Some (get_or ts p ([], [])).1)
placing [] w p e = absurd cc
placing (k ∷ ks) w p e = by (placing ks w) (is_eq (W w k.0)) refl (place_of w ks) refl
  where
    by : ((q : ℕ) → place_of w ks ≡ Some q → (q < length ks) × (word_at ks q ≡ w) × (lookup (is_at (W w)) ks ≡ Some (get_or ks q ([], [])).1)) → (b : Bool) → is_eq (W w k.0) ≡ b
        → (o : Option ℕ) → place_of w ks ≡ o → (p < length (k ∷ ks)) × (word_at (k ∷ ks) p ≡ w) × (lookup (is_at (W w)) (k ∷ ks) ≡ Some (get_or (k ∷ ks) p ([], [])).1)
    by so_below true is o f =
        let zero_is : 0 ≡ p = let s : Some 0 ≡ Some p = ap (λ b. cond b (Some 0) (option_map suc (place_of w ks))) (sym is) ∙ e in cc in
        subst (λ q. (q < length (k ∷ ks)) × (word_at (k ∷ ks) q ≡ w) × (lookup (is_at (W w)) (k ∷ ks) ≡ Some (get_or (k ∷ ks) q ([], [])).1)) zero_is
        (omega arith, sym (same_word w k.0 is), ap (λ b. cond b (Some k.1) (lookup (is_at (W w)) ks)) is)
    by so_below false is None f =
        let s : None ≡ Some p = sym (ap (option_map suc) f) ∙ ap (λ b. cond b (Some 0) (option_map suc (place_of w ks))) (sym is) ∙ e in
        absurd cc
    by so_below false is (Some q) f =
        let s : Some (suc q) ≡ Some p = sym (ap (option_map suc) f) ∙ ap (λ b. cond b (Some 0) (option_map suc (place_of w ks))) (sym is) ∙ e in
        let next : suc q ≡ p = cc in
        let so = so_below q f in
        subst (λ r. (r < length (k ∷ ks)) × (word_at (k ∷ ks) r ≡ w) × (lookup (is_at (W w)) (k ∷ ks) ≡ Some (get_or (k ∷ ks) r ([], [])).1)) next
        (omega (arith, so.0), so.1, ap (λ b. cond b (Some k.1) (lookup (is_at (W w)) ks)) is ∙ so.2)

-- a word without a place isn't there
pub no_place : (ts : Trees) (w : List ℕ) → place_of w ts ≡ None → lookup (is_at (W w)) ts ≡ None
no_place [] w e = refl
no_place (k ∷ ks) w e = by (no_place ks w) (is_eq (W w k.0)) refl (place_of w ks) refl
  where
    by : (place_of w ks ≡ None → lookup (is_at (W w)) ks ≡ None) → (b : Bool) → is_eq (W w k.0) ≡ b → (o : Option ℕ) → place_of w ks ≡ o → lookup (is_at (W w)) (k ∷ ks) ≡ None
    by below true is o f =
        let s : Some 0 ≡ None = ap (λ b. cond b (Some 0) (option_map suc (place_of w ks))) (sym is) ∙ e in
        absurd cc
    by below false is None f = ap (λ b. cond b (Some k.1) (lookup (is_at (W w)) ks)) is ∙ below f
    by below false is (Some q) f =
        let s : Some (suc q) ≡ None = sym (ap (option_map suc) f) ∙ ap (λ b. cond b (Some 0) (option_map suc (place_of w ks))) (sym is) ∙ e in
        absurd cc

-- ---- one word gets other nodes

pub placed_none : (ts : Trees) (w : List ℕ) (v : Subtree) → lookup (is_at (W w)) ts ≡ None → placed ts w v ≡ ts
placed_none [] w v none = refl
placed_none (k ∷ ks) w v none =
    elim (is_eq (W w k.0)) as (λ b. cond b (Some k.1) (lookup (is_at (W w)) ks) ≡ None → cond b ((k.0, v) ∷ ks) (k ∷ placed ks w v) ≡ k ∷ ks) [
      | true ↦ λ e. absurd cc
      | false ↦ λ e. ap (λ (r : Trees). k ∷ r) (placed_none ks w v e)
    ] none

-- no word moves
pub place_placed : (ts : Trees) (w : List ℕ) (n : Subtree) (v : List ℕ) → place_of v (placed ts w n) ≡ place_of v ts
place_placed [] w n v = refl
place_placed (k ∷ ks) w n v =
    elim (is_eq (W w k.0)) as (λ b. place_of v (cond b ((k.0, n) ∷ ks) (k ∷ placed ks w n)) ≡ place_of v (k ∷ ks)) [
      | true ↦ refl
      | false ↦ ap (λ (o : Option ℕ). cond (is_eq (W v k.0)) (Some 0) (option_map suc o)) (place_placed ks w n v)
    ]

pub length_placed : (ts : Trees) (w : List ℕ) (n : Subtree) → length (placed ts w n) ≡ length ts
length_placed [] w n = refl
length_placed (k ∷ ks) w n =
    elim (is_eq (W w k.0)) as (λ b. length (cond b ((k.0, n) ∷ ks) (k ∷ placed ks w n)) ≡ length (k ∷ ks)) [
      | true ↦ refl
      | false ↦ ap suc (length_placed ks w n)
    ]

pub word_placed : (ts : Trees) (w : List ℕ) (n : Subtree) (p : ℕ) → word_at (placed ts w n) p ≡ word_at ts p
word_placed [] w n p = refl
word_placed (k ∷ ks) w n zero =
    elim (is_eq (W w k.0)) as (λ b. word_at (cond b ((k.0, n) ∷ ks) (k ∷ placed ks w n)) 0 ≡ k.0) [ true ↦ refl | false ↦ refl ]
word_placed (k ∷ ks) w n (suc p) =
    elim (is_eq (W w k.0)) as (λ b. word_at (cond b ((k.0, n) ∷ ks) (k ∷ placed ks w n)) (suc p) ≡ word_at ks p) [ true ↦ refl | false ↦ word_placed ks w n p ]

pub trees_placed : (ts : Trees) (w : List ℕ) (n : Subtree) → AreTrees ts → T (is_sorted S n) → AreTrees (placed ts w n)
trees_placed [] w n h s = tt
trees_placed (k ∷ ks) w n h s =
    elim (is_eq (W w k.0)) as (λ b. AreTrees (cond b ((k.0, n) ∷ ks) (k ∷ placed ks w n))) [
      | true ↦ (s, h.1)
      | false ↦ (h.0, trees_placed ks w n h.1 s)
    ]

-- the row of a word's place is written
pub written : (ts : Trees) (w : List ℕ) (p : ℕ) (n : Subtree) → place_of w ts ≡ Some p → slice_set ts p (w, n) ≡ placed ts w n
written [] w p n e = absurd cc
written (k ∷ ks) w p n e = by (λ q. written ks w q n) (is_eq (W w k.0)) refl (place_of w ks) refl
  where
    by : ((q : ℕ) → place_of w ks ≡ Some q → slice_set ks q (w, n) ≡ placed ks w n) → (b : Bool)
        → is_eq (W w k.0) ≡ b → (o : Option ℕ) → place_of w ks ≡ o → slice_set (k ∷ ks) p (w, n) ≡ placed (k ∷ ks) w n
    by below true is o f =
        let zero_is : 0 ≡ p = let s : Some 0 ≡ Some p = ap (λ b. cond b (Some 0) (option_map suc (place_of w ks))) (sym is) ∙ e in cc in
        subst (λ q. slice_set (k ∷ ks) q (w, n) ≡ placed (k ∷ ks) w n) zero_is
        (ap (λ (x : List ℕ). (x, n) ∷ ks) (same_word w k.0 is) ∙ sym (ap (λ b. cond b ((k.0, n) ∷ ks) (k ∷ placed ks w n)) is))
    by below false is None f =
        let s : None ≡ Some p = sym (ap (option_map suc) f) ∙ ap (λ b. cond b (Some 0) (option_map suc (place_of w ks))) (sym is) ∙ e in
        absurd cc
    by below false is (Some q) f =
        let s : Some (suc q) ≡ Some p = sym (ap (option_map suc) f) ∙ ap (λ b. cond b (Some 0) (option_map suc (place_of w ks))) (sym is) ∙ e in
        let next : suc q ≡ p = cc in
        subst (λ r. slice_set (k ∷ ks) r (w, n) ≡ placed (k ∷ ks) w n) next
        (ap (λ (r : Trees). k ∷ r) (below q f) ∙ sym (ap (λ b. cond b ((k.0, n) ∷ ks) (k ∷ placed ks w n)) is))

unchanged : (ts : Trees) (p : ℕ) (r : List ℕ × Subtree) → p < length ts → r ≡ get_or ts p ([], []) → slice_set ts p (word_at ts p, r.1) ≡ ts
unchanged [] p r h e = absurd (omega arith)
unchanged (k ∷ ks) zero r h e = ap (λ (x : List ℕ × Subtree). (k.0, x.1) ∷ ks) e
unchanged (k ∷ ks) (suc p) r h e = ap (λ (x : Trees). k ∷ x) (unchanged ks p r (omega arith) e)

pub placed_keeps : (rows : Trees) (es : List (Vec ℕ Global × ℕ)) → ArePlaced es rows → (w : List ℕ) (n : Subtree) → T (is_sorted S n) → ArePlaced es (placed rows w n)
placed_keeps rows es h w n s = (
  λ v. h.0 v ∙ sym (place_placed rows w n v),
  λ p less. ap (λ v. place_of v (placed rows w n)) (word_placed rows w n p) ∙ place_placed rows w n (word_at rows p) ∙ h.1 p (omega (arith, length_placed rows w n)),
  trees_placed rows w n h.2 s,
)

-- ---- the row of a place is written

-- what a table knows of the place of a row that it reads
module _ (rows : Trees) (es : List (Vec ℕ Global × ℕ)) (h : ArePlaced es rows) (p : ℕ) (r : List ℕ × Subtree) (within : p < length rows) (read : r ≡ get_or rows p r) where
  row_is : r ≡ get_or rows p ([], [])
  row_is = get_or_read rows p r within read ([], [])

  pub read_word : r.0 ≡ word_at rows p
  read_word = ap (λ (k : List ℕ × Subtree). k.0) row_is

  own_place : place_of (word_at rows p) rows ≡ Some p
  own_place = h.1 p within

  pub read_tree : r.1 ≡ at rows (word_at rows p)
  read_tree = ap (λ (k : List ℕ × Subtree). k.1) row_is ∙ sym (ap nodes_of (placing rows (word_at rows p) p own_place).2)

  pub written_row : (n : Subtree) → slice_set rows p (r.0, n) ≡ placed rows (word_at rows p) n
  written_row n = ap (λ (w : List ℕ). slice_set rows p (w, n)) read_word ∙ written rows (word_at rows p) p n own_place

  pub written_keeps : (n : Subtree) → T (is_sorted S n) → ArePlaced es (slice_set rows p (r.0, n))
  written_keeps n s = subst (ArePlaced es) (sym (written_row n)) (placed_keeps rows es h (word_at rows p) n s)

  pub written_at : (n : Subtree) (f : Subtree → Subtree) → n ≡ f r.1 → slice_set rows p (r.0, n) ≡ placed rows (word_at rows p) (f (at rows (word_at rows p)))
  written_at n f is = written_row n ∙ ap (placed rows (word_at rows p)) (is ∙ ap f read_tree)

  -- nothing changed
  pub written_same : (n : Subtree) → n ≡ r.1 → slice_set rows p (r.0, n) ≡ rows
  written_same n is = written_row n ∙ ap (placed rows (word_at rows p)) is ∙ sym (written rows (word_at rows p) p r.1 own_place) ∙ unchanged rows p r within row_is

-- ---- a row for a word that had none

pub found : (es : List (Vec ℕ Global × ℕ)) (key : Vec ℕ Global) (p : ℕ) (v : List ℕ) → lookup (is_at (λ (k : Vec ℕ Global). W key.items k.items)) es ≡ None
    → lookup (is_at (λ (k : Vec ℕ Global). W v k.items)) (insert_entry (λ (x y : Vec ℕ Global). W x.items y.items) es key p)
    ≡ cond (is_eq (W v key.items)) (Some p) (lookup (is_at (λ (k : Vec ℕ Global). W v k.items)) es)
found [] key p v none = refl
found (k ∷ ks) key p v none =
    elim (W key.items k.0.items) as (λ r. W key.items k.0.items ≡ r → cond (is_eq r) (Some k.1) (lookup (is_at (λ (x : Vec ℕ Global). W key.items x.items)) ks) ≡ None
    → lookup (is_at (λ (x : Vec ℕ Global). W v x.items)) (match_ordering r ((key, p) ∷ k ∷ ks) ((k.0, p) ∷ ks) (k ∷ insert_entry (λ (x y : Vec ℕ Global). W x.items y.items) ks key p))
    ≡ cond (is_eq (W v key.items)) (Some p) (lookup (is_at (λ (x : Vec ℕ Global). W v x.items)) (k ∷ ks))) [
      | Less ↦ λ e l. refl
      | Equal ↦ λ e l. absurd cc
      | Greater ↦ λ e l. ap (λ (o : Option ℕ). cond (is_eq (W v k.0.items)) (Some k.1) o) (found ks key p v l) ∙ swap (is_eq (W v k.0.items)) (is_eq (W v key.items)) refl refl e
    ] refl none
  where
    swap : (a b : Bool) → is_eq (W v k.0.items) ≡ a
        → is_eq (W v key.items) ≡ b → W key.items k.0.items ≡ Greater → cond a (Some k.1) (cond b (Some p) (lookup (is_at (λ (x : Vec ℕ Global). W v x.items)) ks))
        ≡ cond b (Some p) (cond a (Some k.1) (lookup (is_at (λ (x : Vec ℕ Global). W v x.items)) ks))
    swap true true f g e =
        let tied : W key.items k.0.items ≡ Equal = ap (λ x. W key.items x) (sym (same_word v k.0.items f)) ∙ ap (λ x. W x v) (sym (same_word v key.items g)) ∙ tied_itself nat_list_cmp_total v in
        absurd (cc (tied, e))
    swap true false f g e = refl
    swap false b f g e = refl

place_pushed : (ts : Trees) (w v : List ℕ) (n : Subtree) → place_of w ts ≡ None → place_of v (ts ++ (w, n) ∷ []) ≡ cond (is_eq (W v w)) (Some (length ts)) (place_of v ts)
place_pushed [] w v n none = refl
place_pushed (k ∷ ks) w v n none = by (place_pushed ks w v n) (is_eq (W w k.0)) refl (place_of w ks) refl
  where
    swap : (a b : Bool) → is_eq (W v k.0) ≡ a → is_eq (W v w) ≡ b → is_eq (W w k.0) ≡ false
        → cond a (Some 0) (option_map suc (cond b (Some (length ks)) (place_of v ks))) ≡ cond b (Some (suc (length ks))) (cond a (Some 0) (option_map suc (place_of v ks)))
    swap true true f g e =
        let tied : is_eq (W w k.0) ≡ true = ap (λ x. is_eq (W x k.0)) (sym (same_word v w g)) ∙ f in
        absurd (cc (tied, e))
    swap true false f g e = refl
    swap false true f g e = refl
    swap false false f g e = refl

    by : (place_of w ks ≡ None → place_of v (ks ++ (w, n) ∷ []) ≡ cond (is_eq (W v w)) (Some (length ks)) (place_of v ks)) → (b : Bool)
        → is_eq (W w k.0) ≡ b → (o : Option ℕ) → place_of w ks ≡ o → place_of v ((k ∷ ks) ++ (w, n) ∷ []) ≡ cond (is_eq (W v w)) (Some (length (k ∷ ks))) (place_of v (k ∷ ks))
    by below true is o f =
        let s : Some 0 ≡ None = ap (λ b. cond b (Some 0) (option_map suc (place_of w ks))) (sym is) ∙ none in
        absurd cc
    by below false is None f =
        ap (λ (o : Option ℕ). cond (is_eq (W v k.0)) (Some 0) (option_map suc o)) (below f)
        ∙ swap (is_eq (W v k.0)) (is_eq (W v w)) refl refl is
    by below false is (Some q) f =
        let s : Some (suc q) ≡ None = sym (ap (option_map suc) f) ∙ ap (λ b. cond b (Some 0) (option_map suc (place_of w ks))) (sym is) ∙ none in
        absurd cc

pub word_front : (ts us : Trees) (p : ℕ) → p < length ts → word_at (ts ++ us) p ≡ word_at ts p
word_front [] us p h = absurd (omega arith)
word_front (k ∷ ks) us zero h = refl
word_front (k ∷ ks) us (suc p) h = word_front ks us p (omega arith)

pub word_last : (ts : Trees) (k : List ℕ × Subtree) → word_at (ts ++ k ∷ []) (length ts) ≡ k.0
word_last [] k = refl
word_last (x ∷ xs) k = word_last xs k

pub trees_pushed : (ts : Trees) (k : List ℕ × Subtree) → AreTrees ts → T (is_sorted S k.1) → AreTrees (ts ++ k ∷ [])
trees_pushed [] k h s = (s, tt)
trees_pushed (x ∷ xs) k h s = (h.0, trees_pushed xs k h.1 s)

module _ (rows : Trees) (es : List (Vec ℕ Global × ℕ)) (h : ArePlaced es rows) (w : List ℕ) (none : place_of w rows ≡ None) where
  one_more : length (rows ++ (w, []) ∷ []) ≡ length rows + 1
  one_more = length-append rows ((w, []) ∷ [])

  pushed_place : (v : List ℕ) → place_of v (rows ++ (w, []) ∷ []) ≡ cond (is_eq (W v w)) (Some (length rows)) (place_of v rows)
  pushed_place v = place_pushed rows w v [] none

  pushed_own : (p : ℕ) → p < length (rows ++ (w, []) ∷ []) → place_of (word_at (rows ++ (w, []) ∷ []) p) (rows ++ (w, []) ∷ []) ≡ Some p
  pushed_own p less = elim (cases_lt p (length rows)) [
    | inl below ↦
        let old : place_of (word_at rows p) rows ≡ Some p = h.1 p below in
        ap (λ v. place_of v (rows ++ (w, []) ∷ [])) (word_front rows ((w, []) ∷ []) p below) ∙ pushed_place (word_at rows p) ∙ by p old (is_eq (W (word_at rows p) w)) refl
    | inr past ↦
        let last : p ≡ length rows = omega (arith, one_more) in
        ap (λ q. place_of (word_at (rows ++ (w, []) ∷ []) q) (rows ++ (w, []) ∷ [])) last
        ∙ ap (λ v. place_of v (rows ++ (w, []) ∷ [])) (word_last rows (w, []))
        ∙ pushed_place w ∙ ap (λ b. cond b (Some (length rows)) (place_of w rows)) (itself w) ∙ ap (λ q. Some q) (sym last)
  ]
    where
      by : (q : ℕ) → place_of (word_at rows q) rows ≡ Some q → (b : Bool) → is_eq (W (word_at rows q) w) ≡ b
          → cond (is_eq (W (word_at rows q) w)) (Some (length rows)) (place_of (word_at rows q) rows) ≡ Some q
      by q old true e =
          let no : Some q ≡ None = sym old ∙ ap (λ v. place_of v rows) (same_word (word_at rows q) w e) ∙ none in
          absurd cc
      by q old false e = ap (λ b. cond b (Some (length rows)) (place_of (word_at rows q) rows)) e ∙ old

  module _ (key : Vec ℕ Global) (p : ℕ) (k : List ℕ × Subtree) (us : Trees) (fs : List (Vec ℕ Global × ℕ)) (spelled : key.items ≡ w)
      (counted : p ≡ length rows) (row : k ≡ (w, [])) (pushed : us ≡ rows ++ k ∷ []) (inserted : fs ≡ insert_entry (λ (x y : Vec ℕ Global). W x.items y.items) es key p) where
    us_is : us ≡ rows ++ (w, []) ∷ []
    us_is = pushed ∙ ap (λ (x : List ℕ × Subtree). rows ++ x ∷ []) row

    pub added_is : us ≡ added rows w
    added_is = us_is ∙ sym (ap (λ b. cond b rows (rows ++ (w, []) ∷ [])) (ap is_some (no_place rows w none)))

    absent : lookup (is_at (λ (x : Vec ℕ Global). W key.items x.items)) es ≡ None
    absent = ap (λ (v : List ℕ). lookup (is_at (λ (x : Vec ℕ Global). W v x.items)) es) spelled ∙ h.0 w ∙ none

    leads : (v : List ℕ) → lookup (is_at (λ (x : Vec ℕ Global). W v x.items)) fs ≡ place_of v (rows ++ (w, []) ∷ [])
    leads v =
        ap (λ (xs : List (Vec ℕ Global × ℕ)). lookup (is_at (λ (x : Vec ℕ Global). W v x.items)) xs) inserted
        ∙ found es key p v absent
        ∙ (λ i. cond (is_eq (W v (spelled i))) (Some (counted i)) (h.0 v i))
        ∙ sym (pushed_place v)

    pub added_keeps : ArePlaced fs us
    added_keeps = subst (ArePlaced fs) (sym us_is) (leads, pushed_own, trees_pushed rows (w, []) h.2 tt)

    pub added_place : IsPlace w p us
    added_place =
        subst (IsPlace w p) (sym us_is)
        (omega (arith, one_more, counted), ap (word_at (rows ++ (w, []) ∷ [])) counted ∙ word_last rows (w, []))

-- a word that stands there is not added
pub added_there : (ts : Trees) (w : List ℕ) (p : ℕ) → place_of w ts ≡ Some p → ts ≡ added ts w
added_there ts w p e = sym (ap (λ b. cond b ts (ts ++ (w, []) ∷ [])) (ap is_some (placing ts w p e).2))

-- nodes that were taken from a word are put back to it
pub placed_back : (ts : Trees) (w : List ℕ) (n : Subtree) → placed (placed ts w n) w (at ts w) ≡ ts
placed_back [] w n = refl
placed_back (k ∷ ks) w n = by (placed_back ks w n) (is_eq (W w k.0)) refl
  where
    by : placed (placed ks w n) w (at ks w) ≡ ks
        → (b : Bool) → is_eq (W w k.0) ≡ b → placed (cond b ((k.0, n) ∷ ks) (k ∷ placed ks w n)) w (nodes_of (cond b (Some k.1) (lookup (is_at (W w)) ks))) ≡ k ∷ ks
    by below true e = ap (λ b. cond b (k ∷ ks) ((k.0, n) ∷ placed ks w k.1)) e
    by below false e = ap (λ b. cond b ((k.0, at ks w) ∷ placed ks w n) (k ∷ placed (placed ks w n) w (at ks w))) e ∙ ap (λ (r : Trees). k ∷ r) below

-- ---- for the steps of a table's functions

pub none_placed : (rows : Trees) (es : List (Vec ℕ Global × ℕ)) → rows ≡ [] → es ≡ [] → ArePlaced es rows
none_placed rows es e f = subst (λ (xs : List (Vec ℕ Global × ℕ)). ArePlaced xs rows) (sym f) (subst (ArePlaced []) (sym e) (λ w. refl, λ p less. absurd (omega arith), tt))

pub within_view : (rows now : Trees) → rows ≡ now → (p : ℕ) → p < length now → p < length rows
within_view rows now e p h = subst (λ (ts : Trees). p < length ts) (sym e) h

pub sorted_as : (m n : Subtree) → n ≡ m → T (is_sorted S m) → T (is_sorted S n)
sorted_as m n e h = subst (λ (x : Subtree). T (is_sorted S x)) (sym e) h
