-- A text that is put into a node is put into one of its children, or is its own.
use Rattle.std.proofs.Common.{◌≡◌, ◌<◌, true, false, cond, List, [], ◌∷◌, ◌++◌, length, Option, Some, None, refl, sym, ap, ◌∙◌, subst, arith, Result, Ok, Err, OnOk, OnErr}
use Rattle.std.specs.Prelude.{T}
use Rattle.std.specs.declared.cmp.Ordering.{Ordering}
use Rattle.std.specs.declared.cmp.Ordering.TheVariants.{Less, Equal, Greater}
use Rattle.std.specs.Ordering.{is_eq, is_lt, ordering_then, match_ordering}
use Rattle.std.specs.Cmp.{IsTotalOrder, tied_itself}
use Rattle.std.specs.Cmp.Lexicographic.{slice_cmp}
use Rattle.std.specs.FinMap.{IsAntisymmetric, put, is_sorted}
use Rattle.std.specs.FinMap.Entries.{by_order, below_all}
use Rattle.std.specs.Map.{lookup, set_value}
use Rattle.std.specs.BTreeMap.{is_at, insert_entry}
use Rattle.mj_tree.specs.Nest.{own, under, below, AreFilled, nodes_of}
use Rattle.mj_tree.specs.Maps.{first_so, second_so, both_so, is_less, lookup_before, before_less, sorted_insert, insert-set_value, set_value_same}

module _ {K V : Type 0} (R : K → K → Ordering) where
  pub put_own : (v : V) (text : Option V) (ks : List (K × List (List K × V))) → put (slice_cmp R) [] v (own text ++ below ks) ≡ own (Some v) ++ below ks
  put_own v None [] = refl
  put_own v None ((s, []) ∷ ks) = put_own v None ks
  put_own v None ((s, e ∷ es) ∷ ks) = refl
  put_own v (Some text) ks = refl

  put_over : (s t : K) (p : List K) (v : V) (nodes rest : List (List K × V)) → R s t ≡ Greater → put (slice_cmp R) (s ∷ p) v (under t nodes ++ rest) ≡ under t nodes ++ put (slice_cmp R) (s ∷ p) v rest
  put_over s t p v [] rest h = refl
  put_over s t p v (e ∷ es) rest h =
      ap (λ r. by_order (ordering_then r (slice_cmp R p e.0)) ((s ∷ p, v) ∷ (t ∷ e.0, e.1) ∷ (under t es ++ rest)) ((t ∷ e.0, v) ∷ (under t es ++ rest))
      ((t ∷ e.0, e.1) ∷ put (slice_cmp R) (s ∷ p) v (under t es ++ rest))) h
      ∙ ap (λ (r : List (List K × V)). (t ∷ e.0, e.1) ∷ r) (put_over s t p v es rest h)

  put_first : (s : K) (p : List K) (v : V) (ks : List (K × List (List K × V))) → T (below_all R s ks) → put (slice_cmp R) (s ∷ p) v (below ks) ≡ (s ∷ p, v) ∷ below ks
  put_first s p v [] h = refl
  put_first s p v ((t, []) ∷ ks) h = put_first s p v ks (second_so _ _ h)
  put_first s p v ((t, e ∷ es) ∷ ks) h =
      ap (λ r. by_order (ordering_then r (slice_cmp R p e.0)) ((s ∷ p, v) ∷ (t ∷ e.0, e.1) ∷ (under t es ++ below ks)) ((t ∷ e.0, v) ∷ (under t es ++ below ks))
      ((t ∷ e.0, e.1) ∷ put (slice_cmp R) (s ∷ p) v (under t es ++ below ks))) (is_less _ (first_so _ _ h))

  pub filled_put : (p : List K) (v : V) (nodes : List (List K × V)) → 0 < length (put (slice_cmp R) p v nodes)
  filled_put p v [] = omega arith
  filled_put p v (e ∷ es) =
      elim (slice_cmp R p e.0) as (λ r. 0 < length (by_order r ((p, v) ∷ e ∷ es) ((e.0, v) ∷ es) (e ∷ put (slice_cmp R) p v es))) [ Less ↦ omega arith | Equal ↦ omega arith | Greater ↦ omega arith ]

  pub filled_insert : (ks : List (K × List (List K × V))) (s : K) (nodes : List (List K × V)) → AreFilled ks → 0 < length nodes → AreFilled (insert_entry R ks s nodes)
  filled_insert [] s nodes f n = (n, tt)
  filled_insert (k ∷ ks) s nodes f n =
      elim (R s k.0) as (λ r. AreFilled (match_ordering r ((s, nodes) ∷ k ∷ ks) ((k.0, nodes) ∷ ks) (k ∷ insert_entry R ks s nodes))) [
        | Less ↦ (n, f)
        | Equal ↦ (n, f.1)
        | Greater ↦ (f.0, filled_insert ks s nodes f.1 n)
      ]

  module _ (o : IsTotalOrder R) where
    put_same : (s : K) (p : List K) (v : V) (nodes : List (List K × V)) (ks : List (K × List (List K × V))) → T (below_all R s ks)
        → put (slice_cmp R) (s ∷ p) v (under s nodes ++ below ks) ≡ under s (put (slice_cmp R) p v nodes) ++ below ks
    put_same s p v [] ks h = put_first s p v ks h
    put_same s p v (e ∷ es) ks h =
        ap (λ r. by_order (ordering_then r (slice_cmp R p e.0)) ((s ∷ p, v) ∷ (s ∷ e.0, e.1) ∷ (under s es ++ below ks)) ((s ∷ e.0, v) ∷ (under s es ++ below ks))
        ((s ∷ e.0, e.1) ∷ put (slice_cmp R) (s ∷ p) v (under s es ++ below ks))) (tied_itself o s)
        ∙ elim (slice_cmp R p e.0) as (λ r. by_order r ((s ∷ p, v) ∷ (s ∷ e.0, e.1) ∷ (under s es ++ below ks)) ((s ∷ e.0, v) ∷ (under s es ++ below ks))
        ((s ∷ e.0, e.1) ∷ put (slice_cmp R) (s ∷ p) v (under s es ++ below ks)) ≡ under s (by_order r ((p, v) ∷ e ∷ es) ((e.0, v) ∷ es) (e ∷ put (slice_cmp R) p v es)) ++ below ks) [
          | Less ↦ refl
          | Equal ↦ refl
          | Greater ↦ ap (λ (r : List (List K × V)). (s ∷ e.0, e.1) ∷ r) (put_same s p v es ks h)
        ]

    put_below : IsAntisymmetric R → (s : K) (p : List K) (v : V) (ks : List (K × List (List K × V))) → T (is_sorted R ks)
        → put (slice_cmp R) (s ∷ p) v (below ks) ≡ below (insert_entry R ks s (put (slice_cmp R) p v (nodes_of (lookup (is_at (R s)) ks))))
    put_below same s p v [] h = refl
    put_below same s p v (k ∷ ks) h =
        elim (R s k.0) as (λ r. R s k.0 ≡ r → put (slice_cmp R) (s ∷ p) v (under k.0 k.1 ++ below ks)
        ≡ below (match_ordering r ((s, put (slice_cmp R) p v (nodes_of (cond (is_eq r) (Some k.1) (lookup (is_at (R s)) ks)))) ∷ k ∷ ks)
        ((k.0, put (slice_cmp R) p v (nodes_of (cond (is_eq r) (Some k.1) (lookup (is_at (R s)) ks)))) ∷ ks)
        (k ∷ insert_entry R ks s (put (slice_cmp R) p v (nodes_of (cond (is_eq r) (Some k.1) (lookup (is_at (R s)) ks))))))) [
          | Less ↦ λ e.
              let late = before_less R o s k.0 ks e (first_so _ _ h) in
              put_first s p v (k ∷ ks) (both_so (is_lt (R s k.0)) (below_all R s ks) (subst (λ r. T (is_lt r)) (sym e) tt) late)
              ∙ ap (λ (l : Option (List (List K × V))). under s (put (slice_cmp R) p v (nodes_of l)) ++ (under k.0 k.1 ++ below ks)) (sym (lookup_before R s ks late))
          | Equal ↦ λ e. ap (λ (t : K). put (slice_cmp R) (t ∷ p) v (under k.0 k.1 ++ below ks)) (same s k.0 e) ∙ put_same k.0 p v k.1 ks (first_so _ _ h)
          | Greater ↦ λ e. put_over s k.0 p v k.1 (below ks) e ∙ ap (λ (r : List (List K × V)). under k.0 k.1 ++ r) (put_below same s p v ks (second_so _ _ h))
        ] refl

    -- a text below the first of some subscripts is put into the child there
    pub put_child : IsAntisymmetric R → (s : K) (p : List K) (v : V) (text : Option V) (ks : List (K × List (List K × V))) → T (is_sorted R ks)
        → put (slice_cmp R) (s ∷ p) v (own text ++ below ks) ≡ own text ++ below (insert_entry R ks s (put (slice_cmp R) p v (nodes_of (lookup (is_at (R s)) ks))))
    put_child same s p v None ks h = put_below same s p v ks h
    put_child same s p v (Some text) ks h = ap (λ (r : List (List K × V)). ([], text) ∷ r) (put_below same s p v ks h)

-- ---- what a write through the child at a subscript leaves

module _ {K V : Type 0} (R : K → K → Ordering) where
  filled_set_value : (ks : List (K × List (List K × V))) (s : K) (w : List (List K × V)) → AreFilled ks → 0 < length w → AreFilled (set_value (is_at (R s)) ks w)
  filled_set_value [] s w f n = tt
  filled_set_value (k ∷ ks) s w f n =
      elim (is_eq (R s k.0)) as (λ b. AreFilled (cond b ((k.0, w) ∷ ks) (k ∷ set_value (is_at (R s)) ks w))) [ true ↦ (n, f.1) | false ↦ (f.0, filled_set_value ks s w f.1 n) ]

  pub filled_lookup : (ks : List (K × List (List K × V))) (s : K) (c : List (List K × V)) → AreFilled ks → lookup (is_at (R s)) ks ≡ Some c → 0 < length c
  filled_lookup [] s c f there = absurd cc
  filled_lookup (k ∷ ks) s c f there =
      elim (is_eq (R s k.0)) as (λ b. cond b (Some k.1) (lookup (is_at (R s)) ks) ≡ Some c → 0 < length c) [
        | true ↦ λ e. let same : k.1 ≡ c = cc in subst (λ (n : List (List K × V)). 0 < length n) same f.0
        | false ↦ λ e. filled_lookup ks s c f.1 e
      ] there

  pub filled_after : {A E : Type 0} (r : Result A E) (p : List K) (v : V) (c w : List (List K × V)) → OnOk r (w ≡ put (slice_cmp R) p v c) → OnErr r (w ≡ c) → 0 < length c → 0 < length w
  filled_after (Ok x) p v c w ok err n = subst (λ (m : List (List K × V)). 0 < length m) (sym ok) (filled_put R p v c)
  filled_after (Err e) p v c w ok err n = subst (λ (m : List (List K × V)). 0 < length m) (sym err) n

  module _ (o : IsTotalOrder R) (ks es : List (K × List (List K × V))) (s : K) (c w : List (List K × V)) (written : es ≡ set_value (is_at (R s)) ks w) (there : lookup (is_at (R s)) ks ≡ Some c)
      (h : T (is_sorted R ks)) where
    pub sorted_written : T (is_sorted R es)
    sorted_written = subst (λ (xs : List (K × List (List K × V))). T (is_sorted R xs)) (insert-set_value R o ks s c w h there ∙ sym written) (sorted_insert R o ks s w h)

    pub filled_written : AreFilled ks → 0 < length w → AreFilled es
    filled_written f n = subst AreFilled (sym written) (filled_set_value ks s w f n)

    pub put_written : IsAntisymmetric R → (p : List K) (v : V) (text : Option V) → w ≡ put (slice_cmp R) p v c → own text ++ below es ≡ put (slice_cmp R) (s ∷ p) v (own text ++ below ks)
    put_written same p v text is =
        let nested = put_child R o same s p v text ks h in
        ap (λ (xs : List (K × List (List K × V))). own text ++ below xs) (written ∙ ap (set_value (is_at (R s)) ks)
        (is ∙ ap (λ (l : Option (List (List K × V))). put (slice_cmp R) p v (nodes_of l)) (sym there))
        ∙ sym (insert-set_value R o ks s c (put (slice_cmp R) p v (nodes_of (lookup (is_at (R s)) ks))) h there))
        ∙ sym nested

    pub same_written : (text : Option V) → w ≡ c → own text ++ below es ≡ own text ++ below ks
    same_written text is = ap (λ (xs : List (K × List (List K × V))). own text ++ below xs) (written ∙ ap (set_value (is_at (R s)) ks) is ∙ set_value_same R ks s c there)

  module _ (o : IsTotalOrder R) (ks es : List (K × List (List K × V))) (s : K) (p : List K) (v : V) (n : List (List K × V)) (added : es ≡ insert_entry R ks s n) (fresh : n ≡ put (slice_cmp R) p v [])
      (h : T (is_sorted R ks)) where
    pub put_added : IsAntisymmetric R → (text : Option V) → lookup (is_at (R s)) ks ≡ None → own text ++ below es ≡ put (slice_cmp R) (s ∷ p) v (own text ++ below ks)
    put_added same text none =
        ap (λ (xs : List (K × List (List K × V))). own text ++ below xs) (added ∙ ap (insert_entry R ks s)
        (fresh ∙ ap (λ (l : Option (List (List K × V))). put (slice_cmp R) p v (nodes_of l)) (sym none)))
        ∙ sym (put_child R o same s p v text ks h)
