-- What was written is taken back, and a text that is taken back in a node is taken back in one of its children.
use Rattle.std.proofs.Common.{◌≡◌, true, false, cond, List, [], ◌∷◌, ◌++◌, Option, Some, None, refl, sym, ap, ◌∙◌}
use Rattle.std.specs.Prelude.{T}
use Rattle.std.specs.declared.cmp.Ordering.{Ordering}
use Rattle.std.specs.declared.cmp.Ordering.TheVariants.{Less, Equal, Greater}
use Rattle.std.specs.Ordering.{is_eq, is_lt, ordering_then}
use Rattle.std.specs.Cmp.{IsTotalOrder, tied_itself}
use Rattle.std.specs.Cmp.Lexicographic.{slice_cmp}
use Rattle.std.specs.FinMap.{find, put, is_sorted}
use Rattle.std.specs.FinMap.Entries.{by_order, below_all}
use Rattle.std.specs.Option.{is_some}
use Rattle.std.specs.Map.{lookup, set_value, remove_entry}
use Rattle.std.specs.BTreeMap.{is_at}
use Rattle.mj_tree.specs.Nest.{own, under, below}
use Rattle.mj_tree.specs.Maps.{first_so, second_so, both_so, is_less, lookup_before, before_less, tied_before, lookup_written}
use Rattle.mj_tree.specs.Undo.{entry_before, restored, undone}
use Rattle.mj_tree.proofs.Nest.{find_own}
use Rattle.mj_tree.proofs.Kills.{below-remove_entry}

module _ {K V : Type 0} (R : K → K → Ordering) where
  -- nothing changes where the key isn't there
  pub restored_absent : (p : K) (value : Option V) (es : List (K × V)) → find R p es ≡ None → restored R p value es ≡ es
  restored_absent p value [] none = refl
  restored_absent p value (e ∷ es) none =
      elim (is_eq (R p e.0)) as (λ b. cond b (Some e.1) (find R p es) ≡ None → cond b (entry_before e.0 value es) (e ∷ restored R p value es) ≡ e ∷ es) [
        | true ↦ λ l. absurd cc
        | false ↦ λ l. ap (λ (r : List (K × V)). e ∷ r) (restored_absent p value es l)
      ] none

  find_before : (p : K) (es : List (K × V)) → T (below_all R p es) → find R p es ≡ None
  find_before p [] h = refl
  find_before p (e ∷ es) h = ap (λ r. cond (is_eq r) (Some e.1) (find R p es)) (is_less _ (first_so _ _ h)) ∙ find_before p es (second_so _ _ h)

  -- a key that was written gets its value of before back
  pub restored_put : IsTotalOrder R → (p : K) (v : V) (es : List (K × V)) → T (is_sorted R es) → restored R p (find R p es) (put R p v es) ≡ es
  restored_put o p v [] h = ap (λ r. cond (is_eq r) [] ((p, v) ∷ [])) (tied_itself o p)
  restored_put o p v (e ∷ es) h =
      elim (R p e.0) as (λ r. R p e.0 ≡ r → restored R p (cond (is_eq r) (Some e.1) (find R p es)) (by_order r ((p, v) ∷ e ∷ es) ((e.0, v) ∷ es) (e ∷ put R p v es)) ≡ e ∷ es) [
        | Less ↦ λ q.
            ap (λ r. cond (is_eq r) (entry_before p (find R p es) (e ∷ es)) ((p, v) ∷ restored R p (find R p es) (e ∷ es))) (tied_itself o p)
            ∙ ap (λ (x : Option V). entry_before p x (e ∷ es)) (find_before p es (before_less R o p e.0 es q (first_so _ _ h)))
        | Equal ↦ λ q. ap (λ r. cond (is_eq r) ((e.0, e.1) ∷ es) ((e.0, v) ∷ restored R p (Some e.1) es)) q
        | Greater ↦ λ q.
            ap (λ r. cond (is_eq r) (entry_before e.0 (find R p es) (put R p v es)) (e ∷ restored R p (find R p es) (put R p v es))) q
            ∙ ap (λ (r : List (K × V)). e ∷ r) (restored_put o p v es (second_so _ _ h))
      ] refl

  before_entry : (x k : K) (value : Option V) (es : List (K × V)) → T (is_lt (R x k)) → T (below_all R x es) → T (below_all R x (entry_before k value es))
  before_entry x k None es l h = h
  before_entry x k (Some v) es l h = both_so (is_lt (R x k)) _ l h

  below_all-restored : (x p : K) (value : Option V) (es : List (K × V)) → T (below_all R x es) → T (below_all R x (restored R p value es))
  below_all-restored x p value [] h = tt
  below_all-restored x p value (e ∷ es) h =
      elim (is_eq (R p e.0)) as (λ b. T (below_all R x (cond b (entry_before e.0 value es) (e ∷ restored R p value es)))) [
        | true ↦ before_entry x e.0 value es (first_so _ _ h) (second_so _ _ h)
        | false ↦ both_so (is_lt (R x e.0)) _ (first_so _ _ h) (below_all-restored x p value es (second_so _ _ h))
      ]

  sorted_entry : (e : K × V) (value : Option V) (es : List (K × V)) → T (is_sorted R (e ∷ es)) → T (is_sorted R (entry_before e.0 value es))
  sorted_entry e None es h = second_so _ _ h
  sorted_entry e (Some v) es h = h

  pub sorted_restored : (p : K) (value : Option V) (es : List (K × V)) → T (is_sorted R es) → T (is_sorted R (restored R p value es))
  sorted_restored p value [] h = tt
  sorted_restored p value (e ∷ es) h =
      elim (is_eq (R p e.0)) as (λ b. T (is_sorted R (cond b (entry_before e.0 value es) (e ∷ restored R p value es)))) [
        | true ↦ sorted_entry e value es h
        | false ↦ both_so (below_all R e.0 (restored R p value es)) _ (below_all-restored e.0 p value es (first_so _ _ h)) (sorted_restored p value es (second_so _ _ h))
      ]

  pub undone-append : (ws : List (K × Option V)) (p : K) (value : Option V) (es : List (K × V)) → undone R (ws ++ (p, value) ∷ []) es ≡ undone R ws (restored R p value es)
  undone-append [] p value es = refl
  undone-append (w ∷ ws) p value es = ap (restored R w.0 w.1) (undone-append ws p value es)

module _ {K V : Type 0} (R : K → K → Ordering) (o : IsTotalOrder R) (p : K) (before : Option V) (v : V) (es fs : List (K × V)) (h : T (is_sorted R es)) (was : before ≡ find R p es)
    (is : fs ≡ put R p v es) where
  back : restored R p before fs ≡ es
  back = (λ i. restored R p (was i) (is i)) ∙ restored_put R o p v es h

  -- what was written and logged is undone
  pub undone_written : (ws xs : List (K × Option V)) → xs ≡ ws ++ (p, before) ∷ [] → undone R xs fs ≡ undone R ws es
  undone_written ws xs logged = ap (λ (ys : List (K × Option V)). undone R ys fs) logged ∙ undone-append R ws p before fs ∙ ap (undone R ws) back

  -- also where it wasn't logged, and is taken back at once
  pub undone_refused : (ws xs : List (K × Option V)) (gs : List (K × V)) → xs ≡ ws → gs ≡ restored R p before fs → undone R xs gs ≡ undone R ws es
  undone_refused ws xs gs same taken = (λ i. undone R (same i) ((taken ∙ back) i))

-- ---- in a node

apart : (r s : Ordering) → is_eq r ≡ false → is_eq (ordering_then r s) ≡ false
apart Less s h = refl
apart Equal s h = absurd cc
apart Greater s h = refl

module _ {K V : Type 0} (R : K → K → Ordering) where
  restored_over : (s t : K) (p : List K) (value : Option V) (nodes rest : List (List K × V)) → is_eq (R s t) ≡ false
      → restored (slice_cmp R) (s ∷ p) value (under t nodes ++ rest) ≡ under t nodes ++ restored (slice_cmp R) (s ∷ p) value rest
  restored_over s t p value [] rest h = refl
  restored_over s t p value (e ∷ es) rest h =
      ap (λ b. cond b (entry_before (t ∷ e.0) value (under t es ++ rest)) ((t ∷ e.0, e.1) ∷ restored (slice_cmp R) (s ∷ p) value (under t es ++ rest))) (apart (R s t) (slice_cmp R p e.0) h)
      ∙ ap (λ (r : List (List K × V)). (t ∷ e.0, e.1) ∷ r) (restored_over s t p value es rest h)

  restored_none : (s : K) (p : List K) (value : Option V) (ks : List (K × List (List K × V))) → lookup (is_at (R s)) ks ≡ None → restored (slice_cmp R) (s ∷ p) value (below ks) ≡ below ks
  restored_none s p value [] none = refl
  restored_none s p value (k ∷ ks) none =
      elim (is_eq (R s k.0)) as (λ b. is_eq (R s k.0) ≡ b → cond b (Some k.1) (lookup (is_at (R s)) ks) ≡ None
      → restored (slice_cmp R) (s ∷ p) value (under k.0 k.1 ++ below ks) ≡ under k.0 k.1 ++ below ks) [
        | true ↦ λ e l. absurd cc
        | false ↦ λ e l. restored_over s k.0 p value k.1 (below ks) e ∙ ap (λ (r : List (List K × V)). under k.0 k.1 ++ r) (restored_none s p value ks l)
      ] refl none

  entry_under : (t : K) (k : List K) (value : Option V) (es rest : List (List K × V)) → entry_before (t ∷ k) value (under t es ++ rest) ≡ under t (entry_before k value es) ++ rest
  entry_under t k None es rest = refl
  entry_under t k (Some v) es rest = refl

  restored_in : (s t : K) (p : List K) (value : Option V) (nodes rest : List (List K × V)) → R s t ≡ Equal → restored (slice_cmp R) (s ∷ p) value rest ≡ rest
      → restored (slice_cmp R) (s ∷ p) value (under t nodes ++ rest) ≡ under t (restored (slice_cmp R) p value nodes) ++ rest
  restored_in s t p value [] rest e same = same
  restored_in s t p value (x ∷ xs) rest e same =
      ap (λ r. cond (is_eq (ordering_then r (slice_cmp R p x.0))) (entry_before (t ∷ x.0) value (under t xs ++ rest)) ((t ∷ x.0, x.1) ∷ restored (slice_cmp R) (s ∷ p) value (under t xs ++ rest))) e
      ∙ elim (is_eq (slice_cmp R p x.0)) as (λ b. cond b (entry_before (t ∷ x.0) value (under t xs ++ rest)) ((t ∷ x.0, x.1) ∷ restored (slice_cmp R) (s ∷ p) value (under t xs ++ rest))
      ≡ under t (cond b (entry_before x.0 value xs) (x ∷ restored (slice_cmp R) p value xs)) ++ rest) [
        | true ↦ entry_under t x.0 value xs rest
        | false ↦ ap (λ (r : List (List K × V)). (t ∷ x.0, x.1) ∷ r) (restored_in s t p value xs rest e same)
      ]

  restored_child : IsTotalOrder R → (s : K) (p : List K) (value : Option V) (ks : List (K × List (List K × V))) (c : List (List K × V)) → T (is_sorted R ks) → lookup (is_at (R s)) ks ≡ Some c
      → restored (slice_cmp R) (s ∷ p) value (below ks) ≡ below (set_value (is_at (R s)) ks (restored (slice_cmp R) p value c))
  restored_child o s p value [] c h there = absurd cc
  restored_child o s p value (k ∷ ks) c h there =
      elim (R s k.0) as (λ r. R s k.0 ≡ r → cond (is_eq r) (Some k.1) (lookup (is_at (R s)) ks) ≡ Some c
      → restored (slice_cmp R) (s ∷ p) value (under k.0 k.1 ++ below ks) ≡ below (cond (is_eq r) ((k.0, restored (slice_cmp R) p value c) ∷ ks)
      (k ∷ set_value (is_at (R s)) ks (restored (slice_cmp R) p value c)))) [
        | Less ↦ λ e l. restored_over s k.0 p value k.1 (below ks) (ap is_eq e) ∙ ap (λ (xs : List (List K × V)). under k.0 k.1 ++ xs) (restored_child o s p value ks c (second_so _ _ h) l)
        | Equal ↦ λ e l.
            let same : k.1 ≡ c = cc in
            restored_in s k.0 p value k.1 (below ks) e (restored_none s p value ks (lookup_before R s ks (tied_before R o s k.0 ks e (first_so _ _ h))))
            ∙ ap (λ (n : List (List K × V)). under k.0 (restored (slice_cmp R) p value n) ++ below ks) same
        | Greater ↦ λ e l. restored_over s k.0 p value k.1 (below ks) (ap is_eq e) ∙ ap (λ (xs : List (List K × V)). under k.0 k.1 ++ xs) (restored_child o s p value ks c (second_so _ _ h) l)
      ] refl there

  past_own : (s : K) (p : List K) (value text : Option V) (ks : List (K × List (List K × V)))
      → restored (slice_cmp R) (s ∷ p) value (own text ++ below ks) ≡ own text ++ restored (slice_cmp R) (s ∷ p) value (below ks)
  past_own s p value None ks = refl
  past_own s p value (Some text) ks = refl

  -- nothing changes where no child stands at the first subscript
  pub restore_none : (s : K) (p : List K) (value text : Option V) (ks : List (K × List (List K × V))) → lookup (is_at (R s)) ks ≡ None
      → restored (slice_cmp R) (s ∷ p) value (own text ++ below ks) ≡ own text ++ below ks
  restore_none s p value text ks none = past_own s p value text ks ∙ ap (λ (xs : List (List K × V)). own text ++ xs) (restored_none s p value ks none)

  -- the text of the node itself, where it has one
  pub restore_own : (value : Option V) (text : V) (ks : List (K × List (List K × V))) → restored (slice_cmp R) [] value (own (Some text) ++ below ks) ≡ own value ++ below ks
  restore_own None text ks = refl
  restore_own (Some v) text ks = refl

  pub restore_no_own : (value text : Option V) (ks : List (K × List (List K × V))) → is_some text ≡ false → restored (slice_cmp R) [] value (own text ++ below ks) ≡ own text ++ below ks
  restore_no_own value None ks e = restored_absent (slice_cmp R) [] value (below ks) (find_own R None ks)
  restore_no_own value (Some text) ks e = absurd cc

  module _ (o : IsTotalOrder R) (ks : List (K × List (List K × V))) (s : K) (p : List K) (value : Option V) (c w : List (List K × V)) (there : lookup (is_at (R s)) ks ≡ Some c)
      (h : T (is_sorted R ks)) (is : w ≡ restored (slice_cmp R) p value c) where
    pub restore_written : (es : List (K × List (List K × V))) (text : Option V) → es ≡ set_value (is_at (R s)) ks w → own text ++ below es ≡ restored (slice_cmp R) (s ∷ p) value (own text ++ below ks)
    restore_written es text written =
        sym (past_own s p value text ks ∙ ap (λ (xs : List (List K × V)). own text ++ xs)
        (restored_child o s p value ks c h there ∙ ap (λ (n : List (List K × V)). below (set_value (is_at (R s)) ks n)) (sym is) ∙ sym (ap below written)))

    pub restore_removed : (es fs : List (K × List (List K × V))) (text : Option V) → es ≡ set_value (is_at (R s)) ks w → fs ≡ remove_entry (is_at (R s)) es → w ≡ []
        → own text ++ below fs ≡ restored (slice_cmp R) (s ∷ p) value (own text ++ below ks)
    restore_removed es fs text written removed empty =
        ap (λ (xs : List (List K × V)). own text ++ xs)
        (ap below removed
        ∙ below-remove_entry R es s (ap (lookup (is_at (R s))) written ∙ lookup_written R ks s c w there ∙ ap (λ (n : List (List K × V)). Some n) empty))
        ∙ restore_written es text written
