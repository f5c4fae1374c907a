-- What goes from a node goes from one of its children.
use Rattle.std.proofs.Common.{◌≡◌, ◌<◌, Bool, true, false, cond, List, [], ◌∷◌, ◌++◌, length, Option, Some, None, refl, sym, ap, ◌∙◌, subst, arith}
use Rattle.std.specs.Prelude.{T}
use Rattle.std.specs.declared.cmp.Ordering.{Ordering}
use Rattle.std.specs.declared.cmp.Ordering.TheVariants.{Less, Equal, Greater}
use Rattle.std.specs.Ordering.{is_eq, eq_by_cmp}
use Rattle.std.specs.Cmp.{IsTotalOrder}
use Rattle.std.specs.FinMap.{is_sorted}
use Rattle.std.specs.List.{filter}
use Rattle.std.specs.Option.{is_none, is_some}
use Rattle.std.specs.Map.{lookup, set_value, remove_entry}
use Rattle.std.specs.BTreeMap.{is_at}
use Rattle.mj_store.specs.Nodes.{after_front}
use Rattle.mj_tree.specs.Nest.{own, under, below, AreFilled, without}
use Rattle.mj_tree.specs.Maps.{first_so, second_so, lookup_before, tied_before, lookup_written}

module _ {K V : Type 0} (R : K → K → Ordering) where
  without-append : (p : List K) (xs ys : List (List K × V)) → without R p (xs ++ ys) ≡ without R p xs ++ without R p ys
  without-append p [] ys = refl
  without-append p (x ∷ xs) ys =
      ap (λ (r : List (List K × V)). cond (is_none (after_front R p x.0)) (x ∷ r) r) (without-append p xs ys)
      ∙ elim (is_none (after_front R p x.0)) as (λ b. cond b (x ∷ (without R p xs ++ without R p ys)) (without R p xs ++ without R p ys)
      ≡ cond b (x ∷ without R p xs) (without R p xs) ++ without R p ys) [ true ↦ refl | false ↦ refl ]

  pub without_all : (nodes : List (List K × V)) → without R [] nodes ≡ []
  without_all [] = refl
  without_all (e ∷ es) = without_all es

  passed_down : (s t : K) (p : List K) (nodes : List (List K × V)) → without R (s ∷ p) (under t nodes) ≡ under t (filter (λ e. is_none (cond (eq_by_cmp R s t) (after_front R p e.0) None)) nodes)
  passed_down s t p [] = refl
  passed_down s t p (e ∷ es) =
      ap (λ (r : List (List K × V)). cond (is_none (cond (eq_by_cmp R s t) (after_front R p e.0) None)) ((t ∷ e.0, e.1) ∷ r) r) (passed_down s t p es)
      ∙ elim (is_none (cond (eq_by_cmp R s t) (after_front R p e.0) None)) as (λ b.
      cond b ((t ∷ e.0, e.1) ∷ under t (filter (λ e. is_none (cond (eq_by_cmp R s t) (after_front R p e.0) None)) es))
      (under t (filter (λ e. is_none (cond (eq_by_cmp R s t) (after_front R p e.0) None)) es))
      ≡ under t (cond b (e ∷ filter (λ e. is_none (cond (eq_by_cmp R s t) (after_front R p e.0) None)) es) (filter (λ e. is_none (cond (eq_by_cmp R s t) (after_front R p e.0) None)) es))) [
        | true ↦
            refl
        | false ↦ refl
      ]

  picked : (p : List K) (b : Bool) (nodes : List (List K × V)) → filter (λ (e : List K × V). is_none (cond b (after_front R p e.0) None)) nodes ≡ cond b (without R p nodes) nodes
  picked p true nodes = refl
  picked p false [] = refl
  picked p false (e ∷ es) = ap (λ (r : List (List K × V)). e ∷ r) (picked p false es)

  without-under : (s t : K) (p : List K) (nodes : List (List K × V)) → without R (s ∷ p) (under t nodes) ≡ under t (cond (eq_by_cmp R s t) (without R p nodes) nodes)
  without-under s t p nodes = passed_down s t p nodes ∙ ap (under t) (picked p (eq_by_cmp R s t) nodes)

  -- nothing goes where no child stands at the subscript
  without_none : (s : K) (p : List K) (ks : List (K × List (List K × V))) → lookup (is_at (R s)) ks ≡ None → without R (s ∷ p) (below ks) ≡ below ks
  without_none s p [] none = refl
  without_none s p (k ∷ ks) none =
      without-append (s ∷ p) (under k.0 k.1) (below ks)
      ∙ ap (λ (xs : List (List K × V)). xs ++ without R (s ∷ p) (below ks)) (without-under s k.0 p k.1)
      ∙ elim (is_eq (R s k.0)) as (λ b. cond b (Some k.1) (lookup (is_at (R s)) ks) ≡ None → under k.0 (cond b (without R p k.1) k.1) ++ without R (s ∷ p) (below ks) ≡ under k.0 k.1 ++ below ks) [
        | true ↦ λ e. absurd cc
        | false ↦ λ e. ap (λ (xs : List (List K × V)). under k.0 k.1 ++ xs) (without_none s p ks e)
      ] none

  -- else it goes from that child
  without_child : IsTotalOrder R → (s : K) (p : List K) (ks : List (K × List (List K × V))) (c : List (List K × V)) → T (is_sorted R ks) → lookup (is_at (R s)) ks ≡ Some c
      → without R (s ∷ p) (below ks) ≡ below (set_value (is_at (R s)) ks (without R p c))
  without_child o s p [] c h there = absurd cc
  without_child o s p (k ∷ ks) c h there =
      without-append (s ∷ p) (under k.0 k.1) (below ks)
      ∙ ap (λ (xs : List (List K × V)). xs ++ without R (s ∷ p) (below ks)) (without-under s k.0 p k.1)
      ∙ elim (R s k.0) as (λ r. R s k.0 ≡ r → cond (is_eq r) (Some k.1) (lookup (is_at (R s)) ks) ≡ Some c
      → under k.0 (cond (is_eq r) (without R p k.1) k.1) ++ without R (s ∷ p) (below ks) ≡ below (cond (is_eq r) ((k.0, without R p c) ∷ ks) (k ∷ set_value (is_at (R s)) ks (without R p c)))) [
        | Less ↦ λ e l. ap (λ (xs : List (List K × V)). under k.0 k.1 ++ xs) (without_child o s p ks c (second_so _ _ h) l)
        | Equal ↦ λ e l. let same : k.1 ≡ c = cc in (λ i. under k.0 (without R p (same i)) ++ without_none s p ks (lookup_before R s ks (tied_before R o s k.0 ks e (first_so _ _ h))) i)
        | Greater ↦ λ e l. ap (λ (xs : List (List K × V)). under k.0 k.1 ++ xs) (without_child o s p ks c (second_so _ _ h) l)
      ] refl there

  kept_own : (s : K) (p : List K) (text : Option V) (ks : List (K × List (List K × V))) → without R (s ∷ p) (own text ++ below ks) ≡ own text ++ without R (s ∷ p) (below ks)
  kept_own s p None ks = refl
  kept_own s p (Some text) ks = refl

  pub kill_none : (s : K) (p : List K) (text : Option V) (ks : List (K × List (List K × V))) → lookup (is_at (R s)) ks ≡ None → without R (s ∷ p) (own text ++ below ks) ≡ own text ++ below ks
  kill_none s p text ks none = kept_own s p text ks ∙ ap (λ (xs : List (List K × V)). own text ++ xs) (without_none s p ks none)

  -- ---- a child that is left without a node is taken out

  pub below-remove_entry : (xs : List (K × List (List K × V))) (s : K) → lookup (is_at (R s)) xs ≡ Some [] → below (remove_entry (is_at (R s)) xs) ≡ below xs
  below-remove_entry [] s there = refl
  below-remove_entry (k ∷ ks) s there =
      elim (is_eq (R s k.0)) as (λ b. cond b (Some k.1) (lookup (is_at (R s)) ks) ≡ Some [] → below (cond b ks (k ∷ remove_entry (is_at (R s)) ks)) ≡ under k.0 k.1 ++ below ks) [
        | true ↦ λ e. let gone : k.1 ≡ [] = cc in ap (λ (n : List (List K × V)). under k.0 n ++ below ks) (sym gone)
        | false ↦ λ e. ap (λ (ys : List (List K × V)). under k.0 k.1 ++ ys) (below-remove_entry ks s e)
      ] there

  pub filled_removed : (s : K) (ks : List (K × List (List K × V))) (w : List (List K × V)) → AreFilled ks → AreFilled (remove_entry (is_at (R s)) (set_value (is_at (R s)) ks w))
  filled_removed s [] w f = tt
  filled_removed s (k ∷ ks) w f =
      elim (is_eq (R s k.0)) as (λ b. is_eq (R s k.0) ≡ b → AreFilled (remove_entry (is_at (R s)) (cond b ((k.0, w) ∷ ks) (k ∷ set_value (is_at (R s)) ks w)))) [
        | true ↦ λ e. subst (λ b. AreFilled (cond b ks ((k.0, w) ∷ remove_entry (is_at (R s)) ks))) (sym e) f.1
        | false ↦ λ e. subst (λ b. AreFilled (cond b (set_value (is_at (R s)) ks w) (k ∷ remove_entry (is_at (R s)) (set_value (is_at (R s)) ks w)))) (sym e) (f.0, filled_removed s ks w f.1)
      ] refl

  module _ (o : IsTotalOrder R) (ks : List (K × List (List K × V))) (s : K) (p : List K) (c w : List (List K × V)) (there : lookup (is_at (R s)) ks ≡ Some c) (h : T (is_sorted R ks))
      (gone : w ≡ without R p c) where
    pub kill_written : (es : List (K × List (List K × V))) (text : Option V) → es ≡ set_value (is_at (R s)) ks w → own text ++ below es ≡ without R (s ∷ p) (own text ++ below ks)
    kill_written es text written =
        sym (kept_own s p text ks ∙ ap (λ (xs : List (List K × V)). own text ++ xs) (without_child o s p ks c h there ∙ ap (λ (n : List (List K × V)). below (set_value (is_at (R s)) ks n)) (sym gone)
        ∙ ap below (sym written)))

    pub kill_removed : (es fs : List (K × List (List K × V))) (text : Option V) → es ≡ set_value (is_at (R s)) ks w → fs ≡ remove_entry (is_at (R s)) es → w ≡ []
        → own text ++ below fs ≡ without R (s ∷ p) (own text ++ below ks)
    kill_removed es fs text written removed empty =
        ap (λ (xs : List (List K × V)). own text ++ xs)
        (ap below removed
        ∙ below-remove_entry es s (ap (lookup (is_at (R s))) written ∙ lookup_written R ks s c w there ∙ ap (λ (n : List (List K × V)). Some n) empty))
        ∙ kill_written es text written

pub no_children : {K V : Type 0} (ks : List (K × List (List K × V))) → length ks ≡ 0 → below ks ≡ []
no_children [] e = refl
no_children (k ∷ ks) e = absurd (omega arith)

-- nodes that are none have no child
pub no_nodes : {K V : Type 0} (text : Option V) (ks : List (K × List (List K × V))) → AreFilled ks → own text ++ below ks ≡ [] → length ks ≡ 0
no_nodes text [] f e = refl
no_nodes None ((s, []) ∷ ks) f e = absurd (omega (arith, f.0))
no_nodes None ((s, n ∷ ns) ∷ ks) f e = absurd cc
no_nodes (Some text) (k ∷ ks) f e = absurd cc

pub nothing_told : {K V : Type 0} (text : Option V) (ks : List (K × List (List K × V))) → is_some text ≡ false → length ks ≡ 0 → own text ++ below ks ≡ []
nothing_told None ks e n = no_children ks n
nothing_told (Some text) ks e n = absurd cc

pub some_node : {A : Type 0} (xs : List A) → (xs ≡ [] → ⊥) → 0 < length xs
some_node [] none = absurd (none refl)
some_node (x ∷ xs) none = omega arith
