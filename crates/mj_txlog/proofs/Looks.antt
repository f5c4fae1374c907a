-- Contents that are alike where a read looks answer it alike.
use Rattle.std.proofs.Common.{◌≡◌, ℕ, Bool, true, false, cond, List, [], ◌∷◌, Some, None, refl, sym, ap, ◌∙◌}
use Rattle.std.specs.Prelude.{T}
use Rattle.std.specs.FinMap.{find, is_sorted}
use Rattle.std.specs.FinMap.Entries.{find-where_key, where_key, is_sorted-where_key, same_entries}
use Rattle.std.specs.List.{cons_option}
use Rattle.std.specs.Option.{is_some, option_map}
use Rattle.mj_subs.specs.Name.{Name}
use Rattle.mj_subs.specs.Collation.{subscript_cmp, name_cmp}
use Rattle.mj_subs.specs.Laws.Total.{name_cmp_total}
use Rattle.mj_subs.specs.Laws.Ties.{name_cmp-IsAntisymmetric}
use Rattle.mj_store.specs.declared.store.Direction.{Direction}
use Rattle.mj_store.specs.Nodes.{is_empty, but_last, last_of, next_past, next_after, data_of, first_subscripts}
use Rattle.mj_store.specs.Questions.{Content, Subtree, with_subscripts, rest_of, subtree_at, order_under}
use Rattle.mj_store.specs.Runs.{answer_of}
use Rattle.mj_store.specs.declared.access.Access.{Access}
use Rattle.mj_store.specs.declared.access.Access.TheVariants as access
use Rattle.mj_store.specs.declared.access.Answer.{Answer}
use Rattle.mj_store.specs.declared.access.Answer.TheVariants as answer
use Rattle.mj_txlog.specs.Accesses.{Accesses, is_write, seen, front_of}
use Rattle.mj_txlog.specs.Sight.{reach_of, AreAlike}
use Rattle.mj_txlog.proofs.Fronts.{rest_itself}
use Rattle.mj_txlog.proofs.Sorted.{rises_seen}
use Rattle.mj_txlog.proofs.Alike.{unmet_alike}
use Rattle.std.specs.List.{list_any}
use Rattle.mj_txlog.specs.Sight.{meets}

module _ (n : Name) where
  abbrev is_below : Name → Bool
  is_below m = is_some (rest_of n m)

  -- what stands below n stands among the names below n
  kept_below : (c : Content) → subtree_at (where_key name_cmp is_below c) n ≡ subtree_at c n
  kept_below [] = refl
  kept_below (x ∷ c) =
      elim (rest_of n x.0) as (λ r. rest_of n x.0 ≡ r → subtree_at (cond (is_some r) (x ∷ where_key name_cmp is_below c) (where_key name_cmp is_below c)) n
      ≡ cons_option (option_map (λ l. (l, x.1)) r) (subtree_at c n)) [
        | None ↦ λ e. kept_below c
        | Some l ↦ λ e. λ i. cons_option (option_map (λ l. (l, x.1)) (e i)) (kept_below c i)
      ] refl

  module _ (c d : Content) (g : T (is_sorted name_cmp c)) (h : T (is_sorted name_cmp d)) (alike : AreAlike n c d) where
    at_name : (q : Name) → find name_cmp q (where_key name_cmp is_below c) ≡ find name_cmp q (where_key name_cmp is_below d)
    at_name q =
        find-where_key name_cmp is_below q (λ x e. ap is_below (sym (name_cmp-IsAntisymmetric q x e))) c
        ∙ elim (is_some (rest_of n q)) as (λ b. is_some (rest_of n q) ≡ b → cond b (find name_cmp q c) None ≡ cond b (find name_cmp q d) None) [ true ↦ λ e. alike q e | false ↦ λ e. refl ] refl
        ∙ sym (find-where_key name_cmp is_below q (λ x e. ap is_below (sym (name_cmp-IsAntisymmetric q x e))) d)

    pub subtree_alike : subtree_at c n ≡ subtree_at d n
    subtree_alike =
        sym (kept_below c)
        ∙ ap (λ (es : Content). subtree_at es n) (same_entries name_cmp name_cmp_total name_cmp-IsAntisymmetric (where_key name_cmp is_below c) (where_key name_cmp is_below d)
        (is_sorted-where_key name_cmp is_below c g) (is_sorted-where_key name_cmp is_below d h) at_name)
        ∙ kept_below d

module _ (c d : Content) (g : T (is_sorted name_cmp c)) (h : T (is_sorted name_cmp d)) where
  order_alike : (n : Name) (p : List (List ℕ)) (way : Direction) → AreAlike (with_subscripts n (front_of p)) c d → order_under c n p way ≡ order_under d n p way
  order_alike n [] way alike = refl
  order_alike n (s ∷ p) way alike =
      ap (λ (t : Subtree). next_past subscript_cmp way (is_empty (last_of s p)) (last_of s p) (first_subscripts t)) (subtree_alike (with_subscripts n (but_last s p)) c d g h alike)

  pub answer_alike : (a : Access) → is_write a ≡ false → AreAlike (reach_of a) c d → answer_of a c ≡ answer_of a d
  answer_alike (access.Value n) r alike = ap answer.Value (alike n (ap is_some (rest_itself n)))
  answer_alike (access.Data n) r alike = ap (λ (t : Subtree). answer.Data (data_of t)) (subtree_alike n c d g h alike)
  answer_alike (access.Order n way) r alike = ap answer.Order (order_alike n n.subscripts way alike)
  answer_alike (access.Query n) r alike =
      ap (λ (t : Subtree). answer.Query (option_map (with_subscripts n) (next_after subscript_cmp n.subscripts t))) (subtree_alike (with_subscripts n []) c d g h alike)
  answer_alike (access.Subtree n) r alike = ap answer.Subtree (subtree_alike n c d g h alike)
  answer_alike (access.Set n v) r alike = absurd cc
  answer_alike (access.Kill n) r alike = absurd cc
  answer_alike (access.Put n nodes) r alike = absurd cc

-- a store that is alike answers as what is seen
pub answer_below : (a : Access) (reach : Name) (c g : Content) (es : Accesses) (out : Answer) → is_write a ≡ false → T (is_sorted name_cmp c) → T (is_sorted name_cmp g) → reach ≡ reach_of a
    → AreAlike reach c (seen g es) → out ≡ answer_of a c → out ≡ answer_of a (seen g es)
answer_below a reach c g es out read hc hg is alike answers =
    answers ∙ answer_alike c (seen g es) hc (rises_seen g es hg) a read (λ m at. alike m (ap (λ (k : Name). is_some (rest_of k m)) is ∙ at))

-- and so do the globals, where no write meets what the read depends on
pub answer_unmet : (a : Access) (reach : Name) (g : Content) (es : Accesses) (out : Answer) → is_write a ≡ false → T (is_sorted name_cmp g) → reach ≡ reach_of a → list_any (meets reach) es ≡ false
    → out ≡ answer_of a g → out ≡ answer_of a (seen g es)
answer_unmet a reach g es out read hg is none answers =
    answer_below a reach g g es out read hg hg is (unmet_alike reach g es none) answers
