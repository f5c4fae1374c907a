-- A tree's lists rise after each change, and what its questions find in a list that rises.
use Rattle.std.proofs.Common.{◌≡◌, ℕ, List, [], ◌∷◌, ◌++◌, refl, sym, ap, ◌∙◌, subst, Result, Ok, Err, OnOk, OnErr}
use Rattle.std.specs.Prelude.{T}
use Rattle.std.specs.declared.cmp.Ordering.{Ordering}
use Rattle.std.specs.declared.cmp.Ordering.TheVariants.{Less}
use Rattle.std.specs.Ordering.{is_lt}
use Rattle.std.specs.Cmp.{IsTotalOrder}
use Rattle.std.specs.Cmp.Lexicographic.{slice_cmp}
use Rattle.std.specs.FinMap.{put, is_sorted}
use Rattle.std.specs.FinMap.Entries.{below_all, is_sorted-put, is_sorted-where_key}
use Rattle.std.specs.List.{filter, AllByRecursion}
use Rattle.std.specs.List.Sorted.{IsStrictlySortedBy}
use Rattle.std.specs.Map.{keys_of}
use Rattle.std.specs.Option.{is_none}
use Rattle.std.proofs.lemmas.List.Kept.{IsStrictlySortedBy-filter}
use Rattle.mj_subs.specs.Collation.{subscript_cmp}
use Rattle.mj_store.specs.declared.store.Direction.{Direction}
use Rattle.mj_store.specs.Nodes.{is_empty, least, but_last, last_of, after_front, subtree, first_subscripts, next_past, next_after}
use Rattle.mj_store.specs.Questions.{Subtree}
use Rattle.mj_tree.specs.Nest.{lead, later, without, put_behind, order_in}
use Rattle.mj_tree.specs.Maps.{first_so, second_so, is_less}
use Rattle.mj_tree.proofs.Orders.{keys_filter, least_sorted}

module _ {K V : Type 0} (R : K → K → Ordering) (o : IsTotalOrder (slice_cmp R)) where
  pub rises_kill : (p : List K) (old new : List (List K × V)) → new ≡ without R p old → T (is_sorted (slice_cmp R) old) → T (is_sorted (slice_cmp R) new)
  rises_kill p old new is h =
      subst (λ (es : List (List K × V)). T (is_sorted (slice_cmp R) es)) (sym is) (is_sorted-where_key (slice_cmp R) (λ q. is_none (after_front R p q)) old h)

  pub rises_set : {A E : Type 0} (r : Result A E) (p : List K) (v : V) (old new : List (List K × V)) → OnOk r (new ≡ put (slice_cmp R) p v old) → OnErr r (new ≡ old) → T (is_sorted (slice_cmp R) old)
      → T (is_sorted (slice_cmp R) new)
  rises_set (Ok x) p v old new ok err h = subst (λ (es : List (List K × V)). T (is_sorted (slice_cmp R) es)) (sym ok) (is_sorted-put (slice_cmp R) o p v old h)
  rises_set (Err e) p v old new ok err h = subst (λ (es : List (List K × V)). T (is_sorted (slice_cmp R) es)) (sym err) h

  rises_behind : (p : List K) (more nodes : List (List K × V)) → T (is_sorted (slice_cmp R) nodes) → T (is_sorted (slice_cmp R) (put_behind R p more nodes))
  rises_behind p [] nodes h = h
  rises_behind p (e ∷ es) nodes h = rises_behind p es (put (slice_cmp R) (p ++ e.0) e.1 nodes) (is_sorted-put (slice_cmp R) o (p ++ e.0) e.1 nodes h)

  pub rises_put : {A E : Type 0} (r : Result A E) (p : List K) (more old new : List (List K × V)) → OnOk r (new ≡ put_behind R p more old) → OnErr r (new ≡ old) → T (is_sorted (slice_cmp R) old)
      → T (is_sorted (slice_cmp R) new)
  rises_put (Ok x) p more old new ok err h = subst (λ (es : List (List K × V)). T (is_sorted (slice_cmp R) es)) (sym ok) (rises_behind p more old h)
  rises_put (Err e) p more old new ok err h = subst (λ (es : List (List K × V)). T (is_sorted (slice_cmp R) es)) (sym err) h

-- a list that rises, by the two ways to say so
module _ {K X : Type 0} (R : K → K → Ordering) where
  above_all : (x : K) (es : List (K × X)) → T (below_all R x es) → AllByRecursion (λ y. R x y ≡ Less) (keys_of es)
  above_all x [] h = tt
  above_all x (e ∷ es) h = (is_less _ (first_so _ _ h), above_all x es (second_so _ _ h))

  pub keys_rise : (es : List (K × X)) → T (is_sorted R es) → IsStrictlySortedBy R (keys_of es)
  unfolding IsStrictlySortedBy
  keys_rise [] h = tt
  keys_rise (e ∷ es) h = (above_all e.0 es (first_so _ _ h), keys_rise es (second_so _ _ h))

module _ {K V : Type 0} (R : K → K → Ordering) (o : IsTotalOrder (slice_cmp R)) where
  least_lead : (nodes : List (List K × V)) → IsStrictlySortedBy (slice_cmp R) (keys_of nodes) → least (slice_cmp R) (keys_of nodes) ≡ lead nodes
  least_lead [] h = refl
  least_lead (e ∷ es) h = least_sorted (slice_cmp R) o e.0 (keys_of es) h

  -- the least list after a place is that of the first node there
  pub next_lead : (p : List K) (nodes : List (List K × V)) → T (is_sorted (slice_cmp R) nodes) → lead (later R p nodes) ≡ next_after R p nodes
  next_lead p nodes h =
      let part : keys_of (later R p nodes) ≡ filter (λ q. is_lt (slice_cmp R p q)) (keys_of nodes) = keys_filter (λ q. is_lt (slice_cmp R p q)) nodes in
      sym (least_lead (later R p nodes) (subst (λ ks. IsStrictlySortedBy (slice_cmp R) ks) (sym part)
      (IsStrictlySortedBy-filter (slice_cmp R) (λ q. is_lt (slice_cmp R p q)) (keys_of nodes) (keys_rise (slice_cmp R) nodes h))))
      ∙ ap (λ ks. least (slice_cmp R) ks) part

but_last-append : {K : Type 0} (s : K) (front : List K) (last : K) → but_last s (front ++ last ∷ []) ≡ s ∷ front
but_last-append s [] last = refl
but_last-append s (t ∷ front) last = ap (λ ts. s ∷ ts) (but_last-append t front last)

last_of-append : {K : Type 0} (s : K) (front : List K) (last : K) → last_of s (front ++ last ∷ []) ≡ last
last_of-append s [] last = refl
last_of-append s (t ∷ front) last = last_of-append t front last

order_split : (way : Direction) (front : List (List ℕ)) (last : List ℕ) (nodes : Subtree)
    → order_in (front ++ last ∷ []) way nodes ≡ next_past subscript_cmp way (is_empty last) last (first_subscripts (subtree subscript_cmp front nodes))
order_split way [] last nodes = refl
order_split way (s ∷ front) last nodes =
    (λ i. next_past subscript_cmp way (is_empty (last_of-append s front last i)) (last_of-append s front last i) (first_subscripts (subtree subscript_cmp (but_last-append s front last i) nodes)))

-- $ORDER where the last subscript is told apart
pub order_of_split : (way : Direction) (p front : List (List ℕ)) (last : List ℕ) (nodes : Subtree) → p ≡ front ++ last ∷ []
    → order_in p way nodes ≡ next_past subscript_cmp way (is_empty last) last (first_subscripts (subtree subscript_cmp front nodes))
order_of_split way p front last nodes e = ap (λ (q : List (List ℕ)). order_in q way nodes) e ∙ order_split way front last nodes
