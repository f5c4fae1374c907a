-- What is asked of a node is asked of one of its children, or of its own text, and what changes in a child changes in the node.
use Rattle.std.proofs.Common.{◌≡◌, ℕ, zero, suc, ◌-◌, take, ◌+◌, ◌<◌, ◌≤◌, Bool, true, false, cond, not, List, [], ◌∷◌, ◌++◌, length, get_or, drop, Option, Some, None, refl, sym, ap, ◌∙◌, arith}
use Rattle.std.specs.Prelude.{T}
use Rattle.std.specs.declared.cmp.Ordering.{Ordering}
use Rattle.std.specs.declared.cmp.Ordering.TheVariants.{Less, Equal, Greater}
use Rattle.std.specs.Ordering.{is_eq, eq_by_cmp, ordering_then}
use Rattle.std.specs.Cmp.{IsTotalOrder}
use Rattle.std.specs.Cmp.Lexicographic.{slice_cmp}
use Rattle.std.specs.FinMap.{find, is_sorted}
use Rattle.std.specs.FinMap.Entries.{below_all}
use Rattle.std.specs.List.{filter_map, cons_option, list_any}
use Rattle.std.specs.Option.{option_map, is_none, is_some}
use Rattle.std.specs.Map.{lookup}
use Rattle.std.specs.BTreeMap.{is_at}
use Rattle.mj_store.specs.Nodes.{is_empty, after_front, subtree, data_of}
use Rattle.mj_tree.specs.Maps.{first_so, second_so, is_less, tied_before}
use Rattle.mj_tree.specs.Nest.{own, under, below, AreFilled, nodes_of}

append_nil : {A : Type 0} (xs : List A) → xs ++ [] ≡ xs
append_nil [] = refl
append_nil (x ∷ xs) = ap (λ ys. x ∷ ys) (append_nil xs)

module _ {K : Type 0} (R : K → K → Ordering) where
  -- whether nothing is left of a list
  abbrev is_end : Option (List K) → Bool
  is_end None = false
  is_end (Some l) = is_empty l

  tie-end : (p q : List K) → is_eq (slice_cmp R p q) ≡ is_end (after_front R p q)
  tie-end [] [] = refl
  tie-end [] (t ∷ q) = refl
  tie-end (s ∷ p) [] = refl
  tie-end (s ∷ p) (t ∷ q) =
      elim (R s t) as (λ r. is_eq (ordering_then r (slice_cmp R p q)) ≡ is_end (cond (is_eq r) (after_front R p q) None)) [ Less ↦ refl | Equal ↦ tie-end p q | Greater ↦ refl ]

module _ {K V : Type 0} (R : K → K → Ordering) where
  -- ---- the subtree at a list of subscripts

  pub subtree-append : (p : List K) (xs ys : List (List K × V)) → subtree R p (xs ++ ys) ≡ subtree R p xs ++ subtree R p ys
  subtree-append p [] ys = refl
  subtree-append p (x ∷ xs) ys =
      ap (cons_option (option_map (λ l. (l, x.1)) (after_front R p x.0))) (subtree-append p xs ys) ∙ joined (option_map (λ l. (l, x.1)) (after_front R p x.0))
    where
      joined : (y : Option (List K × V)) → cons_option y (subtree R p xs ++ subtree R p ys) ≡ cons_option y (subtree R p xs) ++ subtree R p ys
      joined None = refl
      joined (Some y) = refl

  pub subtree_whole : (nodes : List (List K × V)) → subtree R [] nodes ≡ nodes
  subtree_whole [] = refl
  subtree_whole (e ∷ es) = ap (λ (r : List (List K × V)). e ∷ r) (subtree_whole es)

  picked : (p : List K) (b : Bool) (nodes : List (List K × V)) → filter_map (λ (e : List K × V). option_map (λ l. (l, e.1)) (cond b (after_front R p e.0) None)) nodes ≡ cond b (subtree R p nodes) []
  picked p true nodes = refl
  picked p false [] = refl
  picked p false (e ∷ es) = picked p false es

  passed_down : (s t : K) (p : List K) (nodes : List (List K × V)) → subtree R (s ∷ p) (under t nodes)
      ≡ filter_map (λ (e : List K × V). option_map (λ l. (l, e.1)) (cond (eq_by_cmp R s t) (after_front R p e.0) None)) nodes
  passed_down s t p [] = refl
  passed_down s t p (e ∷ es) = ap (cons_option (option_map (λ l. (l, e.1)) (cond (eq_by_cmp R s t) (after_front R p e.0) None))) (passed_down s t p es)

  pub subtree-under : (s t : K) (p : List K) (nodes : List (List K × V)) → subtree R (s ∷ p) (under t nodes) ≡ cond (eq_by_cmp R s t) (subtree R p nodes) []
  subtree-under s t p nodes = passed_down s t p nodes ∙ picked p (eq_by_cmp R s t) nodes

  -- no child stands at a subscript before all
  subtree_before : (s : K) (p : List K) (ks : List (K × List (List K × V))) → T (below_all R s ks) → subtree R (s ∷ p) (below ks) ≡ []
  subtree_before s p [] h = refl
  subtree_before s p (k ∷ ks) h =
      subtree-append (s ∷ p) (under k.0 k.1) (below ks)
      ∙ (λ i. (subtree-under s k.0 p k.1 ∙ ap (λ r. cond (is_eq r) (subtree R p k.1) []) (is_less _ (first_so _ _ h))) i ++ subtree_before s p ks (second_so _ _ h) i)

  -- ---- the text at a list of subscripts

  found_there : (o : Option (List K)) (v : V) (rest : List (List K × V)) → cond (is_end R o) (Some v) (find (slice_cmp R) [] rest)
      ≡ find (slice_cmp R) [] (cons_option (option_map (λ l. (l, v)) o) rest)
  found_there None v rest = refl
  found_there (Some []) v rest = refl
  found_there (Some (s ∷ l)) v rest = refl

  pub find-subtree : (p : List K) (nodes : List (List K × V)) → find (slice_cmp R) p nodes ≡ find (slice_cmp R) [] (subtree R p nodes)
  find-subtree p [] = refl
  find-subtree p (e ∷ es) =
      (λ i. cond (tie-end R p e.0 i) (Some e.1) (find-subtree p es i)) ∙ found_there (after_front R p e.0) e.1 (subtree R p es)

  find_none_under : (t : K) (nodes rest : List (List K × V)) → find (slice_cmp R) [] (under t nodes ++ rest) ≡ find (slice_cmp R) [] rest
  find_none_under t [] rest = refl
  find_none_under t (e ∷ es) rest = find_none_under t es rest

  find_none_below : (ks : List (K × List (List K × V))) → find (slice_cmp R) [] (below ks) ≡ None
  find_none_below [] = refl
  find_none_below (k ∷ ks) = find_none_under k.0 k.1 (below ks) ∙ find_none_below ks

  pub find_own : (text : Option V) (ks : List (K × List (List K × V))) → find (slice_cmp R) [] (own text ++ below ks) ≡ text
  find_own None ks = find_none_below ks
  find_own (Some text) ks = refl

  -- ---- what stands there

  no_own_under : (t : K) (nodes rest : List (List K × V)) → list_any (λ e. is_empty e.0) (under t nodes ++ rest) ≡ list_any (λ e. is_empty e.0) rest
  no_own_under t [] rest = refl
  no_own_under t (e ∷ es) rest = no_own_under t es rest

  no_own_below : (ks : List (K × List (List K × V))) → list_any (λ e. is_empty e.0) (below ks) ≡ false
  no_own_below [] = refl
  no_own_below (k ∷ ks) = no_own_under k.0 k.1 (below ks) ∙ no_own_below ks

  one_below : (t : K) (nodes rest : List (List K × V)) → 0 < length nodes → list_any (λ e. not (is_empty e.0)) (under t nodes ++ rest) ≡ true
  one_below t [] rest h = absurd (omega arith)
  one_below t (e ∷ es) rest h = refl

  pub data_leaf : (text : Option V) → data_of (own {K = K} text ++ below []) ≡ cond (is_none text) 0 1
  data_leaf None = refl
  data_leaf (Some text) = refl

  pub data_branch : (text : Option V) (k : K × List (List K × V)) (ks : List (K × List (List K × V))) → AreFilled (k ∷ ks) → data_of (own text ++ below (k ∷ ks)) ≡ cond (is_none text) 10 11
  data_branch None k ks h = λ i. cond (no_own_below (k ∷ ks) i) 1 0 + cond (one_below k.0 k.1 (below ks) h.0 i) 10 0
  data_branch (Some text) k ks h = λ i. 1 + cond (one_below k.0 k.1 (below ks) h.0 i) 10 0

  -- what such a node holds, where it is told that some child is there
  pub data_told : (text : Option V) (ks : List (K × List (List K × V))) → (length ks ≡ 0 → ⊥) → AreFilled ks → data_of (own text ++ below ks) ≡ cond (is_some text) 11 10
  data_told text [] n h = absurd (n refl)
  data_told None (k ∷ ks) n h = data_branch None k ks h
  data_told (Some text) (k ∷ ks) n h = data_branch (Some text) k ks h

  -- ---- in an order

  module _ (o : IsTotalOrder R) where
    subtree_below : (s : K) (p : List K) (ks : List (K × List (List K × V))) → T (is_sorted R ks) → subtree R (s ∷ p) (below ks) ≡ subtree R p (nodes_of (lookup (is_at (R s)) ks))
    subtree_below s p [] h = refl
    subtree_below s p (k ∷ ks) h =
        subtree-append (s ∷ p) (under k.0 k.1) (below ks)
        ∙ ap (λ (xs : List (List K × V)). xs ++ subtree R (s ∷ p) (below ks)) (subtree-under s k.0 p k.1)
        ∙ elim (R s k.0) as (λ r. R s k.0 ≡ r → cond (is_eq r) (subtree R p k.1) [] ++ subtree R (s ∷ p) (below ks) ≡ subtree R p (nodes_of (cond (is_eq r) (Some k.1) (lookup (is_at (R s)) ks)))) [
          | Less ↦ λ e. subtree_below s p ks (second_so _ _ h)
          | Equal ↦ λ e. ap (λ (xs : List (List K × V)). subtree R p k.1 ++ xs) (subtree_before s p ks (tied_before R o s k.0 ks e (first_so _ _ h))) ∙ append_nil (subtree R p k.1)
          | Greater ↦ λ e. subtree_below s p ks (second_so _ _ h)
        ] refl

    -- what stands at and below a list of subscripts is what stands there in the child at the first of them
    pub subtree_child : (s : K) (p : List K) (text : Option V) (ks : List (K × List (List K × V))) → T (is_sorted R ks)
        → subtree R (s ∷ p) (own text ++ below ks) ≡ subtree R p (nodes_of (lookup (is_at (R s)) ks))
    subtree_child s p None ks h = subtree_below s p ks h
    subtree_child s p (Some text) ks h = subtree_below s p ks h

take_whole : {A : Type 0} (zs : List A) (n : ℕ) → length zs ≤ n → take n zs ≡ zs
take_whole [] zero h = refl
take_whole [] (suc n) h = refl
take_whole (z ∷ zs) zero h = absurd (omega arith)
take_whole (z ∷ zs) (suc n) h = ap (λ ws. z ∷ ws) (take_whole zs n (omega arith))

-- a list of at least one element, as a pattern takes it apart
pub first_and_rest : {A : Type 0} (xs : List A) (x : A) → 1 ≤ length xs → x ≡ get_or xs 0 x → xs ≡ x ∷ take (length xs - 1) (drop 1 xs)
first_and_rest [] x le is = absurd (omega arith)
first_and_rest (y ∷ ys) x le is = (λ i. sym is i ∷ sym (take_whole ys (length (y ∷ ys) - 1) (omega arith)) i)

pub no_elements : {A : Type 0} (xs : List A) → length xs < 1 → xs ≡ []
no_elements [] lt = refl
no_elements (y ∷ ys) lt = absurd (omega arith)

-- a question at a list of subscripts that a pattern took apart
pub subtree_step : {K V : Type 0} (R : K → K → Ordering) (o : IsTotalOrder R) (path : List K) (s : K) → 1 ≤ length path → s ≡ get_or path 0 s
    → (node : List (List K × V)) (text : Option V) (ks : List (K × List (List K × V))) → own text ++ below ks ≡ node → T (is_sorted R ks)
    → subtree R path node ≡ subtree R (take (length path - 1) (drop 1 path)) (nodes_of (lookup (is_at (R s)) ks))
subtree_step {K} {V} R o path s le is node text ks view h =
    (λ i. subtree R (first_and_rest path s le is i) (sym view i)) ∙ subtree_child R o s (take (length path - 1) (drop 1 path)) text ks h
