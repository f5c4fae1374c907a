-- What comes after a place among the nodes of a node.
use Rattle.std.proofs.Common.{◌≡◌, ℕ, suc, ◌+◌, ◌-◌, ◌<◌, ◌≤◌, true, false, cond, not, List, [], ◌∷◌, ◌++◌, length, take, drop, get_or, Option, Some, None, refl, sym, ap, ◌∙◌, subst, arith, Bor}
use Rattle.std.specs.Prelude.{T, MatchOption}
use Rattle.std.specs.declared.cmp.Ordering.{Ordering}
use Rattle.std.specs.declared.cmp.Ordering.TheVariants.{Less, Equal, Greater}
use Rattle.std.specs.Ordering.{is_eq, is_le, is_lt, ordering_then}
use Rattle.std.specs.Cmp.{IsTotalOrder}
use Rattle.std.specs.Cmp.Lexicographic.{slice_cmp}
use Rattle.std.specs.FinMap.{IsAntisymmetric, is_sorted}
use Rattle.std.specs.FinMap.Entries.{below_all}
use Rattle.std.specs.List.{filter}
use Rattle.std.specs.Option.{option_map}
use Rattle.std.specs.Map.{lookup}
use Rattle.std.specs.BTreeMap.{is_at}
use Rattle.mj_tree.specs.Nest.{own, under, below, AreFilled, nodes_of, lead, later, beyond}
use Rattle.mj_tree.specs.Maps.{first_so, second_so, is_less, lookup_before, tied_before, before_less}
use Rattle.mj_tree.proofs.Nest.{first_and_rest}
use Rattle.std.specs.Map.Iter.{deref_pair}
use Rattle.mj_store.specs.Nodes.{is_empty}
use Rattle.mj_tree.specs.Rows.{live}
use Rattle.mj_tree.proofs.Places.{filter_swap, below-live, filled-live}

-- ---- the first of some nodes

module _ {K V : Type 0} where
  lead_front : (xs ys : List (List K × V)) (q : List K) → lead xs ≡ Some q → lead (xs ++ ys) ≡ Some q
  lead_front [] ys q h = absurd cc
  lead_front (x ∷ xs) ys q h = h

  lead_rest : (xs ys : List (List K × V)) → lead xs ≡ None → lead (xs ++ ys) ≡ lead ys
  lead_rest [] ys h = refl
  lead_rest (x ∷ xs) ys h = absurd cc

  lead-under : (s : K) (nodes : List (List K × V)) → lead (under s nodes) ≡ option_map (λ p. s ∷ p) (lead nodes)
  lead-under s [] = refl
  lead-under s (e ∷ es) = refl

  pub lead_filled : (k : K) (nodes rest : List (List K × V)) → 0 < length nodes → lead (under k nodes ++ rest) ≡ option_map (λ p. k ∷ p) (lead nodes)
  lead_filled k [] rest h = absurd (omega arith)
  lead_filled k (e ∷ es) rest h = refl

-- ---- what comes after a place

module _ {K V : Type 0} (R : K → K → Ordering) where
  later-append : (p : List K) (xs ys : List (List K × V)) → later R p (xs ++ ys) ≡ later R p xs ++ later R p ys
  later-append p [] ys = refl
  later-append p (x ∷ xs) ys =
      ap (λ (r : List (List K × V)). cond (is_lt (slice_cmp R p x.0)) (x ∷ r) r) (later-append p xs ys)
      ∙ elim (is_lt (slice_cmp R p x.0)) as (λ b. cond b (x ∷ (later R p xs ++ later R p ys)) (later R p xs ++ later R p ys) ≡ cond b (x ∷ later R p xs) (later R p xs) ++ later R p ys) [
        | true ↦ refl
        | false ↦ refl
      ]

  later_own : (s : K) (p : List K) (text : Option V) (rest : List (List K × V)) → later R (s ∷ p) (own text ++ rest) ≡ later R (s ∷ p) rest
  later_own s p None rest = refl
  later_own s p (Some text) rest = refl

  -- what a child keeps of its nodes, by how the subscript stands to the child's
  kept_of : Ordering → List K → List (List K × V) → List (List K × V)
  kept_of Less p nodes = nodes
  kept_of Equal p nodes = later R p nodes
  kept_of Greater p nodes = []

  later-under : (s t : K) (p : List K) (nodes : List (List K × V)) (r : Ordering) → R s t ≡ r → later R (s ∷ p) (under t nodes) ≡ under t (kept_of r p nodes)
  unfolding kept_of
  later-under s t p [] Less e = refl
  later-under s t p [] Equal e = refl
  later-under s t p [] Greater e = refl
  later-under s t p (x ∷ xs) Less e =
      (λ i. cond (is_lt (ordering_then (e i) (slice_cmp R p x.0))) ((t ∷ x.0, x.1) ∷ later-under s t p xs Less e i) (later-under s t p xs Less e i))
  later-under s t p (x ∷ xs) Equal e =
      (λ i. cond (is_lt (ordering_then (e i) (slice_cmp R p x.0))) ((t ∷ x.0, x.1) ∷ later-under s t p xs Equal e i) (later-under s t p xs Equal e i))
      ∙ elim (is_lt (slice_cmp R p x.0)) as (λ b. cond b ((t ∷ x.0, x.1) ∷ under t (later R p xs)) (under t (later R p xs)) ≡ under t (cond b (x ∷ later R p xs) (later R p xs))) [
        | true ↦ refl
        | false ↦ refl
      ]
  later-under s t p (x ∷ xs) Greater e =
      (λ i. cond (is_lt (ordering_then (e i) (slice_cmp R p x.0))) ((t ∷ x.0, x.1) ∷ later-under s t p xs Greater e i) (later-under s t p xs Greater e i))

  module _ (o : IsTotalOrder R) (same : IsAntisymmetric R) where
    -- what comes after it in the child at its first subscript, and then all children beyond
    Split : K → List K → List (K × List (List K × V)) → Option (List (List K × V)) → List (K × List (List K × V)) → Type 0
    Split s p ks child rest = later R (s ∷ p) (below ks) ≡ under s (later R p (nodes_of child)) ++ below rest

    later_below : (s : K) (p : List K) (ks : List (K × List (List K × V))) → T (is_sorted R ks) → Split s p ks (lookup (is_at (R s)) ks) (beyond R s ks)
    unfolding Split kept_of
    later_below s p [] h = refl
    later_below s p (k ∷ ks) h =
        later-append (s ∷ p) (under k.0 k.1) (below ks)
        ∙ elim (R s k.0) as (λ r. R s k.0 ≡ r → later R (s ∷ p) (under k.0 k.1) ++ later R (s ∷ p) (below ks)
        ≡ under s (later R p (nodes_of (cond (is_eq r) (Some k.1) (lookup (is_at (R s)) ks)))) ++ below (cond (is_lt r) (k ∷ beyond R s ks) (beyond R s ks))) [
          | Less ↦ λ e.
              let none = lookup_before R s ks (before_less R o s k.0 ks e (first_so _ _ h)) in
              (λ i. later-under s k.0 p k.1 Less e i ++ (later_below s p ks (second_so _ _ h) ∙ ap (λ (c : Option (List (List K × V))). under s (later R p (nodes_of c)) ++ below (beyond R s ks)) none)
              i)
              ∙ ap (λ (c : Option (List (List K × V))). under s (later R p (nodes_of c)) ++ (under k.0 k.1 ++ below (beyond R s ks))) (sym none)
          | Equal ↦ λ e.
              let none = lookup_before R s ks (tied_before R o s k.0 ks e (first_so _ _ h)) in
              (λ i. later-under s k.0 p k.1 Equal e i ++ (later_below s p ks (second_so _ _ h)
              ∙ ap (λ (c : Option (List (List K × V))). under s (later R p (nodes_of c)) ++ below (beyond R s ks)) none) i)
              ∙ ap (λ (t : K). under t (later R p k.1) ++ below (beyond R s ks)) (sym (same s k.0 e))
          | Greater ↦ λ e. (λ i. later-under s k.0 p k.1 Greater e i ++ later_below s p ks (second_so _ _ h) i)
        ] refl

    module _ (path : List K) (s : K) (le : 1 ≤ length path) (is : s ≡ get_or path 0 s) (node : List (List K × V)) (text : Option V) (ks : List (K × List (List K × V)))
        (view : own text ++ below ks ≡ node) (h : T (is_sorted R ks)) where
      after_first : List K
      after_first = take (length path - 1) (drop 1 path)

      of_path : path ≡ s ∷ after_first
      unfolding after_first
      of_path = first_and_rest path s le is

      later_split : later R path node ≡ under s (later R after_first (nodes_of (lookup (is_at (R s)) ks))) ++ below (beyond R s ks)
      unfolding Split
      later_split = (λ i. later R (of_path i) (sym view i)) ∙ later_own s after_first text (below ks) ∙ later_below s after_first ks h

      -- the next place isn't in the child at the first subscript
      pub turn_aside : (r : Option (ℕ × Bor K × Bor (List (List K × V)))) → lead (later R (take (length path - 1) (drop 1 path)) (nodes_of (lookup (is_at (R s)) ks))) ≡ None
          → MatchOption r (lead (below (beyond R s ks)) ≡ None) (λ t. (t.0 ≡ 0) × (0 < length t.2.now) × (lead (below (beyond R s ks)) ≡ option_map (λ q. t.1.now ∷ q) (lead t.2.now)))
          → MatchOption r (lead (later R path node) ≡ None) (λ t. (t.0 ≤ length path) × (0 < length t.2.now)
          × (lead (later R path node) ≡ option_map (λ q. take t.0 path ++ t.1.now ∷ q) (lead t.2.now)))
      unfolding after_first
      turn_aside None none a =
          ap lead later_split ∙ lead_rest _ _ (lead-under s (later R after_first (nodes_of (lookup (is_at (R s)) ks))) ∙ ap (option_map (λ p. s ∷ p)) none) ∙ a
      turn_aside (Some t) none a = (
        omega (arith, a.0),
        a.1,
        ap lead later_split ∙ lead_rest _ _ (lead-under s (later R after_first (nodes_of (lookup (is_at (R s)) ks))) ∙ ap (option_map (λ p. s ∷ p)) none)
            ∙ a.2
            ∙ ap (λ n. option_map (λ q. take n path ++ t.1.now ∷ q) (lead t.2.now)) (sym a.0),
      )

      -- the next place is in that child
      pub turn_deeper : (c b : List (List K × V)) (stay : ℕ) (n : K) → lookup (is_at (R s)) ks ≡ Some c → stay ≤ length (take (length path - 1) (drop 1 path)) → 0 < length b
          → lead (later R (take (length path - 1) (drop 1 path)) c) ≡ option_map (λ q. take stay (take (length path - 1) (drop 1 path)) ++ n ∷ q) (lead b)
          → (stay + 1 ≤ length path) × (0 < length b) × (lead (later R path node) ≡ option_map (λ q. take (stay + 1) path ++ n ∷ q) (lead b))
      unfolding after_first
      turn_deeper c [] stay n there few some is = absurd (omega (arith, some))
      turn_deeper c (e ∷ es) stay n there few some is = (
        omega (arith, few, ap (λ p. length p) of_path),
        some,
        ap lead later_split
            ∙ lead_front (under s (later R after_first (nodes_of (lookup (is_at (R s)) ks)))) (below (beyond R s ks)) (s ∷ (take stay after_first ++ n ∷ e.0))
            (lead-under s (later R after_first (nodes_of (lookup (is_at (R s)) ks))) ∙ ap (λ (l : Option (List (List K × V))). option_map (λ p. s ∷ p) (lead (later R after_first (nodes_of l)))) there
            ∙ ap (option_map (λ p. s ∷ p)) is)
            ∙ ap (λ (p : List K). Some (p ++ n ∷ e.0)) (ap (λ k. take k (s ∷ after_first)) {x = suc stay} {y = stay + 1} (omega arith) ∙ ap (take (stay + 1)) (sym of_path)),
      )

  -- the first child beyond a subscript
  filled_beyond : (s : K) (ks : List (K × List (List K × V))) → AreFilled ks → AreFilled (beyond R s ks)
  filled_beyond s [] f = tt
  filled_beyond s (k ∷ ks) f = elim (is_lt (R s k.0)) as (λ b. AreFilled (cond b (k ∷ beyond R s ks) (beyond R s ks))) [ true ↦ (f.0, filled_beyond s ks f.1) | false ↦ filled_beyond s ks f.1 ]

module _ {K V : Type 0} (R : K → K → Ordering) where
  below_beyond : (s : K) (ks : List (K × List (List K × V))) → below (beyond R s ks) ≡ below (beyond R s (live ks))
  below_beyond s ks = sym (below-live (beyond R s ks)) ∙ ap below (filter_swap (λ (k : K × List (List K × V)). not (is_empty k.1)) (λ k. is_lt (R s k.0)) ks)

  -- no child that holds something comes after it
  pub aside_none : (s : K) (ks : List (K × List (List K × V))) → beyond R s (live ks) ≡ [] → lead (below (beyond R s ks)) ≡ None
  aside_none s ks e = ap lead (below_beyond s ks ∙ ap below e)

  -- the first that does
  pub aside_some : (s : K) (ks : List (K × List (List K × V))) (x : Bor K × Bor (List (List K × V))) (t : List (K × List (List K × V))) → beyond R s (live ks) ≡ deref_pair x ∷ t
      → (0 < length x.1.now) × (lead (below (beyond R s ks)) ≡ option_map (λ q. x.0.now ∷ q) (lead x.1.now))
  aside_some s ks x t e =
      let some : AreFilled (deref_pair x ∷ t) = subst AreFilled e (filled_beyond R s (live ks) (filled-live ks)) in
      (some.0, ap lead (below_beyond s ks ∙ ap below e) ∙ lead_filled x.0.now x.1.now (below t) some.0)

  -- the first of all nodes below
  pub lead_none : (ks : List (K × List (List K × V))) → live ks ≡ [] → lead (below ks) ≡ None
  lead_none ks e = ap lead (sym (below-live ks) ∙ ap below e)

  pub lead_some : (ks : List (K × List (List K × V))) (x : Bor K × Bor (List (List K × V))) (t : List (K × List (List K × V))) → live ks ≡ deref_pair x ∷ t
      → (0 < length x.1.now) × (lead (below ks) ≡ option_map (λ q. x.0.now ∷ q) (lead x.1.now))
  lead_some ks x t e =
      let some : AreFilled (deref_pair x ∷ t) = subst AreFilled e (filled-live ks) in (some.0, ap lead (sym (below-live ks) ∙ ap below e) ∙ lead_filled x.0.now x.1.now (below t) some.0)

  later_under : (t : K) (nodes rest : List (List K × V)) → later R [] (under t nodes ++ rest) ≡ under t nodes ++ later R [] rest
  later_under t [] rest = refl
  later_under t (e ∷ es) rest = ap (λ (r : List (List K × V)). (t ∷ e.0, e.1) ∷ r) (later_under t es rest)

  later_children : (ks : List (K × List (List K × V))) → later R [] (below ks) ≡ below ks
  later_children [] = refl
  later_children (k ∷ ks) = later_under k.0 k.1 (below ks) ∙ ap (λ (r : List (List K × V)). under k.0 k.1 ++ r) (later_children ks)

  -- all nodes below a node come after it
  pub later_all : (text : Option V) (ks : List (K × List (List K × V))) → later R [] (own text ++ below ks) ≡ below ks
  later_all None ks = later_children ks
  later_all (Some text) ks = later_children ks

  -- nothing comes after a node that has no child
  pub turn_none : (path : List K) (node : List (List K × V)) (text : Option V) (ks : List (K × List (List K × V))) → path ≡ [] → own text ++ below ks ≡ node → live ks ≡ []
      → lead (later R path node) ≡ None
  turn_none path node text ks here view none = (λ i. lead (later R (here i) (sym view i))) ∙ ap lead (later_all text ks) ∙ lead_none ks none

  -- else its first child does
  pub turn_some : (path : List K) (node : List (List K × V)) (text : Option V) (ks : List (K × List (List K × V))) (x : Bor K × Bor (List (List K × V))) (t : List (K × List (List K × V)))
      → path ≡ [] → own text ++ below ks ≡ node → live ks ≡ deref_pair x ∷ t
      → (0 ≤ length path) × (0 < length x.1.now) × (lead (later R path node) ≡ option_map (λ q. x.0.now ∷ q) (lead x.1.now))
  turn_some path node text ks x t here view first =
      let found = lead_some ks x t first in (omega arith, found.0, (λ i. lead (later R (here i) (sym view i))) ∙ ap lead (later_all text ks) ∙ found.1)

  -- nothing comes after a place below a node that has no child
  pub turn_nowhere : IsTotalOrder R → IsAntisymmetric R → (path : List K) (s : K) → 1 ≤ length path → s ≡ get_or path 0 s
      → (node : List (List K × V)) (text : Option V) (ks : List (K × List (List K × V)))
      → own text ++ below ks ≡ node → T (is_sorted R ks) → ks ≡ [] → lead (later R path node) ≡ None
  turn_nowhere o same path s le is node text ks view h none =
      turn_aside R o same path s le is node text ks view h None (ap (λ (es : List (K × List (List K × V))). lead (later R (take (length path - 1) (drop 1 path)) (nodes_of (lookup (is_at (R s)) es))))
      none)
      (ap (λ (es : List (K × List (List K × V))). lead (below (beyond R s es))) none)
