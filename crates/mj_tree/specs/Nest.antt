-- What a node holds: a text of its own, and children by their subscripts, each of which is seen as its nodes.
use Rattle.std.specs.Prelude.{◌≡◌, ℕ, ◌+◌, ◌<◌, ◌≤◌, nat_lt, take, Bool, List, [], ◌∷◌, ◌++◌, map, length, Option, Some, None}
use Rattle.std.specs.declared.cmp.Ordering.{Ordering}
use Rattle.std.specs.Ordering.{is_lt}
use Rattle.std.specs.Cmp.Lexicographic.{slice_cmp}
use Rattle.std.specs.Option.{is_none, option_map}
use Rattle.std.specs.List.{filter, fold, list_any}
use Rattle.std.specs.FinMap.{put}
use Rattle.mj_subs.specs.Collation.{subscript_cmp}
use Rattle.mj_store.specs.declared.store.Direction.{Direction}
use Rattle.mj_store.specs.Nodes.{is_empty, but_last, last_of, after_front, subtree, first_subscripts, next_past}
use Rattle.mj_store.specs.Questions.{Subtree}
use Rattle.mj_subs.specs.declared.subs.TheConstants.{SUBSCRIPTS_LIMIT}

module _ {K V : Type 0} where
  -- the text of the node itself
  abbrev pub own : Option V → List (List K × V)
  own None = []
  own (Some text) = ([], text) ∷ []

  -- the nodes of a child, each with the child's subscript before its own
  abbrev pub under : K → List (List K × V) → List (List K × V)
  under s nodes = map (λ e. (s ∷ e.0, e.1)) nodes

  -- the nodes, each with more subscripts before its own
  abbrev pub behind : List K → List (List K × V) → List (List K × V)
  behind p nodes = map (λ e. (p ++ e.0, e.1)) nodes

  -- the nodes of all children, one after the other
  abbrev pub below : List (K × List (List K × V)) → List (List K × V)
  below [] = []
  below (k ∷ ks) = under k.0 k.1 ++ below ks

  -- a number that is greater for a node than for each of its children
  abbrev pub weight : List (List K × V) → ℕ
  weight [] = 0
  weight (e ∷ es) = length e.0 + 1 + weight es

  -- no child is without a node
  abbrev pub AreFilled : List (K × List (List K × V)) → Type 0
  AreFilled [] = Unit {0}
  AreFilled (k ∷ ks) = (0 < length k.1) × AreFilled ks

  -- the nodes of a child, of which there are none where there is no child
  abbrev pub nodes_of : Option (List (List K × V)) → List (List K × V)
  nodes_of None = []
  nodes_of (Some nodes) = nodes

  -- the subscripts of the first node, if there is one
  abbrev pub lead : List (List K × V) → Option (List K)
  lead [] = None
  lead (e ∷ es) = Some e.0

-- the nodes whose subscripts come after p, place by place
abbrev pub later : {K V : Type 0} → (K → K → Ordering) → List K → List (List K × V) → List (List K × V)
later R p nodes = filter (λ e. is_lt (slice_cmp R p e.0)) nodes

-- the children whose subscripts come after s
abbrev pub beyond : {K X : Type 0} → (K → K → Ordering) → K → List (K × X) → List (K × X)
beyond R s ks = filter (λ k. is_lt (R s k.0)) ks

-- the nodes that don't stand at p or below it
abbrev pub without : {K V : Type 0} → (K → K → Ordering) → List K → List (List K × V) → List (List K × V)
without R p nodes = filter (λ e. is_none (after_front R p e.0)) nodes

-- p followed by each list of the nodes has the list's text, one after the other. Nothing goes
abbrev pub put_behind : {K V : Type 0} → (K → K → Ordering) → List K → List (List K × V) → List (List K × V) → List (List K × V)
put_behind R p more nodes = fold (λ ns e. put (slice_cmp R) (p ++ e.0) e.1 ns) nodes more

-- the first of the nodes after p leaves p behind so many of its subscripts, with this one, below which these nodes stand, and there is one
abbrev pub IsTurn : List (List ℕ) → Subtree → ℕ → List ℕ → Subtree → Type 0
IsTurn p nodes kept s child =
    (kept ≤ length p) × (0 < length child) × (lead (later subscript_cmp p nodes) ≡ option_map (λ rest. take kept p ++ s ∷ rest) (lead child))

-- no child comes after s
abbrev pub IsNoneAside : List ℕ → List (List ℕ × Subtree) → Type 0
IsNoneAside s ks = lead (below (beyond subscript_cmp s ks)) ≡ None

-- the first child after s has this subscript and these nodes, of which there is one; none of a path stays before it
abbrev pub IsAside : List ℕ → List (List ℕ × Subtree) → ℕ → List ℕ → Subtree → Type 0
IsAside s ks kept next child =
    (kept ≡ 0) × (0 < length child) × (lead (below (beyond subscript_cmp s ks)) ≡ option_map (λ rest. next ∷ rest) (lead child))

-- $ORDER among the nodes of a word (7.1.5.11): from the last of p, the next subscript at that place under which a text stands, in this
-- direction. From the empty subscript it is the first one. No subscripts have no next one (this profile)
abbrev pub order_in : List (List ℕ) → Direction → Subtree → Option (List ℕ)
order_in [] way nodes = None
order_in (s ∷ p) way nodes =
    next_past subscript_cmp way (is_empty (last_of s p)) (last_of s p) (first_subscripts (subtree subscript_cmp (but_last s p) nodes))

-- whether p followed by one of the lists has more subscripts than there can be
abbrev pub is_too_long : List (List ℕ) → Subtree → Bool
is_too_long p nodes = list_any (λ e. nat_lt SUBSCRIPTS_LIMIT (length p + length e.0)) nodes
