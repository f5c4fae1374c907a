-- The nodes of one word: a list of subscripts and a text each. What is asked of such a list is said here for subscripts of any type
-- K, in an order R; `Questions` and `Changes` say it of names.
use Rattle.std.specs.Prelude.{ℕ, ◌+◌, Bool, true, false, cond, not, ◌||◌, List, [], ◌∷◌, map, Option, Some, None}
use Rattle.std.specs.Option.{option_map}
use Rattle.std.specs.List.{filter, filter_map, fold, list_any}
use Rattle.std.specs.declared.cmp.Ordering.{Ordering}
use Rattle.std.specs.Ordering.{is_lt, eq_by_cmp, flip_args}
use Rattle.std.specs.Cmp.Lexicographic.{slice_cmp}
use Rattle.mj_store.specs.declared.store.Direction.{Direction}
use Rattle.mj_store.specs.declared.store.Direction.TheVariants.{Forward, Backward}

-- of two, the one that stands first in an order
abbrev pub first_of : {K : Type 0} → (K → K → Ordering) → Option K → K → Option K
first_of R None y = Some y
first_of R (Some x) y = cond (is_lt (R y x)) (Some y) (Some x)

-- the least of a list in an order, if it has any element
abbrev pub least : {K : Type 0} → (K → K → Ordering) → List K → Option K
least R xs = fold (first_of R) None xs

-- the order that a direction looks along
abbrev pub along : {K : Type 0} → Direction → (K → K → Ordering) → K → K → Ordering
along Forward R = R
along Backward R = flip_args R

-- whether a list has no element
abbrev pub is_empty : {K : Type 0} → List K → Bool
is_empty [] = true
is_empty (s ∷ p) = false

-- the first element, if there is one
abbrev pub first : {K : Type 0} → List K → Option K
first [] = None
first (s ∷ p) = Some s

-- s and what follows it, without the last of them
abbrev pub but_last : {K : Type 0} → K → List K → List K
but_last s [] = []
but_last s (t ∷ p) = s ∷ but_last t p

-- the last of s and what follows it
abbrev pub last_of : {K : Type 0} → K → List K → K
last_of s [] = s
last_of s (t ∷ p) = last_of t p

module _ {K : Type 0} (R : K → K → Ordering) where
  -- what the second list has after the first, where it begins with it
  abbrev pub after_front : List K → List K → Option (List K)
  after_front [] q = Some q
  after_front (s ∷ p) [] = None
  after_front (s ∷ p) (t ∷ q) = cond (eq_by_cmp R s t) (after_front p q) None

  -- what stands at p and below it, each by the subscripts that follow p
  abbrev pub subtree : {V : Type 0} → List K → List (List K × V) → List (List K × V)
  subtree p nodes = filter_map (λ e. option_map (λ l. (l, e.1)) (after_front p e.0)) nodes

  -- the first in a direction of those subscripts that stand past s; of all of them, where s is blank
  abbrev pub next_past : Direction → Bool → K → List K → Option K
  next_past way blank s ts = least (along way R) (filter (λ t. blank || is_lt (along way R s t)) ts)

  -- the least list of subscripts after p, place by place
  abbrev pub next_after : {V : Type 0} → List K → List (List K × V) → Option (List K)
  next_after p nodes = least (slice_cmp R) (filter (λ q. is_lt (slice_cmp R p q)) (map (λ e. e.0) nodes))

module _ {K V : Type 0} where
  -- 1 where a text stands at the place itself, and 10 where one stands below it
  abbrev pub data_of : List (List K × V) → ℕ
  data_of nodes = cond (list_any (λ e. is_empty e.0) nodes) 1 0 + cond (list_any (λ e. not (is_empty e.0)) nodes) 10 0

  -- the subscripts of the first level, one for each node below it
  abbrev pub first_subscripts : List (List K × V) → List K
  first_subscripts nodes = filter_map (λ e. first e.0) nodes
