-- What is looked along by the last subscript of a name, where that is told apart.
use Rattle.std.proofs.Common.{◌≡◌, ℕ, List, [], ◌∷◌, ◌++◌, Option, refl, ap}
use Rattle.mj_subs.specs.Name.{Name}
use Rattle.mj_store.specs.declared.store.Direction.{Direction}
use Rattle.mj_store.specs.Nodes.{but_last, last_of}
use Rattle.mj_store.specs.Questions.{with_subscripts, rest_of}
use Rattle.mj_explain.specs.Looks.{next_leaves_out, order_leaves_out, has_more, stands_along}

but_last-append : {K : Type 0} (s : K) (front : List K) (last : K) → but_last s (front ++ last ∷ []) ≡ s ∷ front
but_last-append s [] last = refl
but_last-append s (t ∷ front) last = ap (λ ts. s ∷ ts) (but_last-append t front last)

last_of-append : {K : Type 0} (s : K) (front : List K) (last : K) → last_of s (front ++ last ∷ []) ≡ last
last_of-append s [] last = refl
last_of-append s (t ∷ front) last = last_of-append t front last

pub left_out_split : (n m : Name) (front : List (List ℕ)) (last : List ℕ) (way : Direction) (next : Option (List ℕ))
    → order_leaves_out n m (front ++ last ∷ []) way next ≡ next_leaves_out way last (rest_of (with_subscripts m front) n) next
left_out_split n m [] last way next = refl
left_out_split n m (s ∷ front) last way next =
    λ i. next_leaves_out way (last_of-append s front last i) (rest_of (with_subscripts m (but_last-append s front last i)) n) next

pub along_split : (n m : Name) (front : List (List ℕ)) (last : List ℕ) → stands_along n m (front ++ last ∷ []) ≡ has_more (rest_of (with_subscripts m front) n)
along_split n m [] last = refl
along_split n m (s ∷ front) last = λ i. has_more (rest_of (with_subscripts m (but_last-append s front last i)) n)
