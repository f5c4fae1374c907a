-- The first of some subscripts in a direction is that of the first child, or of the last.
use Rattle.std.proofs.Common.{◌≡◌, Bool, true, false, cond, ◌||◌, List, [], ◌∷◌, ◌++◌, Option, Some, None, refl, sym, ap, ◌∙◌, subst, arith, Bor}
use Rattle.std.specs.Prelude.{T, ⊤}
use Rattle.std.specs.declared.cmp.Ordering.{Ordering}
use Rattle.std.specs.declared.cmp.Ordering.TheVariants.{Less, Equal, Greater}
use Rattle.std.specs.Ordering.{is_lt, flip_args, ordering_reverse}
use Rattle.std.specs.Cmp.{IsTotalOrder, tied_itself}
use Rattle.std.specs.List.{filter, fold, AllByRecursion}
use Rattle.std.specs.List.Sorted.{IsStrictlySortedBy}
use Rattle.std.specs.Option.{option_map}
use Rattle.std.specs.Map.{keys_of}
use Rattle.std.specs.Map.Iter.{TakesFirst, TakesLast, deref_pair}
use Rattle.std.proofs.lemmas.List.Kept.{IsStrictlySortedBy-filter}
use Rattle.mj_store.specs.declared.store.Direction.{Direction}
use Rattle.mj_store.specs.declared.store.Direction.TheVariants.{Forward, Backward}
use Rattle.mj_store.specs.Nodes.{is_empty, first_of, least, along, first_subscripts, next_past}
use Rattle.mj_tree.specs.Nest.{own, under, below, beyond, AreFilled}
use Rattle.mj_tree.specs.Rows.{earlier, live}
use Rattle.mj_tree.proofs.Places.{below-live, filled-live}

filter_each : {A : Type 0} (xs : List A) → filter (λ (x : A). true) xs ≡ xs
filter_each [] = refl
filter_each (x ∷ xs) = ap (λ ys. x ∷ ys) (filter_each xs)

pub filled : {A : Type 0} (xs : List A) → (xs ≡ [] → ⊥) → is_empty xs ≡ false
filled [] none = absurd (none refl)
filled (x ∷ xs) none = refl

pub keys_filter : {K X : Type 0} (test : K → Bool) (es : List (K × X)) → keys_of (filter (λ e. test e.0) es) ≡ filter test (keys_of es)
keys_filter test [] = refl
keys_filter test (e ∷ es) =
    elim (test e.0) as (λ b. keys_of (cond b (e ∷ filter (λ e. test e.0) es) (filter (λ e. test e.0) es))
    ≡ cond b (e.0 ∷ filter test (keys_of es)) (filter test (keys_of es))) [ true ↦ ap (λ ys. e.0 ∷ ys) (keys_filter test es) | false ↦ keys_filter test es ]

keys_append : {K X : Type 0} (es fs : List (K × X)) → keys_of (es ++ fs) ≡ keys_of es ++ keys_of fs
keys_append [] fs = refl
keys_append (e ∷ es) fs = ap (λ ks. e.0 ∷ ks) (keys_append es fs)

module _ {K : Type 0} (R : K → K → Ordering) (o : IsTotalOrder R) where
  not_before : (x y : K) → R x y ≡ Less → is_lt (R y x) ≡ false
  not_before x y e = ap (λ r. is_lt r) (o.antisymm y x ∙ ap ordering_reverse e)

  -- the first of a list that rises is the least
  kept : (x : K) (xs : List K) → AllByRecursion (λ y. R x y ≡ Less) xs → fold (first_of R) (Some x) xs ≡ Some x
  kept x [] h = refl
  kept x (y ∷ ys) h = ap (λ b. fold (first_of R) (cond b (Some y) (Some x)) ys) (not_before x y h.0) ∙ kept x ys h.1

  pub least_sorted : (x : K) (xs : List K) → IsStrictlySortedBy R (x ∷ xs) → least R (x ∷ xs) ≡ Some x
  unfolding IsStrictlySortedBy
  least_sorted x xs h = kept x xs h.0

  -- and the last the greatest
  abbrev IsUpTo : Option K → K → Type 0
  IsUpTo None e = ⊤
  IsUpTo (Some y) e = R y e ≡ Less

  before_last : (x : K) (t : List K) (e : K) → AllByRecursion (λ y. R x y ≡ Less) (t ++ e ∷ []) → R x e ≡ Less
  before_last x [] e h = h.0
  before_last x (y ∷ t) e h = before_last x t e h.1

  up_to : (acc : Option K) (x e : K) → IsUpTo acc e → R x e ≡ Less → IsUpTo (first_of (flip_args R) acc x) e
  up_to None x e u h = h
  up_to (Some y) x e u h = elim (is_lt (R y x)) as (λ b. IsUpTo (cond b (Some x) (Some y)) e) [ true ↦ h | false ↦ u ]

  last_wins : (acc : Option K) (t : List K) (e : K) → IsUpTo acc e → IsStrictlySortedBy R (t ++ e ∷ []) → fold (first_of (flip_args R)) acc (t ++ e ∷ []) ≡ Some e
  unfolding IsStrictlySortedBy
  last_wins None [] e u h = refl
  last_wins (Some y) [] e u h = ap (λ r. cond (is_lt r) (Some e) (Some y)) u
  last_wins acc (x ∷ t) e u h = last_wins (first_of (flip_args R) acc x) t e (up_to acc x e u (before_last x t e h.0)) h.1

  module _ {X : Type 0} where
    first_taken : (r : Option (Bor K × Bor X)) (s t : List (K × X)) → TakesFirst deref_pair s r t → IsStrictlySortedBy R (keys_of s) → option_map (λ e. e.0.now) r ≡ least R (keys_of s)
    first_taken None s t h rises = ap (λ (xs : List (K × X)). least R (keys_of xs)) (sym h.0)
    first_taken (Some x) s t h rises =
        sym (ap (λ (xs : List (K × X)). least R (keys_of xs)) h ∙ least_sorted x.0.now (keys_of t) (subst (λ (xs : List (K × X)). IsStrictlySortedBy R (keys_of xs)) h rises))

    last_taken : (r : Option (Bor K × Bor X)) (s t : List (K × X)) → TakesLast deref_pair s r t → IsStrictlySortedBy R (keys_of s) → option_map (λ e. e.0.now) r ≡ least (flip_args R) (keys_of s)
    last_taken None s t h rises = ap (λ (xs : List (K × X)). least (flip_args R) (keys_of xs)) (sym h.0)
    last_taken (Some x) s t h rises =
        let keys : keys_of s ≡ keys_of t ++ x.0.now ∷ [] = ap (λ (xs : List (K × X)). keys_of xs) h ∙ keys_append t (deref_pair x ∷ []) in
        sym (ap (λ ks. least (flip_args R) ks) keys ∙ last_wins None (keys_of t) x.0.now tt (subst (λ ks. IsStrictlySortedBy R ks) keys rises))

    -- where no subscript is asked from
    pub first_of_all : (r : Option (Bor K × Bor X)) (es fs t : List (K × X)) (s : K) (blank : Bool) → blank ≡ true → fs ≡ es → TakesFirst deref_pair fs r t → IsStrictlySortedBy R (keys_of es)
        → option_map (λ e. e.0.now) r ≡ next_past R Forward blank s (keys_of es)
    first_of_all r es fs t s blank is whole h rises =
        first_taken r es t (subst (λ xs. TakesFirst deref_pair xs r t) whole h) rises
        ∙ sym (ap (λ b. next_past R Forward b s (keys_of es)) is ∙ ap (λ ks. least R ks) (filter_each (keys_of es)))

    pub last_of_all : (r : Option (Bor K × Bor X)) (es fs t : List (K × X)) (s : K) (blank : Bool) → blank ≡ true → fs ≡ es → TakesLast deref_pair fs r t → IsStrictlySortedBy R (keys_of es)
        → option_map (λ e. e.0.now) r ≡ next_past R Backward blank s (keys_of es)
    last_of_all r es fs t s blank is whole h rises =
        last_taken r es t (subst (λ xs. TakesLast deref_pair xs r t) whole h) rises
        ∙ sym (ap (λ b. next_past R Backward b s (keys_of es)) is ∙ ap (λ ks. least (flip_args R) ks) (filter_each (keys_of es)))

    -- where one is
    pub first_beyond : (r : Option (Bor K × Bor X)) (es t : List (K × X)) (s : K) (blank : Bool) → blank ≡ false → TakesFirst deref_pair (beyond R s es) r t
        → IsStrictlySortedBy R (keys_of es) → option_map (λ e. e.0.now) r ≡ next_past R Forward blank s (keys_of es)
    first_beyond r es t s blank is h rises =
        let part : keys_of (beyond R s es) ≡ filter (λ t. is_lt (R s t)) (keys_of es) = keys_filter (λ k. is_lt (R s k)) es in
        first_taken r (beyond R s es) t h (subst (λ ks. IsStrictlySortedBy R ks) (sym part) (IsStrictlySortedBy-filter R (λ t. is_lt (R s t)) (keys_of es) rises))
        ∙ ap (λ ks. least R ks) part
        ∙ sym (ap (λ b. next_past R Forward b s (keys_of es)) is)

    pub last_earlier : (r : Option (Bor K × Bor X)) (es t : List (K × X)) (s : K) (blank : Bool) → blank ≡ false → TakesLast deref_pair (earlier R s es) r t
        → IsStrictlySortedBy R (keys_of es) → option_map (λ e. e.0.now) r ≡ next_past R Backward blank s (keys_of es)
    last_earlier r es t s blank is h rises =
        let part : keys_of (earlier R s es) ≡ filter (λ t. is_lt (R t s)) (keys_of es) = keys_filter (λ k. is_lt (R k s)) es in
        last_taken r (earlier R s es) t h (subst (λ ks. IsStrictlySortedBy R ks) (sym part) (IsStrictlySortedBy-filter R (λ t. is_lt (R t s)) (keys_of es) rises))
        ∙ ap (λ ks. least (flip_args R) ks) part
        ∙ sym (ap (λ b. next_past R Backward b s (keys_of es)) is)

-- ---- the subscripts of the first level are those of the children, once for each node

-- an order in which nothing stands before itself
module _ {K : Type 0} (Q : K → K → Ordering) (self : (k : K) → is_lt (Q k k) ≡ false) where
  once_more : (acc : Option K) (k : K) → first_of Q (first_of Q acc k) k ≡ first_of Q acc k
  once_more None k = ap (λ b. cond b (Some k) (Some k)) (self k)
  once_more (Some x) k =
      elim (is_lt (Q k x)) as (λ b. is_lt (Q k x) ≡ b → first_of Q (cond b (Some k) (Some x)) k ≡ cond b (Some k) (Some x)) [
        | true ↦ λ e. ap (λ b. cond b (Some k) (Some k)) (self k)
        | false ↦ λ e. ap (λ b. cond b (Some k) (Some x)) e
      ] refl

module _ {K V : Type 0} (Q : K → K → Ordering) (self : (k : K) → is_lt (Q k k) ≡ false) (test : K → Bool) where
  repeats : (acc : Option K) (k : K) (nodes : List (List K × V)) (rest : List (List K × V)) → (T (test k) → first_of Q acc k ≡ acc)
      → fold (first_of Q) acc (filter test (first_subscripts (under k nodes ++ rest))) ≡ fold (first_of Q) acc (filter test (first_subscripts rest))
  repeats acc k [] rest stays = refl
  repeats acc k (e ∷ es) rest stays =
      elim (test k) as (λ b. (T b → first_of Q acc k ≡ acc) → fold (first_of Q) acc
      (cond b (k ∷ filter test (first_subscripts (under k es ++ rest))) (filter test (first_subscripts (under k es ++ rest)))) ≡ fold (first_of Q) acc (filter test (first_subscripts rest))) [
        | true ↦ λ s. ap (λ a. fold (first_of Q) a (filter test (first_subscripts (under k es ++ rest)))) (s tt) ∙ repeats acc k es rest stays
        | false ↦ λ s. repeats acc k es rest stays
      ] stays

  once_each : (acc : Option K) (ks : List (K × List (List K × V))) → AreFilled ks → fold (first_of Q) acc (filter test (first_subscripts (below ks))) ≡ fold (first_of Q) acc (filter test (keys_of ks))
  once_each acc [] f = refl
  once_each acc ((k, []) ∷ ks) f = absurd (omega (arith, f.0))
  once_each acc ((k, e ∷ es) ∷ ks) f =
      elim (test k) as (λ b. test k ≡ b → fold (first_of Q) acc (cond b (k ∷ filter test (first_subscripts (under k es ++ below ks))) (filter test (first_subscripts (under k es ++ below ks))))
      ≡ fold (first_of Q) acc (cond b (k ∷ filter test (keys_of ks)) (filter test (keys_of ks)))) [
        | true ↦ λ t. repeats (first_of Q acc k) k es (below ks) (λ _. once_more Q self acc k) ∙ once_each (first_of Q acc k) ks f.1
        | false ↦ λ t. repeats acc k es (below ks) (λ h. absurd (subst (λ b. T b) t h)) ∙ once_each acc ks f.1
      ] refl

  of_children : (text : Option V) (ks : List (K × List (List K × V))) → AreFilled ks → least Q (filter test (first_subscripts (own text ++ below ks))) ≡ least Q (filter test (keys_of ks))
  of_children None ks f = once_each None ks f
  of_children (Some text) ks f = once_each None ks f

not_itself : {K : Type 0} {R : K → K → Ordering} (o : IsTotalOrder R) (way : Direction) (k : K) → is_lt (along way R k k) ≡ false
not_itself o Forward k = ap (λ r. is_lt r) (tied_itself o k)
not_itself o Backward k = ap (λ r. is_lt r) (tied_itself o k)

-- $ORDER among the children of a node
pub order_children : {K V : Type 0} {R : K → K → Ordering} (o : IsTotalOrder R) (way : Direction) (blank : Bool) (s : K) (text : Option V) (ks : List (K × List (List K × V))) → AreFilled ks
    → next_past R way blank s (first_subscripts (own text ++ below ks)) ≡ next_past R way blank s (keys_of ks)
order_children {R = R} o way blank s text ks f = of_children (along way R) (not_itself o way) (λ t. blank || is_lt (along way R s t)) text ks f

-- the same of places of which some hold nothing
pub order_places : {K V : Type 0} {R : K → K → Ordering} (o : IsTotalOrder R) (way : Direction) (blank : Bool) (s : K) (text : Option V) (ks : List (K × List (List K × V)))
    → next_past R way blank s (first_subscripts (own text ++ below ks)) ≡ next_past R way blank s (keys_of (live ks))
order_places {K} {V} {R = R} o way blank s text ks =
    ap (λ (nodes : List (List K × V)). next_past R way blank s (first_subscripts (own text ++ nodes))) (sym (below-live ks)) ∙ order_children o way blank s text (live ks) (filled-live ks)
