-- Where something stands, at a name or below it, and what stands next to it.
use Rattle.std.proofs.Common.{◌≡◌, ℕ, ◌+◌, Bool, true, false, cond, not, nat_eq, nat_lt, ◌||◌, List, [], ◌∷◌, ◌++◌, Option, Some, None, ◌⊎◌, inl, inr, refl, sym, ap, ◌∙◌, subst}
use Rattle.std.specs.declared.cmp.Ordering.{Ordering}
use Rattle.std.specs.declared.cmp.Ordering.TheVariants.{Less, Equal, Greater}
use Rattle.std.specs.Ordering.{is_eq, is_lt, eq_by_cmp, ordering_reverse}
use Rattle.std.specs.Cmp.{IsTotalOrder, tied_itself}
use Rattle.std.specs.FinMap.{find, IsAntisymmetric}
use Rattle.std.specs.List.{list_any, cons_option, filter, fold}
use Rattle.std.specs.Option.{is_some, option_or, option_map}
use Rattle.std.proofs.lemmas.Cmp.{back_total}
use Rattle.mj_subs.specs.Name.{Name}
use Rattle.mj_subs.specs.Collation.{subscript_cmp, name_cmp}
use Rattle.mj_subs.specs.Laws.Total.{subscript_cmp_total, name_cmp_total}
use Rattle.mj_subs.specs.Laws.Ties.{subscript_cmp-IsAntisymmetric, name_cmp-IsAntisymmetric}
use Rattle.mj_store.specs.declared.store.Direction.{Direction}
use Rattle.mj_store.specs.declared.store.Direction.TheVariants.{Forward, Backward}
use Rattle.mj_store.specs.Nodes.{is_empty, but_last, last_of, after_front, along, next_past, first_of, least, data_of, first_subscripts}
use Rattle.mj_store.specs.Questions.{Content, Subtree, same_word, with_subscripts, rest_of, value_at, data_at, subtree_at, order_at, order_under}
use Rattle.mj_store.specs.Changes.{followed_by}
use Rattle.mj_txlog.specs.Accesses.{Accesses, seen}
use Rattle.mj_txlog.specs.Laid.{Laid, went, IsLaid}
use Rattle.mj_txlog.proofs.Fronts.{rest_split, rest_followed}
use Rattle.mj_txlog.proofs.Firsts.{among, IsNext, next_like, only_next, least_next, not_both}
use Rattle.mj_txlog.proofs.Laid.{went_below, clear_below, here_in, below_in, found_here}

-- whether a text stands at the name or below it
abbrev pub stands : Content → Name → Bool
stands c n = not (is_empty (subtree_at c n))

pub nil_after : (p : List (List ℕ)) → p ++ [] ≡ p
nil_after [] = refl
nil_after (s ∷ p) = ap (λ (q : List (List ℕ)). s ∷ q) (nil_after p)

-- a subtree with one node more, where that is one of its nodes
abbrev pub nodes_with : Option (List (List ℕ)) → List ℕ → Subtree → Subtree
nodes_with r v nodes = cons_option (option_map (λ l. (l, v)) r) nodes

-- ---- $DATA says it

any_data : (b : Bool) → nat_eq (1 + cond b 10 0) 0 ≡ false
any_data true = refl
any_data false = refl

more_data : (b : Bool) → nat_eq (cond b 1 0 + 10) 0 ≡ false
more_data true = refl
more_data false = refl

data_nodes : (nodes : Subtree) → nat_eq (data_of nodes) 0 ≡ is_empty nodes
data_nodes [] = refl
data_nodes (([], v) ∷ ns) = any_data (list_any (λ e. not (is_empty e.0)) ns)
data_nodes ((s ∷ l, v) ∷ ns) = more_data (list_any (λ e. is_empty e.0) ns)

pub data_stands : (c : Content) (n : Name) → not (nat_eq (data_at c n) 0) ≡ stands c n
data_stands c n = ap not (data_nodes (subtree_at c n))

-- ---- a text that stands there

stands_more : (n : Name) (r : Option (List (List ℕ))) (v : List ℕ) (nodes : Subtree) → not (is_empty nodes) ≡ true → not (is_empty (nodes_with r v nodes)) ≡ true
stands_more n None v nodes h = h
stands_more n (Some l) v nodes h = refl

pub stands_from : (n : Name) (b : List (List ℕ)) (c : Content) → is_some (find name_cmp (followed_by n b) c) ≡ true → stands c n ≡ true
stands_from n b [] h = absurd cc
stands_from n b (x ∷ c) h =
    let m = followed_by n b in
    elim (name_cmp m x.0) as (λ t. name_cmp m x.0 ≡ t → is_some (cond (is_eq t) (Some x.1) (find name_cmp m c)) ≡ true → not (is_empty (nodes_with (rest_of n x.0) x.1 (subtree_at c n))) ≡ true) [
      | Equal ↦ λ q f. ap (λ r. not (is_empty (nodes_with r x.1 (subtree_at c n)))) (ap (rest_of n) (sym (name_cmp-IsAntisymmetric m x.0 q)) ∙ rest_followed n b)
      | Less ↦ λ q f. stands_more n (rest_of n x.0) x.1 (subtree_at c n) (stands_from n b c f)
      | Greater ↦ λ q f. stands_more n (rest_of n x.0) x.1 (subtree_at c n) (stands_from n b c f)
    ] refl h

pub record IsThere (n : Name) (c : Content) : Type 0 where
  pub b : List (List ℕ)
  pub there : is_some (find name_cmp (followed_by n b) c) ≡ true

some_later : (t : Bool) (v : List ℕ) (f : Option (List ℕ)) → is_some f ≡ true → is_some (cond t (Some v) f) ≡ true
some_later true v f h = refl
some_later false v f h = h

pub stands_to : (n : Name) (c : Content) → stands c n ≡ true → IsThere n c
stands_to n [] h = absurd cc
stands_to n (x ∷ c) h = by (rest_of n x.0) refl (stands_to n c) h
  where
    by : (r : Option (List (List ℕ))) → rest_of n x.0 ≡ r → (not (is_empty (subtree_at c n)) ≡ true → IsThere n c) → not (is_empty (nodes_with r x.1 (subtree_at c n))) ≡ true → IsThere n (x ∷ c)
    by None e rest f = let i = rest f in record { b = i.b; there = some_later (eq_by_cmp name_cmp (followed_by n i.b) x.0) x.1 (find name_cmp (followed_by n i.b) c) i.there }
    by (Some l) e rest f =
        let m = followed_by n l in
        record {
          b = l;
          there =
              ap (λ (k : Name). is_some (cond (eq_by_cmp name_cmp m k) (Some x.1) (find name_cmp m c))) (sym (rest_split n x.0 l e))
              ∙ ap (λ r. is_some (cond (is_eq r) (Some x.1) (find name_cmp m c))) (tied_itself name_cmp_total m);
        }

-- ---- one level below a name

abbrev pub one_more : List ℕ → Option (List (List ℕ)) → Option (List (List ℕ))
one_more t None = None
one_more t (Some []) = None
one_more t (Some (s ∷ l)) = cond (eq_by_cmp subscript_cmp t s) (Some l) None

pub front_one : (p q : List (List ℕ)) (t : List ℕ) → after_front subscript_cmp (p ++ t ∷ []) q ≡ one_more t (after_front subscript_cmp p q)
front_one [] [] t = refl
front_one [] (s ∷ q) t = refl
front_one (s ∷ p) [] t = refl
front_one (s ∷ p) (u ∷ q) t =
    elim (eq_by_cmp subscript_cmp s u) as (λ b. cond b (after_front subscript_cmp (p ++ t ∷ []) q) None ≡ one_more t (cond b (after_front subscript_cmp p q) None)) [
      | true ↦ front_one p q t
      | false ↦ refl
    ]

rest_more : (f x : Name) (t : List ℕ) → rest_of (followed_by f (t ∷ [])) x ≡ one_more t (rest_of f x)
rest_more f x t =
    elim (same_word f x) as (λ b. cond b (after_front subscript_cmp (f.subscripts ++ t ∷ []) x.subscripts) None
    ≡ one_more t (cond b (after_front subscript_cmp f.subscripts x.subscripts) None)) [ true ↦ front_one f.subscripts x.subscripts t | false ↦ refl ]

-- a subscript is one of the first ones below a name where a text stands at or below that name with it
pub level_stands : (c : Content) (f : Name) (t : List ℕ) → among subscript_cmp (first_subscripts (subtree_at c f)) t ≡ stands c (followed_by f (t ∷ []))
level_stands [] f t = refl
level_stands (x ∷ c) f t =
    by (rest_of f x.0) (level_stands c f t) ∙ sym (ap (λ r. not (is_empty (nodes_with r x.1 (subtree_at c (followed_by f (t ∷ [])))))) (rest_more f x.0 t))
  where
    by : (r : Option (List (List ℕ))) → among subscript_cmp (first_subscripts (subtree_at c f)) t ≡ not (is_empty (subtree_at c (followed_by f (t ∷ []))))
        → among subscript_cmp (first_subscripts (nodes_with r x.1 (subtree_at c f))) t ≡ not (is_empty (nodes_with (one_more t r) x.1 (subtree_at c (followed_by f (t ∷ [])))))
    by None h = h
    by (Some []) h = h
    by (Some (s ∷ l)) h =
        elim (eq_by_cmp subscript_cmp t s) as (λ b. (b || among subscript_cmp (first_subscripts (subtree_at c f)) t)
        ≡ not (is_empty (nodes_with (cond b (Some l) None) x.1 (subtree_at c (followed_by f (t ∷ [])))))) [ true ↦ refl | false ↦ h ]

pub last_is : (t s : List ℕ) (q : List (List ℕ)) → last_of t (q ++ s ∷ []) ≡ s
last_is t s [] = refl
last_is t s (u ∷ q) = last_is u s q

pub but_last_is : (t s : List ℕ) (q : List (List ℕ)) → but_last t (q ++ s ∷ []) ≡ t ∷ q
but_last_is t s [] = refl
but_last_is t s (u ∷ q) = ap (λ (p : List (List ℕ)). t ∷ p) (but_last_is u s q)

-- $ORDER at a name with one subscript more
pub order_level : (c : Content) (f : Name) (s : List ℕ) (way : Direction) → order_at c (followed_by f (s ∷ [])) way ≡ next_past subscript_cmp way (is_empty s) s (first_subscripts (subtree_at c f))
order_level c f s way = by f.subscripts
  where
    by : (p : List (List ℕ)) → order_under c f (p ++ s ∷ []) way ≡ next_past subscript_cmp way (is_empty s) s (first_subscripts (subtree_at c (with_subscripts f p)))
    by [] = refl
    by (t ∷ q) = λ i. next_past subscript_cmp way (is_empty (last_is t s q i)) (last_is t s q i) (first_subscripts (subtree_at c (with_subscripts f (but_last_is t s q i))))

-- ---- the orders that directions look along

pub along_total : (way : Direction) → IsTotalOrder (along way subscript_cmp)
along_total Forward = subscript_cmp_total
along_total Backward = back_total subscript_cmp_total

pub along_same : (way : Direction) → IsAntisymmetric (along way subscript_cmp)
along_same Forward x y e = subscript_cmp-IsAntisymmetric x y e
along_same Backward x y e = sym (subscript_cmp-IsAntisymmetric y x e)

-- ties are the same in both directions
tie_turned : (x y : List ℕ) → is_eq (subscript_cmp y x) ≡ is_eq (subscript_cmp x y)
tie_turned x y =
    elim (subscript_cmp x y) as (λ r. subscript_cmp x y ≡ r → is_eq (subscript_cmp y x) ≡ is_eq r) [
      | Equal ↦ λ e. ap (λ (z : List ℕ). is_eq (subscript_cmp z x)) (sym (subscript_cmp-IsAntisymmetric x y e)) ∙ ap is_eq (tied_itself subscript_cmp_total x)
      | Less ↦ λ e. ap is_eq (subscript_cmp_total.antisymm y x ∙ ap ordering_reverse e)
      | Greater ↦ λ e. ap is_eq (subscript_cmp_total.antisymm y x ∙ ap ordering_reverse e)
    ] refl

among_along : (way : Direction) (xs : List (List ℕ)) (t : List ℕ) → among (along way subscript_cmp) xs t ≡ among subscript_cmp xs t
among_along Forward xs t = refl
among_along Backward [] t = refl
among_along Backward (x ∷ xs) t = λ i. tie_turned t x i || among_along Backward xs t i

-- a subscript that stands past s in a direction; each, where s is blank
abbrev pub is_past : Direction → List ℕ → List ℕ → Bool
is_past way s t = is_empty s || is_lt (along way subscript_cmp s t)

abbrev pub level : Content → Name → List ℕ → Bool
level c f t = stands c (followed_by f (t ∷ []))

-- $ORDER is the first of those that stand past it
pub order_next : (c : Content) (f : Name) (s : List ℕ) (way : Direction) → IsNext (along way subscript_cmp) (level c f) (is_past way s) (order_at c (followed_by f (s ∷ [])) way)
order_next c f s way =
    let Q = along way subscript_cmp in
    let ts = first_subscripts (subtree_at c f) in
    subst (λ (r : Option (List ℕ)). IsNext Q (level c f) (is_past way s) r) (sym (order_level c f s way))
    (next_like Q (among Q ts) (level c f) (is_past way s) (least Q (filter (is_past way s) ts)) (λ u. among_along way ts u ∙ level_stands c f u)
    (least_next Q (along_total way) (along_same way) (is_past way s) ts))

-- ---- what stands in the own texts, in the globals, and in what is seen

some_of : (x y : Option (List ℕ)) (w : Bool) → is_some (option_or x (cond w None y)) ≡ true → (is_some x ≡ true) ⊎ (is_some y ≡ true)
some_of (Some v) y w h = inl refl
some_of None y true h = absurd cc
some_of None y false h = inr h

own_some : (x y : Option (List ℕ)) → is_some x ≡ true → is_some (option_or x y) ≡ true
own_some (Some v) y h = refl
own_some None y h = absurd cc

gone_some : (x y : Option (List ℕ)) → is_some (option_or x (cond true None y)) ≡ true → is_some x ≡ true
gone_some (Some v) y h = refl
gone_some None y h = absurd cc

other_alone : (x y : Option (List ℕ)) → is_some x ≡ false → is_some y ≡ false → is_some (option_or x y) ≡ false
other_alone (Some v) y h k = absurd cc
other_alone None y h k = k

stands_here : (n : Name) (c : Content) → is_some (value_at c n) ≡ true → stands c n ≡ true
stands_here n c h =
    let same : followed_by n [] ≡ n = ap (with_subscripts n) (nil_after n.subscripts) in
    stands_from n [] c (ap (λ (m : Name). is_some (value_at c m)) same ∙ h)

other_some : (x y : Option (List ℕ)) → is_some y ≡ true → is_some (option_or x (cond false None y)) ≡ true
other_some (Some v) y h = refl
other_some None y h = h

pub is_as : (a b : Bool) → (a ≡ true → b ≡ true) → (b ≡ true → a ≡ true) → a ≡ b
is_as true b f h = sym (f refl)
is_as false true f h = h refl
is_as false false f h = refl

module _ (o : Laid) (es : Accesses) (laid : IsLaid o es) (g : Content) where
  pub own_stands : (n : Name) → stands o.over n ≡ true → stands (seen g es) n ≡ true
  own_stands n h =
      let i = stands_to n o.over h in
      let m = followed_by n i.b in
      stands_from n i.b (seen g es) (ap is_some (laid m g) ∙ own_some (value_at o.over m) (cond (went o.gone m) None (value_at g m)) i.there)

  pub seen_stands : (n : Name) → stands (seen g es) n ≡ true → (stands o.over n ≡ true) ⊎ (stands g n ≡ true)
  seen_stands n h =
      let i = stands_to n (seen g es) h in
      let m = followed_by n i.b in
      elim (some_of (value_at o.over m) (value_at g m) (went o.gone m) (sym (ap is_some (laid m g)) ∙ i.there)) [
        | inl e ↦ inl (stands_from n i.b o.over e)
        | inr e ↦ inr (stands_from n i.b g e)
      ]

  -- where a name went, what stands there is its own
  pub gone_stands : (n : Name) → went o.gone n ≡ true → stands (seen g es) n ≡ stands o.over n
  gone_stands n w = is_as (stands (seen g es) n) (stands o.over n)
      (λ h.
      let i = stands_to n (seen g es) h in
      let m = followed_by n i.b in
      stands_from n i.b o.over (gone_some (value_at o.over m) (value_at g m) (ap (λ b. is_some (option_or (value_at o.over m) (cond b None (value_at g m)))) (sym (went_below o.gone n i.b w))
      ∙ sym (ap is_some (laid m g)) ∙ i.there)))
      (own_stands n)

  pub other_text : (n : Name) (b : List (List ℕ)) → went o.gone (followed_by n b) ≡ false → is_some (value_at g (followed_by n b)) ≡ true → stands (seen g es) n ≡ true
  other_text n b w h =
      let m = followed_by n b in
      stands_from n b (seen g es) (ap is_some (laid m g) ∙ ap (λ t. is_some (option_or (value_at o.over m) (cond t None (value_at g m)))) w ∙ other_some (value_at o.over m) (value_at g m) h)

  -- where neither it nor one above or below it went, and nothing stands of its own, the globals say it
  pub clear_stands : (n : Name) → stands o.over n ≡ false → went o.gone n ≡ false → data_at o.gone n ≡ 0 → stands (seen g es) n ≡ stands g n
  clear_stands n own w none = is_as (stands (seen g es) n) (stands g n)
      (λ h. elim (seen_stands n h) [ inl e ↦ not_both (stands o.over n) e own | inr e ↦ e ])
      (λ h. let i = stands_to n g h in other_text n i.b (clear_below o.gone n i.b w none) i.there)

  -- a text of the globals at the name itself, which didn't go
  pub text_stands : (n : Name) → went o.gone n ≡ false → is_some (value_at g n) ≡ true → stands (seen g es) n ≡ true
  text_stands n w h =
      let same : followed_by n [] ≡ n = ap (with_subscripts n) (nil_after n.subscripts) in
      other_text n [] (ap (went o.gone) same ∙ w) (ap (λ (m : Name). is_some (value_at g m)) same ∙ h)

  -- a name that didn't go, and that has no text in either, has none
  pub no_text : (n : Name) → stands o.over n ≡ false → went o.gone n ≡ false → is_some (value_at g n) ≡ false → is_some (value_at (seen g es) n) ≡ false
  no_text n own w none =
      ap is_some (laid n g) ∙ (λ i. is_some (option_or (value_at o.over n) (cond (w i) None (value_at g n))))
      ∙ elim (is_some (value_at o.over n)) as (λ b. is_some (value_at o.over n) ≡ b → is_some (option_or (value_at o.over n) (value_at g n)) ≡ false) [
        | true ↦ λ e. not_both (stands o.over n) (stands_here n o.over e) own
        | false ↦ λ e. other_alone (value_at o.over n) (value_at g n) e none
      ] refl

-- ---- below a name without a text

first_some : {K : Type 0} (Q : K → K → Ordering) (acc : Option K) (xs : List K) → is_some (fold (first_of Q) acc xs) ≡ (is_some acc || not (is_empty xs))
first_some Q None [] = refl
first_some Q (Some y) [] = refl
first_some Q None (x ∷ xs) = first_some Q (Some x) xs
first_some Q (Some y) (x ∷ xs) =
    first_some Q (cond (is_lt (Q x y)) (Some x) (Some y)) xs ∙ elim (is_lt (Q x y)) as (λ b. (is_some (cond b (Some x) (Some y)) || not (is_empty xs)) ≡ true) [ true ↦ refl | false ↦ refl ]

all_past : {K : Type 0} (f : K → Bool) (ts : List K) → filter (λ t. true || f t) ts ≡ ts
all_past f [] = refl
all_past f (t ∷ ts) = ap (λ us. t ∷ us) (all_past f ts)

first_there : (c : Content) (n : Name) (way : Direction) → is_some (order_at c (followed_by n ([] ∷ [])) way) ≡ not (is_empty (first_subscripts (subtree_at c n)))
first_there c n way =
    let Q = along way subscript_cmp in
    let ts = first_subscripts (subtree_at c n) in
    ap is_some (order_level c n [] way) ∙ ap (λ (us : List (List ℕ)). is_some (least Q us)) (all_past (λ t. is_lt (Q [] t)) ts) ∙ first_some Q None ts

here_or_below : (nodes : Subtree) → not (is_empty nodes) ≡ (here_in nodes || not (is_empty (first_subscripts nodes)))
here_or_below [] = refl
here_or_below (([], v) ∷ ns) = refl
here_or_below ((s ∷ l, v) ∷ ns) = true_last (here_in ns)
  where
    true_last : (b : Bool) → true ≡ (b || true)
    true_last true = refl
    true_last false = refl

-- something stands at a name without a text, or below it, where there is a first subscript below it
pub below_stands : (c : Content) (n : Name) (way : Direction) → is_some (value_at c n) ≡ false → stands c n ≡ is_some (order_at c (followed_by n ([] ∷ [])) way)
below_stands c n way none =
    here_or_below (subtree_at c n) ∙ (λ i. (found_here n c ∙ none) i || sym (first_there c n way) i)

-- $DATA of a name is whether it has a text, and whether it has a first subscript below it
below_firsts : (nodes : Subtree) → below_in nodes ≡ not (is_empty (first_subscripts nodes))
below_firsts [] = refl
below_firsts (([], v) ∷ ns) = below_firsts ns
below_firsts ((s ∷ l, v) ∷ ns) = refl

pub data_split : (c : Content) (n : Name) (way : Direction) → data_at c n ≡ cond (is_some (value_at c n)) 1 0 + cond (is_some (order_at c (followed_by n ([] ∷ [])) way)) 10 0
data_split c n way = λ i. cond (found_here n c i) 1 0 + cond ((below_firsts (subtree_at c n) ∙ sym (first_there c n way)) i) 10 0

-- where $DATA says that nothing stands below a name, none of its subscripts is there
leaf_firsts : (here : Bool) (ts : List (List ℕ)) → nat_lt (cond here 1 0 + cond (not (is_empty ts)) 10 0) 10 ≡ true → ts ≡ []
leaf_firsts here [] h = refl
leaf_firsts true (t ∷ ts) h = absurd cc
leaf_firsts false (t ∷ ts) h = absurd cc

leaf_level : (c : Content) (f : Name) (t : List ℕ) → nat_lt (data_at c f) 10 ≡ true → stands c (followed_by f (t ∷ [])) ≡ false
leaf_level c f t h =
    let nodes = subtree_at c f in
    sym (level_stands c f t)
    ∙ ap (λ (ts : List (List ℕ)). among subscript_cmp ts t)
    (leaf_firsts (here_in nodes) (first_subscripts nodes) (ap (λ b. nat_lt (cond (here_in nodes) 1 0 + cond b 10 0) 10) (sym (below_firsts nodes)) ∙ h))

-- and so nothing of what is seen is there, where that is said of the own texts and of the globals
pub leaf_order : (o : Laid) (es : Accesses) → IsLaid o es → (g : Content) (f : Name) (s : List ℕ) (way : Direction) → nat_lt (data_at o.over f) 10 ≡ true → nat_lt (data_at g f) 10 ≡ true
    → None ≡ order_at (seen g es) (followed_by f (s ∷ [])) way
leaf_order o es laid g f s way h k =
    only_next (along way subscript_cmp) (along_total way) (along_same way) (level (seen g es) f) (is_past way s) None (order_at (seen g es) (followed_by f (s ∷ [])) way)
    (λ t x. elim (seen_stands o es laid g (followed_by f (t ∷ [])) x) [
      | inl e ↦ not_both (stands o.over (followed_by f (t ∷ []))) e (leaf_level o.over f t h)
      | inr e ↦ not_both (stands g (followed_by f (t ∷ []))) e (leaf_level g f t k)
    ])
    (order_next (seen g es) f s way)

-- below a name that went, $ORDER is that of the own texts
pub gone_order : (o : Laid) (es : Accesses) → IsLaid o es → (g : Content) (f : Name) (s : List ℕ) (way : Direction) → went o.gone f ≡ true
    → order_at o.over (followed_by f (s ∷ [])) way ≡ order_at (seen g es) (followed_by f (s ∷ [])) way
gone_order o es laid g f s way w =
    let r = order_at o.over (followed_by f (s ∷ [])) way in
    only_next (along way subscript_cmp) (along_total way) (along_same way) (level (seen g es) f) (is_past way s) r (order_at (seen g es) (followed_by f (s ∷ [])) way)
    (next_like (along way subscript_cmp) (level o.over f) (level (seen g es) f) (is_past way s) r (λ t. sym (gone_stands o es laid g (followed_by f (t ∷ [])) (went_below o.gone f (t ∷ []) w)))
    (order_next o.over f s way))
    (order_next (seen g es) f s way)
