-- The first text below a name, and the first past it and all below it.
use Rattle.std.proofs.Common.{◌≡◌, ℕ, Bool, true, false, cond, ◌&&◌, ◌||◌, List, [], ◌∷◌, ◌++◌, map, Option, Some, None, inl, inr, refl, sym, ap, ◌∙◌, subst}
use Rattle.std.specs.declared.cmp.Ordering.{Ordering}
use Rattle.std.specs.declared.cmp.Ordering.TheVariants.{Less, Equal, Greater}
use Rattle.std.specs.Ordering.{is_eq, is_lt, eq_by_cmp, ordering_then}
use Rattle.std.specs.Cmp.{IsTotalOrder, tied_itself}
use Rattle.std.specs.Cmp.Lexicographic.{slice_cmp}
use Rattle.std.specs.FinMap.{find, IsAntisymmetric, slice_cmp-IsAntisymmetric}
use Rattle.std.specs.List.{filter}
use Rattle.std.specs.Option.{is_some, is_none, option_map}
use Rattle.std.proofs.lemmas.Cmp.{lists_total}
use Rattle.std.proofs.lemmas.List.{append_assoc}
use Rattle.mj_subs.specs.Name.{Name}
use Rattle.mj_subs.specs.Collation.{subscript_cmp, name_cmp}
use Rattle.mj_subs.specs.Laws.Total.{subscript_cmp_total, name_cmp_total}
use Rattle.mj_subs.specs.Laws.Ties.{subscript_cmp-IsAntisymmetric, name_cmp-IsAntisymmetric}
use Rattle.mj_store.specs.declared.store.Direction.TheVariants.{Forward}
use Rattle.mj_store.specs.Nodes.{is_empty, after_front, least}
use Rattle.mj_store.specs.Questions.{Content, with_subscripts, rest_of, value_at, subtree_at, order_at, query_at}
use Rattle.mj_store.specs.Changes.{followed_by}
use Rattle.mj_txlog.specs.Walks.{first_in, is_filled, is_within, is_below, is_beyond}
use Rattle.mj_txlog.proofs.Fronts.{taken_so, ties_same, tie_itself, front_split, front_itself, front_more, rest_split, rest_followed}
use Rattle.mj_txlog.proofs.Firsts.{among, IsNext, next_like, only_next, least_next, lt_is, lt_not, lt_asym, eq_is, either_true, first_true, second_true, not_both}
use Rattle.mj_txlog.proofs.Laid.{some_either}
use Rattle.mj_txlog.proofs.Stands.{nodes_with, nil_after, one_more, front_one, stands_from, stands_to, is_past, level, order_next, is_as}

-- ---- tests, one or the other

module _ {K : Type 0} (Q : K → K → Ordering) (has one other : K → Bool) where
  next_where : (r : Option K) → ((u : K) → has u ≡ true → one u ≡ other u) → IsNext Q has one r → IsNext Q has other r
  next_where None e h = λ u x. sym (e u x) ∙ h u x
  next_where (Some t) e h = (h.0, sym (e t h.0) ∙ h.1, λ u x z. h.2 u x (e u x ∙ z))

  -- those that pass the first stand before those that pass the other
  next_first : (r : Option K) → is_some r ≡ true → ((u v : K) → one u ≡ true → other v ≡ true → is_lt (Q v u) ≡ false) → IsNext Q has one r → IsNext Q has (λ u. one u || other u) r
  next_first None s before h = absurd cc
  next_first (Some t) s before h = (
    h.0,
    first_true (one t) (other t) h.1,
    λ u x z. elim (either_true (one u) (other u) z) [ inl e ↦ h.2 u x e | inr e ↦ before t u h.1 e ],
  )

  next_second : (r : Option K) → IsNext Q has one None → IsNext Q has other r → IsNext Q has (λ u. one u || other u) r
  next_second None h k = λ u x. (λ i. h u x i || k u x i)
  next_second (Some t) h k = (
    k.0,
    second_true (one t) (other t) k.1,
    λ u x z. elim (either_true (one u) (other u) z) [ inl e ↦ not_both (one u) e (h u x) | inr e ↦ k.2 u x e ],
  )

-- ---- lists of subscripts

abbrev S : List (List ℕ) → List (List ℕ) → Ordering
S = slice_cmp subscript_cmp

lists_order : IsTotalOrder S
lists_order = lists_total subscript_cmp_total

lists_same : IsAntisymmetric S
lists_same = slice_cmp-IsAntisymmetric subscript_cmp-IsAntisymmetric

and_false : (b : Bool) → (b && false) ≡ false
and_false true = refl
and_false false = refl

and_true : (b : Bool) → (b && true) ≡ b
and_true true = refl
and_true false = refl

front_cmp : (f a b : List (List ℕ)) → S (f ++ a) (f ++ b) ≡ S a b
front_cmp [] a b = refl
front_cmp (x ∷ f) a b = ap (λ r. ordering_then r (S (f ++ a) (f ++ b))) (tied_itself subscript_cmp_total x) ∙ front_cmp f a b

not_first : (l : List (List ℕ)) → is_lt (S l []) ≡ false
not_first [] = refl
not_first (s ∷ l) = refl

-- what stands at a place or below it isn't before it
not_earlier : (p u l : List (List ℕ)) → after_front subscript_cmp p u ≡ Some l → is_lt (S u p) ≡ false
not_earlier p u l e = (λ i. is_lt (S (sym (front_split p u l e) i) (sym (nil_after p) i))) ∙ ap is_lt (front_cmp p l []) ∙ not_first l

-- where a list isn't at a place or below it, it is past the place as it is past what stands below that
apart_cmp : (f a q : List (List ℕ)) → after_front subscript_cmp f q ≡ None → is_lt (S (f ++ a) q) ≡ is_lt (S f q)
apart_cmp [] a q e = absurd cc
apart_cmp (x ∷ f) a [] e = refl
apart_cmp (x ∷ f) a (y ∷ q) e =
    elim (subscript_cmp x y) as (λ r. cond (is_eq r) (after_front subscript_cmp f q) None ≡ None → is_lt (ordering_then r (S (f ++ a) q)) ≡ is_lt (ordering_then r (S f q))) [
      | Less ↦ λ d. refl
      | Equal ↦ λ d. apart_cmp f a q d
      | Greater ↦ λ d. refl
    ] e

-- what is past a place is past all that stands at it or below it
within_first : (p u v l : List (List ℕ)) → after_front subscript_cmp p u ≡ Some l → is_lt (S p v) ≡ true → after_front subscript_cmp p v ≡ None → is_lt (S u v) ≡ true
within_first [] u v l a b d = absurd cc
within_first (s ∷ p) [] v l a b d = absurd cc
within_first (s ∷ p) (x ∷ u) [] l a b d = absurd cc
within_first (s ∷ p) (x ∷ u) (t ∷ v) l a b d =
    let h = taken_so (eq_by_cmp subscript_cmp s x) (after_front subscript_cmp p u) l a in
    subst (λ (z : List ℕ). is_lt (ordering_then (subscript_cmp z t) (S u v)) ≡ true) (ties_same s x h.0)
    (elim (subscript_cmp s t) as (λ r. is_lt (ordering_then r (S p v)) ≡ true → cond (is_eq r) (after_front subscript_cmp p v) None ≡ None → is_lt (ordering_then r (S u v)) ≡ true) [
      | Less ↦ λ m n. refl
      | Equal ↦ λ m n. within_first p u v l h.1 m n
      | Greater ↦ λ m n. absurd cc
    ] b d)

-- the value of an option that is there
there_so : {A : Type 0} (r : Option (List (List ℕ))) → is_some r ≡ true → ((l : List (List ℕ)) → r ≡ Some l → A) → A
there_so None h f = absurd cc
there_so (Some l) h f = f l refl

none_so : (r : Option (List (List ℕ))) → is_none r ≡ true → r ≡ None
none_so None h = refl
none_so (Some l) h = absurd cc

filled_some : (r : Option (List (List ℕ))) → is_filled r ≡ true → is_some r ≡ true
filled_some None h = absurd cc
filled_some (Some l) h = refl

both_true : (a b : Bool) → (a && b) ≡ true → (a ≡ true) × (b ≡ true)
both_true true b e = (refl, e)
both_true false b e = absurd cc

beyond_last : (p u v : List (List ℕ)) → is_within p u ≡ true → is_beyond p v ≡ true → is_lt (S v u) ≡ false
beyond_last p u v a b =
    let h = both_true (is_lt (S p v)) (is_none (after_front subscript_cmp p v)) b in
    there_so (after_front subscript_cmp p u) a (λ l e. lt_asym S lists_order lists_same u v (within_first p u v l e h.0 (none_so (after_front subscript_cmp p v) h.1)))

-- ---- the subscripts one level below a place

-- whether the first of what follows passes a test
abbrev on : (List ℕ → Bool) → Option (List (List ℕ)) → Bool
on P None = false
on P (Some []) = false
on P (Some (t ∷ l)) = P t

record IsOn (P : List ℕ → Bool) (r : Option (List (List ℕ))) : Type 0 where
  t : List ℕ
  l : List (List ℕ)
  is : r ≡ Some (t ∷ l)
  passes : P t ≡ true

on_to : (P : List ℕ → Bool) (r : Option (List (List ℕ))) → on P r ≡ true → IsOn P r
on_to P None h = absurd cc
on_to P (Some []) h = absurd cc
on_to P (Some (t ∷ l)) h = record { t = t; l = l; is = refl; passes = h }

on_none : (P : List ℕ → Bool) (r : Option (List (List ℕ))) → ((t : List ℕ) (l : List (List ℕ)) → r ≡ Some (t ∷ l) → P t ≡ false) → on P r ≡ false
on_none P None f = refl
on_none P (Some []) f = refl
on_none P (Some (t ∷ l)) f = f t l refl

on_some : (P : List ℕ → Bool) (r : Option (List (List ℕ))) → on P r ≡ true → is_some r ≡ true
on_some P None h = absurd cc
on_some P (Some l) h = refl

-- from the blank subscript, it is whether something follows
on_blank : (r : Option (List (List ℕ))) → on (is_past Forward []) r ≡ is_filled r
on_blank None = refl
on_blank (Some []) = refl
on_blank (Some (t ∷ l)) = refl

record IsChild (s : List ℕ) (r : Option (List (List ℕ))) : Type 0 where
  l : List (List ℕ)
  is : r ≡ Some (s ∷ l)

child_to : (s : List ℕ) (r : Option (List (List ℕ))) → is_some (one_more s r) ≡ true → IsChild s r
child_to s None h = absurd cc
child_to s (Some []) h = absurd cc
child_to s (Some (t ∷ l)) h =
    elim (eq_by_cmp subscript_cmp s t) as (λ b. eq_by_cmp subscript_cmp s t ≡ b → is_some (cond b (Some l) None) ≡ true → IsChild s (Some (t ∷ l))) [
      | true ↦ λ e f. record { l = l; is = ap (λ (u : List ℕ). Some (u ∷ l)) (sym (ties_same s t e)) }
      | false ↦ λ e f. absurd cc
    ] refl h

within_to : (f : List (List ℕ)) (s : List ℕ) (w : List (List ℕ)) → is_within (f ++ s ∷ []) w ≡ true → IsChild s (after_front subscript_cmp f w)
within_to f s w h = child_to s (after_front subscript_cmp f w) (ap is_some (sym (front_one f w s)) ∙ h)

within_from : (f : List (List ℕ)) (s : List ℕ) (w l : List (List ℕ)) → after_front subscript_cmp f w ≡ Some (s ∷ l) → is_within (f ++ s ∷ []) w ≡ true
within_from f s w l e = ap is_some (front_one f w s) ∙ ap (λ r. is_some (one_more s r)) e ∙ ap (λ b. is_some (cond b (Some l) None)) (tie_itself s)

-- past a place is past it on its level, or past the place above it
beyond_split : (f : List (List ℕ)) (s : List ℕ) (q : List (List ℕ)) → is_beyond (f ++ s ∷ []) q ≡ (on (λ t. is_lt (subscript_cmp s t)) (after_front subscript_cmp f q) || is_beyond f q)
beyond_split f s q = by (after_front subscript_cmp f q) refl
  where
    by : (r : Option (List (List ℕ))) → after_front subscript_cmp f q ≡ r → is_beyond (f ++ s ∷ []) q ≡ (on (λ t. is_lt (subscript_cmp s t)) r || (is_lt (S f q) && is_none r))
    by None e = λ i. apart_cmp f (s ∷ []) q e i && is_none ((front_one f q s ∙ ap (one_more s) e) i)
    by (Some []) e =
        let lt : is_lt (S (f ++ s ∷ []) q) ≡ false = ap (λ (z : List (List ℕ)). is_lt (S (f ++ s ∷ []) z)) (sym (front_split f q [] e)) ∙ ap is_lt (front_cmp f (s ∷ []) []) in
        ap (λ b. b && is_none (after_front subscript_cmp (f ++ s ∷ []) q)) lt ∙ sym (and_false (is_lt (S f q)))
    by (Some (t ∷ l)) e =
        let lt : is_lt (S (f ++ s ∷ []) q) ≡ is_lt (ordering_then (subscript_cmp s t) (S [] l)) =
        ap (λ (z : List (List ℕ)). is_lt (S (f ++ s ∷ []) z)) (sym (front_split f q (t ∷ l) e)) ∙ ap is_lt (front_cmp f (s ∷ []) (t ∷ l)) in
        let rest : after_front subscript_cmp (f ++ s ∷ []) q ≡ cond (is_eq (subscript_cmp s t)) (Some l) None = front_one f q s ∙ ap (one_more s) e in
        (λ i. lt i && is_none (rest i))
        ∙ elim (subscript_cmp s t) as (λ r. (is_lt (ordering_then r (S [] l)) && is_none (cond (is_eq r) (Some l) None)) ≡ (is_lt r || (is_lt (S f q) && false))) [
          | Less ↦ refl
          | Equal ↦ and_false (is_lt (S [] l)) ∙ sym (and_false (is_lt (S f q)))
          | Greater ↦ sym (and_false (is_lt (S f q)))
        ]

-- after a place is below it or past it
after_split : (p q : List (List ℕ)) → is_lt (S p q) ≡ (is_below p q || is_beyond p q)
after_split p q = by (after_front subscript_cmp p q) refl
  where
    by : (r : Option (List (List ℕ))) → after_front subscript_cmp p q ≡ r → is_lt (S p q) ≡ (is_filled r || (is_lt (S p q) && is_none r))
    by None e = sym (and_true (is_lt (S p q)))
    by (Some []) e = (λ i. is_lt (S (sym (nil_after p) i) (sym (front_split p q [] e) i))) ∙ ap is_lt (front_cmp p [] []) ∙ sym (and_false (is_lt (S p q)))
    by (Some (t ∷ l)) e = (λ i. is_lt (S (sym (nil_after p) i) (sym (front_split p q (t ∷ l) e) i))) ∙ ap is_lt (front_cmp p [] (t ∷ l))

-- ---- the names of a word

abbrev has : Content → Name → List (List ℕ) → Bool
has c n q = is_some (value_at c (with_subscripts n q))

abbrev paths : Content → Name → List (List (List ℕ))
paths c n = map (λ e. e.0) (subtree_at c (with_subscripts n []))

same_places : (n : Name) (q l : List (List ℕ)) → is_eq (S q l) ≡ eq_by_cmp name_cmp (with_subscripts n q) (with_subscripts n l)
same_places n q l = is_as (is_eq (S q l)) (eq_by_cmp name_cmp (with_subscripts n q) (with_subscripts n l))
    (λ h. subst (λ (z : List (List ℕ)). eq_by_cmp name_cmp (with_subscripts n q) (with_subscripts n z) ≡ true) (lists_same q l (eq_is (S q l) h))
    (ap is_eq (tied_itself name_cmp_total (with_subscripts n q))))
    (λ h. subst (λ (z : List (List ℕ)). is_eq (S q z) ≡ true)
    (ap (λ (k : Name). k.subscripts) (name_cmp-IsAntisymmetric (with_subscripts n q) (with_subscripts n l) (eq_is (name_cmp (with_subscripts n q) (with_subscripts n l)) h)))
    (ap is_eq (tied_itself lists_order q)))

paths_has : (c : Content) (n : Name) (q : List (List ℕ)) → among S (paths c n) q ≡ has c n q
paths_has [] n q = refl
paths_has (x ∷ c) n q = by (rest_of (with_subscripts n []) x.0) refl (paths_has c n q)
  where
    apart : rest_of (with_subscripts n []) x.0 ≡ None → eq_by_cmp name_cmp (with_subscripts n q) x.0 ≡ false
    apart none =
        let m = with_subscripts n q in
        elim (name_cmp m x.0) as (λ t. name_cmp m x.0 ≡ t → is_eq t ≡ false) [
          | Equal ↦ λ u.
              let there : rest_of (with_subscripts n []) x.0 ≡ Some q = ap (rest_of (with_subscripts n [])) (sym (name_cmp-IsAntisymmetric m x.0 u)) ∙ rest_followed (with_subscripts n []) q in
              absurd (cc)
          | Less ↦ λ u. refl
          | Greater ↦ λ u. refl
        ] refl

    by : (r : Option (List (List ℕ))) → rest_of (with_subscripts n []) x.0 ≡ r → among S (paths c n) q ≡ has c n q
        → among S (map (λ e. e.0) (nodes_with r x.1 (subtree_at c (with_subscripts n [])))) q
        ≡ is_some (cond (eq_by_cmp name_cmp (with_subscripts n q) x.0) (Some x.1) (find name_cmp (with_subscripts n q) c))
    by None e h = h ∙ sym (ap (λ b. is_some (cond b (Some x.1) (find name_cmp (with_subscripts n q) c))) (apart e))
    by (Some l) e h =
        (λ i. is_eq (S q l) || h i)
        ∙ sym (some_either (is_eq (S q l)) x.1 (find name_cmp (with_subscripts n q) c))
        ∙ ap (λ b. is_some (cond b (Some x.1) (find name_cmp (with_subscripts n q) c))) (same_places n q l ∙ ap (eq_by_cmp name_cmp (with_subscripts n q)) (rest_split (with_subscripts n []) x.0 l e))

-- ---- the first one

module _ (c : Content) (n : Name) where
  abbrev found : (List (List ℕ) → Bool) → Option (List (List ℕ))
  found test = least S (filter test (paths c n))

  is_found : (test : List (List ℕ) → Bool) → IsNext S (has c n) test (found test)
  is_found test = next_like S (among S (paths c n)) (has c n) test (found test) (paths_has c n) (least_next S lists_order lists_same test (paths c n))

  first_is : (test : List (List ℕ) → Bool) (r : Option (List (List ℕ))) → IsNext S (has c n) test r → first_in c n test ≡ option_map (with_subscripts n) r
  first_is test r h = ap (option_map (with_subscripts n)) (only_next S lists_order lists_same (has c n) test (found test) r (is_found test) h)

  -- a text below a place has a first subscript there under which something stands
  has_level : (f q : List (List ℕ)) (t : List ℕ) (l : List (List ℕ)) → has c n q ≡ true → after_front subscript_cmp f q ≡ Some (t ∷ l) → level c (with_subscripts n f) t ≡ true
  has_level f q t l x e = stands_from (with_subscripts n (f ++ t ∷ [])) l c (ap (has c n) (append_assoc f (t ∷ []) l ∙ front_split f q (t ∷ l) e) ∙ x)

  level_none : (f : List (List ℕ)) (P : List ℕ → Bool) → IsNext subscript_cmp (level c (with_subscripts n f)) P None → IsNext S (has c n) (λ q. on P (after_front subscript_cmp f q)) None
  level_none f P h = λ q x. on_none P (after_front subscript_cmp f q) (λ t l e. h t (has_level f q t l x e))

  level_first : (f : List (List ℕ)) (P : List ℕ → Bool) (s : List ℕ) (r : Option (List (List ℕ))) → IsNext subscript_cmp (level c (with_subscripts n f)) P (Some s)
      → IsNext S (has c n) (is_within (f ++ s ∷ [])) r
      → (is_some r ≡ true) × IsNext S (has c n) (λ q. on P (after_front subscript_cmp f q)) r
  level_first f P s None k h =
      let p = f ++ s ∷ [] in
      let at = stands_to (with_subscripts n p) c k.0 in
      not_both (is_within p (p ++ at.b)) (ap is_some (front_more p at.b)) (h (p ++ at.b) at.there)
  level_first f P s (Some w) k h =
      let at = within_to f s w h.1 in (
        refl,
        (
          h.0,
          ap (on P) at.is ∙ k.1,
          λ u x z.
              let on_u = on_to P (after_front subscript_cmp f u) z in
              elim (lt_not subscript_cmp subscript_cmp_total subscript_cmp-IsAntisymmetric on_u.t s (k.2 on_u.t (has_level f u on_u.t on_u.l x on_u.is) on_u.passes)) [
                | inl e ↦ h.2 u x (within_from f s u on_u.l (on_u.is ∙ ap (λ (v : List ℕ). Some (v ∷ on_u.l)) e))
                | inr e ↦ lt_asym S lists_order lists_same w u
                    ((λ i. is_lt (S (sym (front_split f w (s ∷ at.l) at.is) i) (sym (front_split f u (on_u.t ∷ on_u.l) on_u.is) i)))
                    ∙ ap is_lt (front_cmp f (s ∷ at.l) (on_u.t ∷ on_u.l))
                    ∙ ap (λ r. is_lt (ordering_then r (S at.l on_u.l))) (lt_is (subscript_cmp s on_u.t) e))
              ],
        ),
      )

  -- a name with a text is the first at it and below
  pub here_first : is_some (value_at c n) ≡ true → first_in c n (is_within n.subscripts) ≡ Some n
  here_first x =
      let p = n.subscripts in
      first_is (is_within p) (Some p) (x, ap is_some (front_itself p), λ u y z. there_so (after_front subscript_cmp p u) z (λ l e. not_earlier p u l e))

  -- at one without, the first below is
  pub not_here : is_some (value_at c n) ≡ false → first_in c n (is_within n.subscripts) ≡ first_in c n (is_below n.subscripts)
  not_here none =
      let p = n.subscripts in
      sym (first_is (is_below p) (found (is_within p)) (next_where S (has c n) (is_within p) (is_below p) (found (is_within p)) (λ q x. by p none q x (after_front subscript_cmp p q) refl)
      (is_found (is_within p))))
    where
      by : (p : List (List ℕ)) → has c n p ≡ false → (q : List (List ℕ)) → has c n q ≡ true → (r : Option (List (List ℕ))) → after_front subscript_cmp p q ≡ r → is_some r ≡ is_filled r
      by p none q x None e = refl
      by p none q x (Some []) e = not_both (has c n q) x (ap (has c n) (sym (sym (nil_after p) ∙ front_split p q [] e)) ∙ none)
      by p none q x (Some (t ∷ l)) e = refl

  -- no first subscript below a name, and no text below it
  pub none_below : order_at c (followed_by n ([] ∷ [])) Forward ≡ None → first_in c n (is_below n.subscripts) ≡ None
  none_below e =
      let p = n.subscripts in
      first_is (is_below p) None
      (next_where S (has c n) (λ q. on (is_past Forward []) (after_front subscript_cmp p q)) (is_below p) None (λ q x. on_blank (after_front subscript_cmp p q))
      (level_none p (is_past Forward []) (subst (λ (r : Option (List ℕ)). IsNext subscript_cmp (level c n) (is_past Forward []) r) e (order_next c n [] Forward))))

  -- else the first text below is the first one with that subscript
  pub first_below : (s : List ℕ) → order_at c (followed_by n ([] ∷ [])) Forward ≡ Some s
      → first_in c (followed_by n (s ∷ [])) (is_within (n.subscripts ++ s ∷ [])) ≡ first_in c n (is_below n.subscripts)
  first_below s e =
      let p = n.subscripts in
      let r = found (is_within (p ++ s ∷ [])) in
      sym (first_is (is_below p) r
      (next_where S (has c n) (λ q. on (is_past Forward []) (after_front subscript_cmp p q)) (is_below p) r (λ q x. on_blank (after_front subscript_cmp p q))
      (level_first p (is_past Forward []) s r (subst (λ (t : Option (List ℕ)). IsNext subscript_cmp (level c n) (is_past Forward []) t) e (order_next c n [] Forward))
      (is_found (is_within (p ++ s ∷ [])))).1))

  -- nothing is past a name without subscripts
  pub none_past : first_in c n (is_beyond []) ≡ None
  none_past = first_is (is_beyond []) None (λ q x. and_false (is_lt (S [] q)))

  -- from a subscript to the next one, which isn't blank, is past it
  strict : (f : List (List ℕ)) (s t : List ℕ) → is_empty t ≡ false → IsNext subscript_cmp (level c (with_subscripts n f)) (is_past Forward s) (Some t)
      → IsNext subscript_cmp (level c (with_subscripts n f)) (λ u. is_lt (subscript_cmp s u)) (Some t)
  strict f (b ∷ s) t e h = h
  strict f [] [] e h = absurd cc
  strict f [] (b ∷ t) e h = (h.0, refl, λ u x z. h.2 u x refl)

  strict_none : (f : List (List ℕ)) (s : List ℕ) → IsNext subscript_cmp (level c (with_subscripts n f)) (is_past Forward s) None
      → IsNext subscript_cmp (level c (with_subscripts n f)) (λ u. is_lt (subscript_cmp s u)) None
  strict_none f (b ∷ s) h = h
  strict_none f [] h = λ u x. not_both true refl (h u x)

  -- past a name is the first text with the next subscript in place of its last one
  pub first_past : (f : List (List ℕ)) (s t : List ℕ) → order_at c (with_subscripts n (f ++ s ∷ [])) Forward ≡ Some t → is_empty t ≡ false
      → first_in c (with_subscripts n (f ++ t ∷ [])) (is_within (f ++ t ∷ [])) ≡ first_in c n (is_beyond (f ++ s ∷ []))
  first_past f s t e full =
      let P : List ℕ → Bool = λ u. is_lt (subscript_cmp s u) in
      let r = found (is_within (f ++ t ∷ [])) in
      let k =
      level_first f P t r (strict f s t full (subst (λ (u : Option (List ℕ)). IsNext subscript_cmp (level c (with_subscripts n f)) (is_past Forward s) u) e
      (order_next c (with_subscripts n f) s Forward))) (is_found (is_within (f ++ t ∷ []))) in
      sym (first_is (is_beyond (f ++ s ∷ [])) r
      (next_where S (has c n) (λ q. on P (after_front subscript_cmp f q) || is_beyond f q) (is_beyond (f ++ s ∷ [])) r (λ q x. sym (beyond_split f s q))
      (next_first S (has c n) (λ q. on P (after_front subscript_cmp f q)) (is_beyond f) r k.0 (λ u v x y. beyond_last f u v (on_some P (after_front subscript_cmp f u) x) y) k.1)))

  -- and past the name above it, where there is none
  pub none_beside : (f : List (List ℕ)) (s : List ℕ) → order_at c (with_subscripts n (f ++ s ∷ [])) Forward ≡ None
      → first_in c (with_subscripts n f) (is_beyond f) ≡ first_in c n (is_beyond (f ++ s ∷ []))
  none_beside f s e =
      let P : List ℕ → Bool = λ u. is_lt (subscript_cmp s u) in
      let r = found (is_beyond f) in
      sym (first_is (is_beyond (f ++ s ∷ [])) r
      (next_where S (has c n) (λ q. on P (after_front subscript_cmp f q) || is_beyond f q) (is_beyond (f ++ s ∷ [])) r (λ q x. sym (beyond_split f s q))
      (next_second S (has c n) (λ q. on P (after_front subscript_cmp f q)) (is_beyond f) r
      (level_none f P (strict_none f s (subst (λ (u : Option (List ℕ)). IsNext subscript_cmp (level c (with_subscripts n f)) (is_past Forward s) u) e (order_next c (with_subscripts n f) s Forward))))
      (is_found (is_beyond f)))))

  some_map : (r : Option (List (List ℕ))) (m : Name) → option_map (with_subscripts n) r ≡ Some m → is_some r ≡ true
  some_map None m e = absurd cc
  some_map (Some q) m e = refl

  map_none : (r : Option (List (List ℕ))) → option_map (with_subscripts n) r ≡ None → r ≡ None
  map_none None e = refl
  map_none (Some q) e = absurd cc

  -- $QUERY is the first below a name
  pub query_below : (m : Name) → first_in c n (is_below n.subscripts) ≡ Some m → query_at c n ≡ Some m
  query_below m e =
      let p = n.subscripts in
      let r = found (is_below p) in
      first_is (λ q. is_lt (S p q)) r
      (next_where S (has c n) (λ q. is_below p q || is_beyond p q) (λ q. is_lt (S p q)) r (λ q x. sym (after_split p q))
      (next_first S (has c n) (is_below p) (is_beyond p) r (some_map r m e) (λ u v x y. beyond_last p u v (filled_some (after_front subscript_cmp p u) x) y) (is_found (is_below p))))
      ∙ e

  -- or else past it
  pub query_past : first_in c n (is_below n.subscripts) ≡ None → query_at c n ≡ first_in c n (is_beyond n.subscripts)
  query_past e =
      let p = n.subscripts in
      let r = found (is_beyond p) in
      first_is (λ q. is_lt (S p q)) r
      (next_where S (has c n) (λ q. is_below p q || is_beyond p q) (λ q. is_lt (S p q)) r (λ q x. sym (after_split p q))
      (next_second S (has c n) (is_below p) (is_beyond p) r (subst (λ (t : Option (List (List ℕ))). IsNext S (has c n) (is_below p) t) (map_none (found (is_below p)) e) (is_found (is_below p)))
      (is_found (is_beyond p))))
