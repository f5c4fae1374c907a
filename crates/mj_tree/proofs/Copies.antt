-- What a walk over all children gathers.
use Rattle.std.proofs.Common.{◌≡◌, ◌<◌, ◌↔◌, true, false, List, [], ◌∷◌, ◌++◌, length, length-append, Option, Some, None, refl, sym, ap, ◌∙◌, subst, arith}
use Rattle.std.specs.Prelude.{T, IsSome}
use Rattle.std.specs.declared.cmp.Ordering.{Ordering}
use Rattle.std.specs.Ordering.{is_lt, ordering_reverse, match_ordering}
use Rattle.std.specs.Cmp.{IsTotalOrder}
use Rattle.std.specs.FinMap.{is_sorted}
use Rattle.std.specs.FinMap.Entries.{below_all}
use Rattle.std.specs.Option.{option_to_list}
use Rattle.std.specs.BTreeMap.{insert_entry}
use Rattle.mj_tree.specs.Nest.{own, under, behind, below}
use Rattle.mj_tree.specs.Maps.{first_so, second_so, is_less}

pub joined : {A : Type 0} (xs ys zs : List A) → (xs ++ ys) ++ zs ≡ xs ++ (ys ++ zs)
joined [] ys zs = refl
joined (x ∷ xs) ys zs = ap (λ r. x ∷ r) (joined xs ys zs)

module _ {K V : Type 0} where
  pub behind-append : (p : List K) (xs ys : List (List K × V)) → behind p (xs ++ ys) ≡ behind p xs ++ behind p ys
  behind-append p [] ys = refl
  behind-append p (x ∷ xs) ys = ap (λ (r : List (List K × V)). (p ++ x.0, x.1) ∷ r) (behind-append p xs ys)

  pub behind_one : (p : List K) (s : K) (nodes : List (List K × V)) → behind (p ++ s ∷ []) nodes ≡ behind p (under s nodes)
  behind_one p s [] = refl
  behind_one p s (e ∷ es) = (λ i. (joined p (s ∷ []) e.0 i, e.1) ∷ behind_one p s es i)

  pub behind_none : (nodes : List (List K × V)) → behind [] nodes ≡ nodes
  behind_none [] = refl
  behind_none (e ∷ es) = ap (λ (r : List (List K × V)). e ∷ r) (behind_none es)

  -- one child more is gathered
  pub gathered : (front f g : List K) (s : K) (child : List (List K × V)) (before after total : List (List K × V)) (left rest : List (K × List (List K × V)))
      → before ++ behind front (below left) ≡ total → f ≡ front → left ≡ (s, child) ∷ rest → g ≡ f ++ s ∷ [] → after ≡ before ++ behind g child → after ++ behind front (below rest) ≡ total
  gathered front f g s child before after total left rest all same next longer more =
      ap (λ (xs : List (List K × V)). xs ++ behind front (below rest)) (more ∙ ap (λ (p : List K). before ++ behind p child) (longer ∙ ap (λ (p : List K). p ++ s ∷ []) same)
      ∙ ap (λ (xs : List (List K × V)). before ++ xs) (behind_one front s child))
      ∙ joined before (behind front (under s child)) (behind front (below rest))
      ∙ ap (λ (xs : List (List K × V)). before ++ xs) (sym (behind-append front (under s child) (below rest)))
      ∙ ap (λ (ks : List (K × List (List K × V))). before ++ behind front (below ks)) (sym next)
      ∙ all

-- ---- a list whose last element is taken

init_same : {A : Type 0} (xs ys : List A) (x y : A) → xs ++ x ∷ [] ≡ ys ++ y ∷ [] → xs ≡ ys
init_same [] [] x y e = refl
init_same [] (w ∷ ys) x y e = absurd (omega (arith, ap (λ zs. length zs) e, length-append ys (y ∷ [])))
init_same (z ∷ xs) [] x y e = absurd (omega (arith, ap (λ zs. length zs) e, length-append xs (x ∷ [])))
init_same (z ∷ xs) (w ∷ ys) x y e =
    let head : z ≡ w = cc in
    let tail : xs ++ x ∷ [] ≡ ys ++ y ∷ [] = cc in (λ i. head i ∷ init_same xs ys x y tail i)

pub popped : {A : Type 0} (xs full left : List A) (x : A) (r : Option A) → full ≡ xs ++ x ∷ [] → full ≡ left ++ option_to_list r → (IsSome r ↔ (0 < length full)) → left ≡ xs
popped xs full left x None is split some = let never : false ≡ true = some.1 (omega (arith, ap (λ zs. length zs) is, length-append xs (x ∷ []))) in absurd cc
popped xs full left x (Some y) is split some = init_same left xs y x (sym split ∙ is)

-- ---- a map that is filled in order

module _ {K X : Type 0} (R : K → K → Ordering) (o : IsTotalOrder R) where
  before_it : (y k : K) (c : X) (xs rest : List (K × X)) → T (below_all R y (xs ++ (k, c) ∷ rest)) → T (is_lt (R y k))
  before_it y k c [] rest h = first_so _ _ h
  before_it y k c (x ∷ xs) rest h = before_it y k c xs rest (second_so _ _ h)

  insert_last : (k : K) (c : X) (xs rest : List (K × X)) → T (is_sorted R (xs ++ (k, c) ∷ rest)) → insert_entry R xs k c ≡ xs ++ (k, c) ∷ []
  insert_last k c [] rest h = refl
  insert_last k c (x ∷ xs) rest h =
      ap (λ r. match_ordering r ((k, c) ∷ x ∷ xs) ((x.0, c) ∷ xs) (x ∷ insert_entry R xs k c)) (o.antisymm k x.0 ∙ ap ordering_reverse (is_less _ (before_it x.0 k c xs rest (first_so _ _ h))))
      ∙ ap (λ (r : List (K × X)). x ∷ r) (insert_last k c xs rest (second_so _ _ h))

  pub copied_one : (es left rest all fs : List (K × X)) (k : K) (c d : X) → es ++ left ≡ all → left ≡ (k, c) ∷ rest → d ≡ c → fs ≡ insert_entry R es k d → T (is_sorted R all) → fs ++ rest ≡ all
  copied_one es left rest all fs k c d whole next same added h =
      let here : es ++ (k, c) ∷ rest ≡ all = ap (λ (xs : List (K × X)). es ++ xs) (sym next) ∙ whole in
      ap (λ (xs : List (K × X)). xs ++ rest) (added ∙ ap (insert_entry R es k) same ∙ insert_last k c es rest (subst (λ (xs : List (K × X)). T (is_sorted R xs)) (sym here) h))
      ∙ joined es ((k, c) ∷ []) rest
      ∙ here

-- each text is copied as it is
abbrev pub SameText : {V : Type 0} → Option V → Option V → Type 0
SameText None None = Unit {0}
SameText None (Some w) = ⊥
SameText (Some v) None = ⊥
SameText (Some v) (Some w) = w ≡ v

pub copied_whole : {K V : Type 0} (text copy : Option V) (ks left es : List (K × List (List K × V))) → SameText text copy → es ++ left ≡ ks → left ≡ [] → own copy ++ below es ≡ own text ++ below ks
copied_whole {K} {V} text copy ks left es same whole done =
    let all : es ≡ ks = sym (joined_none es) ∙ ap (λ (xs : List (K × List (List K × V))). es ++ xs) (sym done) ∙ whole in
    (λ i. own (texts text copy same i) ++ below (all i))
  where
    joined_none : (xs : List (K × List (List K × V))) → xs ++ [] ≡ xs
    joined_none [] = refl
    joined_none (x ∷ xs) = ap (λ (r : List (K × List (List K × V))). x ∷ r) (joined_none xs)

    texts : (a b : Option V) → SameText a b → b ≡ a
    texts None None h = refl
    texts None (Some w) h = absurd h
    texts (Some v) None h = absurd h
    texts (Some v) (Some w) h = ap (λ (x : V). Some x) h
