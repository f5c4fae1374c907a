-- A map that is filled in order with copies is the map.
use Rattle.std.proofs.Common.{◌≡◌, List, [], ◌∷◌, ◌++◌, refl, sym, ap, ◌∙◌, subst}
use Rattle.std.specs.declared.cmp.Ordering.{Ordering}
use Rattle.std.specs.declared.cmp.Ordering.TheVariants.{Less}
use Rattle.std.specs.Ordering.{ordering_reverse, match_ordering}
use Rattle.std.specs.Cmp.{IsTotalOrder}
use Rattle.std.specs.List.{AllByRecursion}
use Rattle.std.specs.List.Sorted.{IsStrictlySortedBy}
use Rattle.std.specs.Map.{keys_of}
use Rattle.std.specs.BTreeMap.{insert_entry}

module _ {K X : Type 0} (R : K → K → Ordering) (o : IsTotalOrder R) where
  joined : (xs ys zs : List (K × X)) → (xs ++ ys) ++ zs ≡ xs ++ (ys ++ zs)
  joined [] ys zs = refl
  joined (x ∷ xs) ys zs = ap (λ r. x ∷ r) (joined xs ys zs)

  before_it : (y k : K) (c : X) (xs rest : List (K × X)) → AllByRecursion (λ z. R y z ≡ Less) (keys_of (xs ++ (k, c) ∷ rest)) → R y k ≡ Less
  before_it y k c [] rest h = h.0
  before_it y k c (x ∷ xs) rest h = before_it y k c xs rest h.1

  insert_last : (k : K) (c : X) (xs rest : List (K × X)) → IsStrictlySortedBy R (keys_of (xs ++ (k, c) ∷ rest)) → insert_entry R xs k c ≡ xs ++ (k, c) ∷ []
  unfolding IsStrictlySortedBy
  insert_last k c [] rest h = refl
  insert_last k c (x ∷ xs) rest h =
      ap (λ r. match_ordering r ((k, c) ∷ x ∷ xs) ((x.0, c) ∷ xs) (x ∷ insert_entry R xs k c)) (o.antisymm k x.0 ∙ ap ordering_reverse (before_it x.0 k c xs rest h.0))
      ∙ ap (λ (r : List (K × X)). x ∷ r) (insert_last k c xs rest h.1)

  pub copied_one : (es left rest all fs : List (K × X)) (k : K) (c d : X) → es ++ left ≡ all → left ≡ (k, c) ∷ rest → d ≡ c → fs ≡ insert_entry R es k d → IsStrictlySortedBy R (keys_of all)
      → fs ++ rest ≡ all
  copied_one es left rest all fs k c d whole next same added h =
      let here : es ++ (k, c) ∷ rest ≡ all = ap (λ (xs : List (K × X)). es ++ xs) (sym next) ∙ whole in
      ap (λ (xs : List (K × X)). xs ++ rest)
      (added ∙ ap (insert_entry R es k) same ∙ insert_last k c es rest (subst (λ (xs : List (K × X)). IsStrictlySortedBy R (keys_of xs)) (sym here) h))
      ∙ joined es ((k, c) ∷ []) rest
      ∙ here

  pub copied_all : (es left all : List (K × X)) → es ++ left ≡ all → left ≡ [] → es ≡ all
  copied_all es left all whole done = sym (end es) ∙ ap (λ (xs : List (K × X)). es ++ xs) (sym done) ∙ whole where
    end : (xs : List (K × X)) → xs ++ [] ≡ xs
    end [] = refl
    end (x ∷ xs) = ap (λ r. x ∷ r) (end xs)
