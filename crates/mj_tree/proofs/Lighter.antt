-- A child of a node weighs less than the node, also where it is a place that holds nothing.
use Rattle.std.proofs.Common.{◌≡◌, ℕ, ◌+◌, ◌<◌, ◌≤◌, List, [], ◌∷◌, ◌++◌, length, Option, sym, ap, ◌∙◌, subst, arith}
use Rattle.mj_tree.specs.Nest.{own, under, below, weight, AreFilled}
use Rattle.mj_tree.specs.Rows.{live}
use Rattle.mj_tree.proofs.Places.{below-live, filled-live}

module _ {K V : Type 0} where
  weight_front : (xs ys : List (List K × V)) → weight xs ≤ weight (xs ++ ys)
  weight_front [] ys = omega arith
  weight_front (x ∷ xs) ys = omega (arith, weight_front xs ys)

  weight_back : (xs ys : List (List K × V)) → weight ys ≤ weight (xs ++ ys)
  weight_back [] ys = omega arith
  weight_back (x ∷ xs) ys = omega (arith, weight_back xs ys)

  weight_below : (s : K) (nodes : List (List K × V)) → weight nodes + length nodes ≤ weight (under s nodes)
  weight_below s [] = omega arith
  weight_below s (e ∷ es) = omega (arith, weight_below s es)

  first_lighter : (s : K) (child : List (List K × V)) (text : Option V) (ks : List (K × List (List K × V))) → 0 < length child → weight child < weight (own text ++ below ((s, child) ∷ ks))
  first_lighter s child text ks some =
      omega (arith, weight_below s child, weight_front (under s child) (below ks), weight_back (own {K = K} text) (under s child ++ below ks))

  -- the first child that holds something
  pub live_lighter : (text : Option V) (ks : List (K × List (List K × V))) (x : K × List (List K × V)) (t : List (K × List (List K × V))) (node : List (List K × V)) → own text ++ below ks ≡ node
      → live ks ≡ x ∷ t → weight x.1 < weight node
  live_lighter text ks x t node view first =
      let some : AreFilled (x ∷ t) = subst AreFilled first (filled-live ks) in
      subst (λ (n : List (List K × V)). weight x.1 < weight n) (ap (λ (es : List (List K × V)). own text ++ es) (sym (ap below first) ∙ below-live ks) ∙ view) (first_lighter x.0 x.1 text t some.0)

  some_weight : (nodes : List (List K × V)) → 0 < length nodes → 0 < weight nodes
  some_weight [] some = absurd (omega (arith, some))
  some_weight (e ∷ es) some = omega arith

  -- each child weighs less than so much
  abbrev pub AreLighter : ℕ → List (K × List (List K × V)) → Type 0
  AreLighter n [] = Unit {0}
  AreLighter n (k ∷ ks) = (weight k.1 < n) × AreLighter n ks

  lighter_in : (n : ℕ) (ks : List (K × List (List K × V))) → 0 < n → weight (below ks) ≤ n → AreLighter n ks
  lighter_in n [] some le = tt
  lighter_in n ((s, []) ∷ ks) some le = (some, lighter_in n ks some le)
  lighter_in n ((s, e ∷ es) ∷ ks) some le = (
    omega (arith, weight_below s (e ∷ es), weight_front (under s (e ∷ es)) (below ks), le),
    lighter_in n ks some (omega (arith, weight_back (under s (e ∷ es)) (below ks), le)),
  )

  pub all_lighter : (text : Option V) (ks : List (K × List (List K × V))) (node : List (List K × V)) → own text ++ below ks ≡ node → 0 < length (below ks) → AreLighter (weight node) ks
  all_lighter text ks node view some =
      subst (λ (n : List (List K × V)). AreLighter (weight n) ks) view
      (lighter_in (weight (own text ++ below ks)) ks (omega (arith, some_weight (below ks) some, weight_back (own {K = K} text) (below ks))) (weight_back (own {K = K} text) (below ks)))

  pub lighter_next : (n : ℕ) (ks rest : List (K × List (List K × V))) (s : K) (child : List (List K × V)) → ks ≡ (s, child) ∷ rest → AreLighter n ks → (weight child < n) × AreLighter n rest
  lighter_next n ks rest s child is h = subst (λ (es : List (K × List (List K × V))). AreLighter n es) is h

  pub lighter_front : (n : ℕ) (xs ys : List (K × List (List K × V))) → AreLighter n (xs ++ ys) → AreLighter n xs
  lighter_front n [] ys h = tt
  lighter_front n (x ∷ xs) ys h = (h.0, lighter_front n xs ys h.1)

  pub lighter_back : (n : ℕ) (xs ys : List (K × List (List K × V))) → AreLighter n (xs ++ ys) → AreLighter n ys
  lighter_back n [] ys h = h
  lighter_back n (x ∷ xs) ys h = lighter_back n xs ys h.1
