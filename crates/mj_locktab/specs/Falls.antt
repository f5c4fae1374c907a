-- Each child of a node weighs less than the node.
use Rattle.std.specs.Prelude.{◌+◌, ◌≤◌, ◌≡◌, max, List, [], ◌∷◌, ◌++◌, map, ℕ}
use Rattle.std.proofs.Common.{arith}
use denote.Param.Weighed.{most}
use Rattle.mj_locktab.specs.Trees.{Stand, Stands, under, below, weight}

weight-append : (xs ys : Stands) → weight (xs ++ ys) ≡ weight xs + weight ys
weight-append [] ys = omega arith
weight-append (x ∷ xs) ys = omega (arith, weight-append xs ys)

weight-le-under : (s : List ℕ) (stands : Stands) → weight stands ≤ weight (under s stands)
weight-le-under s [] = omega arith
weight-le-under s (e ∷ es) = omega (arith, weight-le-under s es)

most_le-weight : (ks : List (List ℕ × Stands)) → most (λ n. weight n + 1) (map (λ k. k.1) ks) ≤ weight (below ks) + 1
most_le-weight [] = omega arith
most_le-weight (k ∷ ks) = omega (arith, most_le-weight ks, weight-append (under k.0 k.1) (below ks), weight-le-under k.0 k.1)

pub child_le-weight : (stand : Stand) (ks : List (List ℕ × Stands)) → max (most (λ n. weight n + 1) (map (λ k. k.1) ks)) 0 ≤ weight (([], stand) ∷ below ks)
child_le-weight stand ks = omega (arith, most_le-weight ks)
