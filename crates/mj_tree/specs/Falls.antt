-- Each child of a node weighs less than the node.
use Rattle.std.specs.Prelude.{◌≡◌, ℕ, ◌+◌, ◌<◌, ◌≤◌, max, List, [], ◌∷◌, ◌++◌, map, length, Option, Some, None, Box}
use Rattle.std.specs.Global.{Global}
use Rattle.std.proofs.Common.{arith}
use denote.Param.Weighed.{most}
use Rattle.mj_tree.specs.declared.children.Children.{Children}
use Rattle.mj_tree.specs.declared.node.Node.{Node}
use Rattle.mj_tree.specs.declared.node.Node.TheView.{size}
use Rattle.mj_tree.specs.declared.node.Node.TheDeep.{deep-Node}
use Rattle.mj_tree.specs.declared.node.Node.TheShapes.{weighed-Children-row, weighed-Children-others}
use Rattle.mj_tree.specs.Nest.{own, under, below, weight, AreFilled}
use Rattle.mj_tree.specs.Rows.{IsTrimmed, all_of, places, AreSound}

module _ {K V : Type 0} where
  weight-append : (xs ys : List (List K × V)) → weight (xs ++ ys) ≡ weight xs + weight ys
  weight-append [] ys = omega arith
  weight-append (x ∷ xs) ys = omega (arith, weight-append xs ys)

  weight-under : (s : K) (nodes : List (List K × V)) → weight (under s nodes) ≡ weight nodes + length nodes
  weight-under s [] = omega arith
  weight-under s (e ∷ es) = omega (arith, weight-under s es)

  pub most_le-weight : (ks : List (K × List (List K × V))) → most (λ n. weight n + 1) (map (λ k. k.1) ks) ≤ max 1 (weight (below ks))
  most_le-weight [] = omega arith
  most_le-weight ((s, []) ∷ ks) = omega (arith, most_le-weight ks)
  most_le-weight ((s, n ∷ ns) ∷ ks) = omega (arith, most_le-weight ks, weight-append (under s (n ∷ ns)) (below ks), weight-under s (n ∷ ns))

  -- the same by any measure of a place that is no greater than its node's
  most_by : (W : K × List (List K × V) → ℕ) → ((k : K × List (List K × V)) → W k ≤ weight k.1 + 1) → (ks : List (K × List (List K × V))) → most W ks ≤ max 1 (weight (below ks))
  most_by W least [] = omega arith
  most_by W least ((s, []) ∷ ks) = omega (arith, most_by W least ks, least (s, []))
  most_by W least ((s, n ∷ ns) ∷ ks) =
      omega (arith, most_by W least ks, least (s, n ∷ ns), weight-append (under s (n ∷ ns)) (below ks), weight-under s (n ∷ ns))

  weight-below : (xs ys : List (K × List (List K × V))) → weight (below (xs ++ ys)) ≡ weight (below xs) + weight (below ys)
  weight-below [] ys = omega arith
  weight-below (x ∷ xs) ys = omega (arith, weight-below xs ys, weight-append (under x.0 x.1) (below (xs ++ ys)), weight-append (under x.0 x.1) (below xs))

  some_weight : (row others : List (K × List (List K × V))) → IsTrimmed row → AreFilled others → 0 < length (row ++ others) → 1 ≤ weight (below (row ++ others))
  some_weight [] [] t f h = omega arith
  some_weight [] ((s, []) ∷ os) t f h = absurd (omega (arith, f.0))
  some_weight [] ((s, n ∷ ns) ∷ os) t f h = omega arith
  some_weight ((s, []) ∷ row) others t f h = absurd (omega (arith, t))
  some_weight ((s, n ∷ ns) ∷ row) others t f h = omega arith

  own_weight : (text : Option V) (nodes : List (List K × V)) → weight nodes ≤ weight (own text ++ nodes)
  own_weight None nodes = omega arith
  own_weight (Some v) nodes = omega arith

-- the nodes of a row, and those of the others
row_le : (c : Children) → weighed-Children-row.weight Node (λ y. size y + 1) c.row ≤ max 1 (weight (below c.row.items))
row_le c = most_by (λ k. max 0 (max (weight k.1 + 1) 0)) (λ k. omega arith) c.row.items

others_le : (c : Children) → weighed-Children-others.weight Node (λ y. size y + 1) c.others ≤ max 1 (weight (below c.others.entries))
others_le c = most_le-weight c.others.entries

pub child_le-weight : (text : Option (List ℕ)) (children : Option (Box Children Global)) → AreSound children
    → deep-Node (record { text = text; children = children }) ≤ weight (own text ++ below (places children))
child_le-weight text None h = omega arith
child_le-weight text (Some c) h =
    omega (
      arith,
      row_le c.value,
      others_le c.value,
      weight-below c.value.row.items c.value.others.entries,
      some_weight c.value.row.items c.value.others.entries h.0.1 h.0.0.filled h.1,
      own_weight text (below (all_of c.value)),
    )
