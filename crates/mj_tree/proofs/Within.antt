-- The nodes of a child keep to a limit where its subscript does and they do.
use Rattle.std.proofs.Common.{◌≡◌, ℕ, ◌<◌, Bool, true, false, ◌&&◌, List, [], ◌∷◌, ◌++◌, length, refl, sym, ap, ◌∙◌, subst, arith}
use Rattle.std.proofs.lemmas.List.Folds.{list_all-append}
use Rattle.mj_text.specs.declared.limit.Limit.{Limit}
use Rattle.mj_text.specs.Limit.{is_within, are_within}
use Rattle.mj_store.specs.Questions.{Subtree}
use Rattle.mj_store.specs.Within.{is_node_within, are_nodes_within}
use Rattle.mj_tree.specs.Nest.{under, below}

module _ (limit : Limit) where
  pub within-append : (xs ys : Subtree) → are_nodes_within limit (xs ++ ys) ≡ (are_nodes_within limit xs && are_nodes_within limit ys)
  within-append xs ys = list_all-append (is_node_within limit) xs ys

  under_within : (s : List ℕ) (nodes : Subtree) → is_within limit s ≡ true → are_nodes_within limit (under s nodes) ≡ are_nodes_within limit nodes
  under_within s [] h = refl
  under_within s (e ∷ es) h = λ i. ((h i && are_within limit e.0) && is_within limit e.1) && under_within s es h i

  under_over : (s : List ℕ) (nodes : Subtree) → 0 < length nodes → is_within limit s ≡ false → are_nodes_within limit (under s nodes) ≡ false
  under_over s [] some h = absurd (omega arith)
  under_over s (e ∷ es) some h = λ i. ((h i && are_within limit e.0) && is_within limit e.1) && are_nodes_within limit (under s es)

  module _ (s : List ℕ) (child : Subtree) (ks rest : List (List ℕ × Subtree)) (is : ks ≡ (s, child) ∷ rest) where
    all : are_nodes_within limit (below ks) ≡ (are_nodes_within limit (under s child) && are_nodes_within limit (below rest))
    all = ap (λ (k : List (List ℕ × Subtree)). are_nodes_within limit (below k)) is ∙ within-append (under s child) (below rest)

    -- a child that keeps to it, so that those behind it decide
    pub child_within : is_within limit s ≡ true → are_nodes_within limit child ≡ true → are_nodes_within limit (below ks) ≡ are_nodes_within limit (below rest)
    child_within h g = all ∙ ap (λ b. b && are_nodes_within limit (below rest)) (under_within s child h ∙ g)

    -- a child without a node
    pub child_none : child ≡ [] → are_nodes_within limit (below ks) ≡ are_nodes_within limit (below rest)
    child_none none = all ∙ ap (λ (nodes : Subtree). are_nodes_within limit (under s nodes) && are_nodes_within limit (below rest)) none

    -- a child that doesn't
    pub subscript_over : 0 < length child → is_within limit s ≡ false → are_nodes_within limit (below ks) ≡ false
    subscript_over some h = all ∙ ap (λ b. b && are_nodes_within limit (below rest)) (under_over s child some h)

    pub child_over : is_within limit s ≡ true → are_nodes_within limit child ≡ false → are_nodes_within limit (below ks) ≡ false
    child_over h g = all ∙ ap (λ b. b && are_nodes_within limit (below rest)) (under_within s child h ∙ g)

  -- the text of the node itself keeps to it, so that the children decide
  pub own_within : (mine nodes : Subtree) (ks : List (List ℕ × Subtree)) → mine ++ below ks ≡ nodes → are_nodes_within limit mine ≡ true
      → are_nodes_within limit nodes ≡ are_nodes_within limit (below ks)
  own_within mine nodes ks is h = ap (are_nodes_within limit) (sym is) ∙ within-append mine (below ks) ∙ ap (λ b. b && are_nodes_within limit (below ks)) h

  pub own_over : (mine nodes : Subtree) (ks : List (List ℕ × Subtree)) → mine ++ below ks ≡ nodes → are_nodes_within limit mine ≡ false → are_nodes_within limit nodes ≡ false
  own_over mine nodes ks is h = ap (are_nodes_within limit) (sym is) ∙ within-append mine (below ks) ∙ ap (λ b. b && are_nodes_within limit (below ks)) h
