-- The first text below a node, and the subscripts that lead there.
use Rattle.std.proofs.Common.{◌≡◌, ℕ, ◌<◌, true, List, [], ◌∷◌, ◌++◌, length, Option, Some, None, refl, sym, ap, ◌∙◌, subst, arith, Result, Ok, Err, OnOk}
use Rattle.std.specs.Prelude.{IfSome}
use Rattle.std.specs.Option.{is_some, option_map}
use Rattle.mj_store.specs.Questions.{Subtree}
use Rattle.mj_tree.specs.Nest.{own, below, lead}
use Rattle.mj_tree.proofs.Copies.{joined}

append_none : {A : Type 0} (xs : List A) → xs ≡ xs ++ []
append_none [] = refl
append_none (x ∷ xs) = ap (λ ys. x ∷ ys) (append_none xs)

-- the node has a text of its own
pub led_own : (text : Option (List ℕ)) (ks : List (List ℕ × Subtree)) (node : Subtree) (found : List (List ℕ)) → is_some text ≡ true → own text ++ below ks ≡ node
    → IfSome (lead node) (λ p. found ≡ found ++ p)
led_own None ks node found some view = absurd cc
led_own (Some text) ks node found some view = subst (λ (n : Subtree). IfSome (lead n) (λ p. found ≡ found ++ p)) view (append_none found)

-- there is none
pub led_none : (node : Subtree) (new old : List (List ℕ)) → lead node ≡ None → IfSome (lead node) (λ p. new ≡ old ++ p)
led_none node new old none = subst (λ (l : Option (List (List ℕ))). IfSome l (λ p. new ≡ old ++ p)) (sym none) tt

-- the first is below a child
pub led_child : {A E : Type 0} (r : Result A E) (node child : Subtree) (s : List ℕ) (old mid new : List (List ℕ)) → lead node ≡ option_map (λ q. s ∷ q) (lead child) → mid ≡ old ++ s ∷ []
    → OnOk r (IfSome (lead child) (λ p. new ≡ mid ++ p)) → OnOk r (IfSome (lead node) (λ p. new ≡ old ++ p))
led_child (Err e) node child s old mid new is at h = tt
led_child (Ok x) node child s old mid new is at h = subst (λ (l : Option (List (List ℕ))). IfSome l (λ p. new ≡ old ++ p)) (sym is) (by (lead child) h)
  where
    by : (l : Option (List (List ℕ))) → IfSome l (λ p. new ≡ mid ++ p) → IfSome (option_map (λ q. s ∷ q) l) (λ p. new ≡ old ++ p)
    by None h = tt
    by (Some q) h = h ∙ ap (λ (m : List (List ℕ)). m ++ q) at ∙ joined old (s ∷ []) q
