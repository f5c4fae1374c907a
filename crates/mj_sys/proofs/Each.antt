-- A list whose elements are changed one after the other.
use Rattle.std.proofs.Common.{◌≡◌, ℕ, zero, suc, ◌+◌, ◌<◌, List, [], ◌∷◌, ◌++◌, length, get_or, map, take, drop, refl, ap, ◌∙◌, arith}
use Rattle.std.proofs.Math.ListN.{set}

further : {X : Type 0} (f : X → X) (xs : List X) (i : ℕ) (d : X) → i < length xs
    → set (map f (take i xs) ++ drop i xs) i (f (get_or (map f (take i xs) ++ drop i xs) i d)) ≡ map f (take (suc i) xs) ++ drop (suc i) xs
further f [] i d within = absurd (let no : ⊥ = omega (arith, within) in no)
further f (x ∷ xs) zero d within = refl
further f (x ∷ xs) (suc i) d within = ap (λ l. f x ∷ l) (further f xs i d (omega (arith, within)))

-- the first elements are changed, and the others not yet: with the next changed, it is one more
pub one_further : {X : Type 0} (f : X → X) (xs : List X) (i : ℕ) (d : X) → i < length xs
    → set (map f (take i xs) ++ drop i xs) i (f (get_or (map f (take i xs) ++ drop i xs) i d)) ≡ map f (take (i + 1) xs) ++ drop (i + 1) xs
one_further f xs i d within =
    let next : suc i ≡ i + 1 = omega arith in
    further f xs i d within ∙ ap (λ j. map f (take j xs) ++ drop j xs) next
