-- What is left of a list behind so many of its elements.
use Rattle.std.proofs.Common.{◌≡◌, ℕ, zero, suc, List, [], ◌∷◌, drop, slice_get, Option, Some, None, refl, ap}

-- there is an element behind them
pub one_left : {A : Type 0} (xs : List A) (k : ℕ) (x : A) → slice_get xs k ≡ Some x → drop k xs ≡ x ∷ drop (suc k) xs
one_left [] k x h = cc
one_left (y ∷ ys) zero x h = let e : y ≡ x = cc in ap (λ z. z ∷ ys) e
one_left (y ∷ ys) (suc k) x h = one_left ys k x h

-- there is none
pub none_left : {A : Type 0} (xs : List A) (k : ℕ) → slice_get xs k ≡ None → drop (suc k) xs ≡ drop k xs
none_left [] zero h = refl
none_left [] (suc k) h = refl
none_left (y ∷ ys) zero h = cc
none_left (y ∷ ys) (suc k) h = none_left ys k h
