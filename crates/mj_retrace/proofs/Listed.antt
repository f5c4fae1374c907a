-- Lists that grow by one.
use Rattle.std.specs.Prelude.{slice_get}
use Rattle.std.proofs.Common.{◌≡◌, ℕ, zero, suc, ◌≤◌, ◌⊎◌, inl, inr, List, [], ◌∷◌, ◌++◌, length, take, Some, refl, ap, arith}
use Rattle.std.proofs.lemmas.Option.{none-some, same_Some}

-- the last item
pub get_last : {A : Type 0} (xs : List A) (x : A) → slice_get (xs ++ x ∷ []) (length xs) ≡ Some x
get_last [] x = refl
get_last (y ∷ xs) x = get_last xs x

-- an item before it
pub get_front : {A : Type 0} (xs : List A) (x : A) (k : ℕ) (y : A) → slice_get xs k ≡ Some y → slice_get (xs ++ x ∷ []) k ≡ Some y
get_front [] x k y is = absurd (none-some y is)
get_front (z ∷ xs) x zero y is = is
get_front (z ∷ xs) x (suc k) y is = get_front xs x k y is

-- each item is one of those before the last, or the last
pub get_cases : {A : Type 0} (xs : List A) (x : A) (k : ℕ) (y : A) → slice_get (xs ++ x ∷ []) k ≡ Some y → (slice_get xs k ≡ Some y) ⊎ ((k ≡ length xs) × (x ≡ y))
get_cases [] x zero y is = inr (refl, same_Some x y is)
get_cases [] x (suc k) y is = absurd (none-some y is)
get_cases (z ∷ xs) x zero y is = inl is
get_cases (z ∷ xs) x (suc k) y is = by (get_cases xs x k y is)
  where
    by : (slice_get xs k ≡ Some y) ⊎ ((k ≡ length xs) × (x ≡ y)) → (slice_get (z ∷ xs) (suc k) ≡ Some y) ⊎ ((suc k ≡ length (z ∷ xs)) × (x ≡ y))
    by (inl front) = inl front
    by (inr last) = inr (ap suc last.0, last.1)

-- a number is at most n, or the next one
pub less_or_next : (m n : ℕ) → m ≤ suc n → (m ≤ n) ⊎ (m ≡ suc n)
less_or_next zero n le = inl (omega arith)
less_or_next (suc m) zero le = inr (omega (arith, le))
less_or_next (suc m) (suc n) le = by (less_or_next m n (omega (arith, le)))
  where
    by : (m ≤ n) ⊎ (m ≡ suc n) → (suc m ≤ suc n) ⊎ (suc m ≡ suc (suc n))
    by (inl less) = inl (omega (arith, less))
    by (inr next) = inr (ap suc next)

pub take_whole : {A : Type 0} (xs : List A) → take (length xs) xs ≡ xs
take_whole [] = refl
take_whole (x ∷ xs) = ap (λ l. x ∷ l) (take_whole xs)

pub take_front : {A : Type 0} (xs : List A) (x : A) → take (length xs) (xs ++ x ∷ []) ≡ xs
take_front [] x = refl
take_front (y ∷ xs) x = ap (λ l. y ∷ l) (take_front xs x)

pub take_next : {A : Type 0} (xs : List A) (x : A) → take (suc (length xs)) (xs ++ x ∷ []) ≡ xs ++ x ∷ []
take_next [] x = refl
take_next (y ∷ xs) x = ap (λ l. y ∷ l) (take_next xs x)
