-- The bytes in front that pass a test.
use Rattle.std.proofs.Common.{◌≡◌, ℕ, suc, ◌+◌, Bool, true, false, List, [], ◌∷◌, length, take, take_while, refl, ap, sym, ◌∙◌, arith}
use Rattle.std.proofs.lemmas.List.Sums.{take_while-cons}
use Rattle.std.specs.Prelude.{cond}

taken_on : (b : Bool) (x : ℕ) (xs ys : List ℕ) → take (length ys) xs ≡ ys → take (length (cond b (x ∷ ys) [])) (x ∷ xs) ≡ cond b (x ∷ ys) []
taken_on true x xs ys h = ap (λ (zs : List ℕ). x ∷ zs) h
taken_on false x xs ys h = refl

pub front_taken : (p : ℕ → Bool) (xs : List ℕ) → take (length (take_while p xs)) xs ≡ take_while p xs
front_taken p [] = refl
front_taken p (x ∷ xs) =
    let one = take_while-cons p x xs in
    ap (λ (ys : List ℕ). take (length ys) (x ∷ xs)) one ∙ taken_on (p x) x xs (take_while p xs) (front_taken p xs) ∙ sym one

-- a first byte, and those behind it that pass
pub first_and_front : (p : ℕ → Bool) (bytes : List ℕ) (x : ℕ) (xs : List ℕ) (n : ℕ) → bytes ≡ x ∷ xs → n ≡ length (take_while p xs) → take (n + 1) bytes ≡ x ∷ take_while p xs
first_and_front p bytes x xs n e h =
    let m : n + 1 ≡ suc n = omega arith in
    ap (take (n + 1)) e ∙ ap (λ (k : ℕ). take k (x ∷ xs)) m ∙ ap (λ (k : ℕ). x ∷ take k xs) h ∙ ap (λ (zs : List ℕ). x ∷ zs) (front_taken p xs)
