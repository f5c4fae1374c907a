-- Ends, one after the other.
use Rattle.std.proofs.Common.{◌≡◌, ℕ, suc, ◌+◌, List, [], ◌∷◌, ◌++◌, map, refl, sym, ap, ◌∙◌, subst, arith}
use Rattle.std.proofs.lemmas.List.{map-append}
use Rattle.mj_explore.specs.Ends.{output_text, outputs_of, noted, different_behind, different}

-- what one job more wrote
pub outputs_on : (output : ℕ → List ℕ) (done : ℕ) (front bytes more : List ℕ) → bytes ≡ front ++ outputs_of output done
    → more ≡ bytes ++ output_text (done + 1) (output (done + 1)) → more ≡ front ++ outputs_of output (done + 1)
outputs_on output done front bytes more h e =
    let next : suc done ≡ done + 1 = omega arith in
    let line : ℕ → List ℕ = λ n. output_text n (output n) in
    let P : ℕ → Type 0 = λ n. more ≡ front ++ outputs_of output n in
    let Q : ℕ → Type 0 = λ n. more ≡ bytes ++ line n in
    subst P next
    (subst Q (sym next) e ∙ ap (λ xs. xs ++ line (suc done)) h ∙ assoc front (outputs_of output done) (line (suc done)))
  where
    assoc : (xs ys zs : List ℕ) → (xs ++ ys) ++ zs ≡ xs ++ (ys ++ zs)
    assoc [] ys zs = refl
    assoc (x ∷ xs) ys zs = ap (λ l. x ∷ l) (assoc xs ys zs)

behind_more : (seen texts : List (List ℕ)) (text : List ℕ) → different_behind seen (texts ++ text ∷ []) ≡ noted (different_behind seen texts) text
behind_more seen [] text = refl
behind_more seen (t ∷ texts) text = behind_more (noted seen t) texts text

-- one end more
pub one_more : {X : Type 0} (f : X → List ℕ) (xs : List X) (x : X) → different (map f (xs ++ x ∷ [])) ≡ noted (different (map f xs)) (f x)
one_more f xs x = ap different (map-append f xs (x ∷ [])) ∙ behind_more [] (map f xs) (f x)
