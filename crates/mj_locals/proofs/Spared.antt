-- What stays when all words are emptied but some.
use Rattle.std.proofs.Common.{◌≡◌, ℕ, ◌<◌, zero, suc, Bool, true, false, cond, if◌then◌else◌, List, [], ◌∷◌, length, refl, ap, ◌∙◌, arith}
use Rattle.std.specs.Prelude.{slice_set}
use Rattle.std.specs.List.{list_any}
use Rattle.std.specs.Str.{bytes_eq}
use Rattle.mj_store.specs.Questions.{Subtree}
use Rattle.mj_locals.specs.Trees.{Trees, word_at, all_spared}

-- the same at the first so many places
abbrev pub first_spared : List (List ℕ) → ℕ → Trees → Trees
first_spared ws zero ts = ts
first_spared ws (suc n) [] = []
first_spared ws (suc n) (k ∷ ks) = (k.0, cond (list_any (bytes_eq k.0) ws) k.1 []) ∷ first_spared ws n ks

pub length_spared : (ws : List (List ℕ)) (n : ℕ) (ts : Trees) → length (first_spared ws n ts) ≡ length ts
length_spared ws zero ts = refl
length_spared ws (suc n) [] = refl
length_spared ws (suc n) (k ∷ ks) = ap suc (length_spared ws n ks)

pub all_are_spared : (ws : List (List ℕ)) (ts : Trees) → first_spared ws (length ts) ts ≡ all_spared ws ts
all_are_spared ws [] = refl
all_are_spared ws (k ∷ ks) = ap (λ (r : Trees). (k.0, cond (list_any (bytes_eq k.0) ws) k.1 []) ∷ r) (all_are_spared ws ks)

-- one more place
pub next_spared : (ws : List (List ℕ)) (n : ℕ) (ts : Trees) → n < length ts
    → (if list_any (bytes_eq (word_at (first_spared ws n ts) n)) ws then first_spared ws n ts else slice_set (first_spared ws n ts) n (word_at (first_spared ws n ts) n, []))
    ≡ first_spared ws (suc n) ts
next_spared ws n [] h = absurd (omega arith)
next_spared ws zero (k ∷ ks) h =
    elim (list_any (bytes_eq k.0) ws) as (λ b. (if b then k ∷ ks else (k.0, []) ∷ ks) ≡ (k.0, cond b k.1 []) ∷ ks) [ true ↦ refl | false ↦ refl ]
next_spared ws (suc n) (k ∷ ks) h =
    let r = first_spared ws n ks in
    let front : List ℕ × Subtree = (k.0, cond (list_any (bytes_eq k.0) ws) k.1 []) in
    push (list_any (bytes_eq (word_at r n)) ws) front r (slice_set r n (word_at r n, []))
    ∙ ap (λ (x : Trees). front ∷ x) (next_spared ws n ks (omega arith))
  where
    push : (b : Bool) (f : List ℕ × Subtree) (x y : Trees) → (if b then f ∷ x else f ∷ y) ≡ f ∷ (if b then x else y)
    push true f x y = refl
    push false f x y = refl
