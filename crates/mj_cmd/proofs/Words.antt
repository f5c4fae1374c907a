-- Words in any case.
use Rattle.std.proofs.Common.{◌≡◌, ℕ, ◌≤◌, nat_le, List, [], ◌∷◌, refl, ap, ◌∙◌, Bool, true, false, arith, map}
use Rattle.std.specs.Prelude.{◌&&◌, IsTrue, bytes_eq, ◌↔◌}
use Rattle.std.specs.Char.{to_ascii_lowercase}
use Rattle.std.proofs.lemmas.Slice.Eq.{bytes_eq-Decides}
use Rattle.std.proofs.lemmas.Bool.Decides.{nat_tests, same_from_decides}
use Rattle.mj_ast.specs.Commands.{capital}
use Rattle.mj_cmd.specs.Words.{are_capitals}

same_head : (a b : ℕ) (xs ys : List ℕ) → a ∷ xs ≡ b ∷ ys → a ≡ b
same_head a b xs ys e = cc

same_tail : (a b : ℕ) (xs ys : List ℕ) → a ∷ xs ≡ b ∷ ys → xs ≡ ys
same_tail a b xs ys e = cc

and_first : (a b : Bool) → a && b ≡ true → a ≡ true
and_first true b e = refl
and_first false b e = e

and_second : (a b : Bool) → a && b ≡ true → b ≡ true
and_second true b e = e
and_second false b e = absurd (let f : false ≡ true = e in cc)

at_least : (b : ℕ) → nat_le 65 b && nat_le b 90 ≡ true → 65 ≤ b
at_least b h = let i = and_first (nat_le 65 b) (nat_le b 90) h in grind (arith, nat_tests)

at_most : (b : ℕ) → nat_le 65 b && nat_le b 90 ≡ true → b ≤ 90
at_most b h = let i = and_second (nat_le 65 b) (nat_le b 90) h in grind (arith, nat_tests)

one_down : (a b : ℕ) → 65 ≤ b → b ≤ 90 → to_ascii_lowercase a ≡ to_ascii_lowercase b → capital a ≡ b
one_down a b l h e = grind (arith, nat_tests)

one_up : (a b : ℕ) → 65 ≤ b → b ≤ 90 → capital a ≡ b → to_ascii_lowercase a ≡ to_ascii_lowercase b
one_up a b l h e = grind (arith, nat_tests)

down : (w s : List ℕ) → are_capitals s ≡ true → map to_ascii_lowercase w ≡ map to_ascii_lowercase s → map capital w ≡ s
down [] [] h e = refl
down [] (b ∷ s) h e = absurd (let f : [] ≡ to_ascii_lowercase b ∷ map to_ascii_lowercase s = e in cc)
down (a ∷ w) [] h e = absurd (let f : to_ascii_lowercase a ∷ map to_ascii_lowercase w ≡ [] = e in cc)
down (a ∷ w) (b ∷ s) h e =
    let i = and_first (nat_le 65 b && nat_le b 90) (are_capitals s) h in
    ap (λ (x : ℕ). x ∷ map capital w) (one_down a b (at_least b i) (at_most b i) (same_head _ _ _ _ e))
    ∙ ap (λ (xs : List ℕ). b ∷ xs) (down w s (and_second (nat_le 65 b && nat_le b 90) (are_capitals s) h) (same_tail _ _ _ _ e))

up : (w s : List ℕ) → are_capitals s ≡ true → map capital w ≡ s → map to_ascii_lowercase w ≡ map to_ascii_lowercase s
up [] [] h e = refl
up [] (b ∷ s) h e = absurd (let f : [] ≡ b ∷ s = e in cc)
up (a ∷ w) [] h e = absurd (let f : capital a ∷ map capital w ≡ [] = e in cc)
up (a ∷ w) (b ∷ s) h e =
    let i = and_first (nat_le 65 b && nat_le b 90) (are_capitals s) h in
    ap (λ (x : ℕ). x ∷ map to_ascii_lowercase w) (one_up a b (at_least b i) (at_most b i) (same_head (capital a) b (map capital w) s e))
    ∙ ap (λ (xs : List ℕ). to_ascii_lowercase b ∷ xs) (up w s (and_second (nat_le 65 b && nat_le b 90) (are_capitals s) h) (same_tail (capital a) b (map capital w) s e))

pub spelled : (w s : List ℕ) (r : Bool) → IsTrue (are_capitals s) → (IsTrue r ↔ (map to_ascii_lowercase w ≡ map to_ascii_lowercase s)) → r ≡ bytes_eq (map capital w) s
spelled w s r h t =
    let c : are_capitals s ≡ true = h in
    same_from_decides r (bytes_eq (map capital w) s)
    (λ e. down w s c (t.0 e), λ e. t.1 (up w s c e))
    (bytes_eq-Decides (map capital w) s)
