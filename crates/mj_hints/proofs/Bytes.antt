-- Parts of the bytes around a column.
use Rattle.std.proofs.Common.{◌≡◌, ◌≢◌, ℕ, ◌-◌, Bool, List, [], ◌∷◌, ◌++◌, length, take, drop, refl, ap, sym, ◌∙◌, subst, arith}
use Rattle.std.specs.Prelude.{◌==◌, ◌||◌, take_while}
use Rattle.std.proofs.lemmas.Bool.{ne_eqb}
use Rattle.std.proofs.lemmas.List.{take_all, length-drop}
use Rattle.std.proofs.lemmas.List.Folds.{length-prefix_len}
use Rattle.mj_hints.specs.Hints.{is_dot_byte, is_no_colon, command_part, ends_joint, joins, joins_or_opens}

-- the front of some bytes that pass
part_taken : (p : ℕ → Bool) (xs : List ℕ) (n : ℕ) → n ≡ length (take_while p xs) → take n xs ≡ take_while p xs
part_taken p xs n h = ap (λ (k : ℕ). take k xs) (h ∙ length-prefix_len p xs)

-- the word of a command, by how many dots stand before it, and how many bytes before a `:`
pub command_taken : (part : List ℕ) (dots count : ℕ) → dots ≡ length (take_while is_dot_byte part)
    → count ≡ length (take_while is_no_colon (take (length part - dots) (drop dots part))) → take count (take (length part - dots) (drop dots part)) ≡ command_part part
command_taken part dots count d n =
    let all : take (length part - dots) (drop dots part) ≡ drop dots part = take_all (length part - dots) (drop dots part) (omega (arith, length-drop dots part)) in
    part_taken is_no_colon (take (length part - dots) (drop dots part)) count n ∙ ap (λ (xs : List ℕ). take_while is_no_colon xs) all
    ∙ ap (λ (k : ℕ). take_while is_no_colon (drop k part)) d

-- the last byte
ends_last : (rest : List ℕ) (b : ℕ) → ends_joint (rest ++ b ∷ []) ≡ joins_or_opens b
ends_last [] b = refl
ends_last (c ∷ []) b = refl
ends_last (c ∷ d ∷ rest) b = ends_last (d ∷ rest) b

pub opens_last : (before rest : List ℕ) (b : ℕ) → before ≡ rest ++ b ∷ [] → b ≡ 40 → (b == 40) ≡ ends_joint before
opens_last before rest b e o =
    let P : ℕ → Type 0 = λ x. (x == 40) ≡ joins_or_opens x in
    subst P (sym o) refl ∙ sym (ap (λ (xs : List ℕ). ends_joint xs) e ∙ ends_last rest b)

pub joins_last : (before rest : List ℕ) (b : ℕ) → before ≡ rest ++ b ∷ [] → b ≢ 40 → joins b ≡ ends_joint before
joins_last before rest b e o =
    sym (ap (λ (x : Bool). x || joins b) (ne_eqb b 40 o)) ∙ sym (ap (λ (xs : List ℕ). ends_joint xs) e ∙ ends_last rest b)
