-- Two whole numbers are equal exactly where their spellings are.
use Rattle.std.proofs.Common.{◌≡◌, ℕ, ℤ, pos, negsuc, ◌<◌, ◌^◌, nat_eq, List, [], length, w64, FitsSigned, to_z, of_z, sym, ap, ◌∙◌, arith}
use Rattle.std.proofs.lemmas.Bool.{eqb-true, eq-eqb}
use Rattle.std.proofs.lemmas.Fmt.{decimal_nonempty, signed_decimal_injective}
use Rattle.std.proofs.lemmas.Int.{ints, to_z-of_z}
use Rattle.std.specs.Bool.{Decides}
use Rattle.std.specs.Fmt.{signed_decimal}
use Rattle.std.specs.Int.Signed.{mag}
use Rattle.mj_text.specs.Kept.{IsWhole}

pub mag-IsWhole : (n : ℤ) → IsWhole n → mag n < 2 ^ 63
mag-IsWhole (pos n) h = omega (arith, ints)
mag-IsWhole (negsuc n) h = omega (arith, ints)

pub fits-IsWhole : (n : ℤ) → IsWhole n → FitsSigned w64 n
fits-IsWhole n h = omega (arith, ints)

-- the test of two numbers that a text each spells
pub Decides-spelled : (m n : ℤ) (xs ys : List ℕ) → IsWhole m → IsWhole n → signed_decimal m ≡ xs → signed_decimal n ≡ ys → Decides (nat_eq (of_z w64 m) (of_z w64 n)) (xs ≡ ys)
Decides-spelled m n xs ys hm hn spells_m spells_n = (
  λ same. sym spells_m ∙ ap signed_decimal (sym (to_z-of_z w64 m (fits-IsWhole m hm)) ∙ ap (to_z w64) (eqb-true _ _ same) ∙ to_z-of_z w64 n (fits-IsWhole n hn)) ∙ spells_n,
  λ equal. eq-eqb _ _ (ap (of_z w64) (signed_decimal_injective m n (mag-IsWhole m hm) (mag-IsWhole n hn) (spells_m ∙ equal ∙ sym spells_n))),
)

-- a number has a digit at least
pub not_empty : (n : ℤ) → IsWhole n → signed_decimal n ≡ [] → ⊥
not_empty (pos n) h e = omega (arith, ints, decimal_nonempty n (omega (arith, ints, h)), ap length e)
not_empty (negsuc n) h e = omega (arith, ap length e)
