-- Bytes that aren't too many are a text.
use Rattle.std.proofs.Common.{◌≡◌, ◌<◌, ◌≤◌, ◌&&◌, suc, ℕ, true, List, [], ◌∷◌, length, get_or, refl, arith}
use Rattle.std.specs.Prelude.{nat_lt, nat_le}
use Rattle.std.proofs.lemmas.Bool.Decides.{nat_tests}
use Rattle.mj_text.specs.declared.text.TheConstants.{TEXT_LIMIT}
use Rattle.mj_text.specs.declared.limit.Limit.TheVariants.{V2}
use Rattle.mj_gfile.specs.Listing.{is_short, are_bytes, is_text}

byte_below : (c : ℕ) → c < 256 → nat_lt c 256 ≡ true
byte_below c h = grind (arith, nat_tests)

limit_kept : (n : ℕ) → n ≤ TEXT_LIMIT → nat_le n TEXT_LIMIT ≡ true
limit_kept n h = grind (arith, nat_tests)

all_below : (t : List ℕ) → ((i : ℕ) → i < length t → get_or t i 0 < 256) → are_bytes t ≡ true
all_below [] h = refl
all_below (c ∷ t) h =
    let first = byte_below c (h 0 (omega arith)) in
    let rest = all_below t (λ i l. h (suc i) (omega (arith, l))) in
    λ i. first i && rest i

pub is_text_within : (t : List ℕ) → length t ≤ TEXT_LIMIT → ((i : ℕ) → i < length t → get_or t i 0 < 256) → is_text V2 t ≡ true
is_text_within t few h =
    let short : is_short V2 t ≡ true = limit_kept (length t) few in
    let bytes = all_below t h in
    λ i. short i && bytes i
