-- Bytes that are all plain: each is one column to the right, and the row stays.
use Rattle.std.proofs.Common.{◌≡◌, ℕ, ◌+◌, ◌<◌, true, false, List, [], ◌∷◌, length, eqb, refl, ap, ◌∙◌, arith}
use Rattle.std.specs.Prelude.{if◌then◌else◌}
use Rattle.std.specs.List.{list_all}
use Rattle.std.proofs.lemmas.Bool.{and_parts, ltb-true, ne_eqb}
use Rattle.mj_semantics.specs.State.{column_after, column_after_byte, row_after, row_after_byte}
use Rattle.mj_open_devices.specs.Opened.{is_plain}

-- a plain byte is none of the three that lead elsewhere
none_of : (b returning : ℕ) → returning < 14 → is_plain b ≡ true → eqb b returning ≡ false
none_of b returning low p = ne_eqb b returning (λ e. absurd (omega (arith, e, low, ltb-true 13 b p)))

one_right : (column b : ℕ) → is_plain b ≡ true → column_after_byte column b ≡ column + 1
one_right column b p =
    ap (λ t. if t then 0 else if eqb b 12 then 0 else if eqb b 13 then 0 else column + 1) (none_of b 10 (omega arith) p)
    ∙ ap (λ t. if t then 0 else if eqb b 13 then 0 else column + 1) (none_of b 12 (omega arith) p)
    ∙ ap (λ t. if t then 0 else column + 1) (none_of b 13 (omega arith) p)

same_row : (row b : ℕ) → is_plain b ≡ true → row_after_byte row b ≡ row
same_row row b p =
    ap (λ t. if t then row + 1 else if eqb b 12 then 0 else row) (none_of b 10 (omega arith) p)
    ∙ ap (λ t. if t then 0 else row) (none_of b 12 (omega arith) p)

pub plain_column : (column : ℕ) (bytes : List ℕ) → list_all is_plain bytes ≡ true → column_after column bytes ≡ column + length bytes
plain_column column [] p = omega arith
plain_column column (b ∷ bytes) p =
    let q = and_parts (is_plain b) (list_all is_plain bytes) p in
    ap (λ c. column_after c bytes) (one_right column b q.0) ∙ plain_column (column + 1) bytes q.1 ∙ omega arith

pub plain_row : (row : ℕ) (bytes : List ℕ) → list_all is_plain bytes ≡ true → row_after row bytes ≡ row
plain_row row [] p = refl
plain_row row (b ∷ bytes) p =
    let q = and_parts (is_plain b) (list_all is_plain bytes) p in
    ap (λ r. row_after r bytes) (same_row row b q.0) ∙ plain_row row bytes q.1
