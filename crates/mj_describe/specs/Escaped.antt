-- Texts in a page: the bytes that mean something to a browser are spelled otherwise.
use Rattle.std.specs.Prelude.{ℕ, ◌==◌, ◌&&◌, ◌||◌, nat_lt, List, [], ◌∷◌, ◌++◌, codes, if◌then◌else◌}

-- a byte: `"` is 34, `&` 38, `<` 60, `>` 62; one that isn't printed, but for byte 10, is `?`
abbrev pub escaped_byte : ℕ → List ℕ
escaped_byte b =
    if b == 38 then codes "&amp;"
    else (if b == 60 then codes "&lt;"
    else (if b == 62 then codes "&gt;"
    else (if b == 34 then codes "&quot;"
    else (if (b == 10) || (nat_lt 31 b && nat_lt b 127) then b ∷ [] else codes "?"))))

abbrev pub escaped : List ℕ → List ℕ
escaped [] = []
escaped (b ∷ bs) = escaped_byte b ++ escaped bs
