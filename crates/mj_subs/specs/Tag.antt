-- How a subscript is tagged.
use Rattle.std.specs.Prelude.{◌≡◌, ℕ, ℤ, true, false, List, Option, Some, None}
use Rattle.mj_num.specs.Number.{number_of, is_canonic}

-- a canonic text is tagged with its number, and every other text with none
abbrev pub IsTag : List ℕ → Option ℤ → Type 0
IsTag text None = is_canonic text ≡ false
IsTag text (Some n) = (is_canonic text ≡ true) × (n ≡ number_of text)
