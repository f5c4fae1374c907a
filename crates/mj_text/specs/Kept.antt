-- How a text is kept, and which list of bytes that is.
use Rattle.std.specs.Prelude.{ℕ, ℤ, pos, negsuc, ◌≤◌, ◌≤ℤ◌, List, length}
use Rattle.std.specs.Arc.{arc_value}
use Rattle.std.specs.Fmt.{signed_decimal}
use Rattle.mj_text.specs.declared.text.TheConstants.{TEXT_LIMIT}
use Rattle.mj_text.specs.declared.short.TheConstants.{SHORT_LIMIT}
use Rattle.mj_text.specs.declared.text.Kept.{Kept}
use Rattle.mj_text.specs.declared.text.Kept.TheVariants.{Number, Short, Long}
use Rattle.mj_text.specs.Short.{short_bytes}

-- a whole number of the language: at most 10^18 - 1 in magnitude (this profile)
abbrev pub IsWhole : ℤ → Type 0
IsWhole n = (negsuc 999999999999999998 ≤ℤ n) × (n ≤ℤ pos 999999999999999999)

-- the bytes of a text: those of a number are its decimal spelling
abbrev pub bytes_of : Kept → List ℕ
bytes_of (Number n) = signed_decimal n
bytes_of (Short s) = short_bytes s
bytes_of (Long shared) = (arc_value shared).items

-- what is kept is a whole number, or bytes within the limit
abbrev pub IsTextWithin : Kept → Type 0
IsTextWithin (Number n) = IsWhole n
IsTextWithin (Short s) = s.len ≤ SHORT_LIMIT
IsTextWithin (Long shared) = length ((arc_value shared).items) ≤ TEXT_LIMIT
