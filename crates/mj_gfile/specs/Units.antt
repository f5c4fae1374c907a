-- Texts in listing quotes, by their units: a byte as it is spelled, or the closing quote.
use Rattle.std.specs.Prelude.{◌≡◌, ◌<◌, ℕ, List, [], length, Option, None, Some}
use Rattle.mj_gfile.specs.Reading.{Whole, preceded, quoted_at}

-- what is read where a unit stands at the front: a byte, or none for the closing quote, and what follows it
abbrev pub unit_of : Option ℕ × List ℕ → Option (List ℕ × List ℕ)
unit_of (None, rest) = Some ([], rest)
unit_of (Some c, rest) = preceded c (quoted_at Whole rest)

-- a unit is shorter than the bytes at whose front it stands, but for the closing quote, which may stand before them
abbrev pub IsShorter : List ℕ → Option ℕ × List ℕ → Type 0
IsShorter bs (None, rest) = Unit {0}
IsShorter bs (Some c, rest) = length rest < length bs

-- what is read of the bytes bs is what the unit says
pub record IsUnit (read : Option (List ℕ × List ℕ)) (bs : List ℕ) (u : Option ℕ × List ℕ) : Type 0 where
  pub reads : read ≡ unit_of u
  pub shorter : IsShorter bs u

-- what is read of the bytes bs is what the unit says, where there is one
abbrev pub IsUnitOf : Option (List ℕ × List ℕ) → List ℕ → Option (Option ℕ × List ℕ) → Type 0
IsUnitOf read bs None = read ≡ None
IsUnitOf read bs (Some u) = IsUnit read bs u
