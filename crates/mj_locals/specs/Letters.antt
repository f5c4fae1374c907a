-- Words with their places, of which those of one letter are known by the letter.
use Rattle.std.specs.Prelude.{◌≡◌, ℕ, ◌+◌, ◌<◌, List, [], ◌∷◌, Option, Some, Vec, get_or, length, slice_set, ◌⊎◌}
use Rattle.std.specs.Global.{Global}
use Rattle.std.specs.Ordering.{nat_cmp}
use Rattle.std.specs.Cmp.Lexicographic.{slice_cmp}
use Rattle.std.specs.Map.{lookup}
use Rattle.std.specs.BTreeMap.{is_at}

-- the place of a word
abbrev pub place_in : List ℕ → List (Vec ℕ Global × ℕ) → Option ℕ
place_in w entries = lookup (is_at (λ (k : Vec ℕ Global). slice_cmp nat_cmp w k.items)) entries

-- where a letter leads to a place, which is one less, the word that it is has that place
abbrev pub AreLed : List ℕ → List (Vec ℕ Global × ℕ) → Type 0
AreLed letters entries = (letter p : ℕ) → get_or letters letter 0 ≡ p + 1 → place_in (letter ∷ []) entries ≡ Some p

-- a letter leads to a place now, or nothing has changed
abbrev pub IsLeading : ℕ → ℕ → List ℕ → List ℕ → Type 0
IsLeading letter place old new = (letter < length old) × (new ≡ slice_set old letter (place + 1)) ⊎ (new ≡ old)
