-- The table of `$TRANSLATE`.
use Rattle.std.specs.Prelude.{◌≡◌, ◌<◌, ℕ, List, [], ◌∷◌, slice_index_or}
use Rattle.std.specs.List.{flat_map}
use Rattle.mj_strfn.specs.declared.translation.Becomes.{Becomes}
use Rattle.mj_strfn.specs.declared.translation.Becomes.TheVariants.{Itself, Byte, Nothing}
use Rattle.mj_strfn.specs.Functions.{becomes}

-- what a byte becomes
abbrev pub bytes_of : Becomes → ℕ → List ℕ
bytes_of Itself c = c ∷ []
bytes_of (Byte b) c = b ∷ []
bytes_of Nothing c = []

-- the table has what becomes of each byte
abbrev pub IsTable : List ℕ → List ℕ → List Becomes → Type 0
IsTable a b table = (c : ℕ) → c < 256 → bytes_of (slice_index_or table c Itself) c ≡ becomes a b c

-- what a table makes of bytes
abbrev pub translated_by : List Becomes → List ℕ → List ℕ
translated_by table s = flat_map (λ c. bytes_of (slice_index_or table c Itself) c) s
