-- The pieces of a text between the occurrences of a separator.
use Rattle.std.specs.Prelude.{◌≡◌, ◌<◌, ℕ, zero, suc, ◌-◌, nat_eq, List, [], ◌∷◌, ◌++◌, length, take, drop, if◌then◌else◌}
use Rattle.std.specs.List.{starts_with, onto_first}

-- the pieces of what stands behind the first `skip` bytes: where the separator stands a piece ends and its bytes are passed
-- over, and any other byte is one of the piece that it stands in
abbrev pub pieces_behind : List ℕ → ℕ → List ℕ → List (List ℕ)
pieces_behind d skip [] = [] ∷ []
pieces_behind d (suc skip) (x ∷ xs) = pieces_behind d skip xs
pieces_behind d zero (x ∷ xs) =
    if starts_with nat_eq (x ∷ xs) d then [] ∷ pieces_behind d (length d - 1) xs else onto_first x (pieces_behind d 0 xs)

-- the pieces of a text between the occurrences of a separator, taken from the left, none of which overlaps the one before;
-- there is one piece at least. The separator isn't empty.
abbrev pub pieces : List ℕ → List ℕ → List (List ℕ)
pieces d s = pieces_behind d 0 s

-- pieces, one after the other, with the separator between each two
abbrev pub joined : List ℕ → List (List ℕ) → List ℕ
joined d [] = []
joined d (p ∷ []) = p
joined d (p ∷ q ∷ ps) = p ++ d ++ joined d (q ∷ ps)

-- pieces, each with the separator behind it
abbrev pub ended : List ℕ → List (List ℕ) → List ℕ
ended d [] = []
ended d (p ∷ ps) = p ++ d ++ ended d ps

-- r is what stands in s behind the first k pieces and their separators
pub record IsBehind (d s : List ℕ) (k : ℕ) (r : List ℕ) : Type 0 where
  pub rest : pieces d r ≡ drop k (pieces d s)
  pub whole : s ≡ ended d (take k (pieces d s)) ++ r

-- r is what stands in s behind its first piece and the separator
pub record IsBehindFirst (d s r : List ℕ) : Type 0 where
  pub piece : List ℕ
  pub first : pieces d s ≡ piece ∷ pieces d r
  pub whole : s ≡ piece ++ d ++ r
  pub less : length r < length s
