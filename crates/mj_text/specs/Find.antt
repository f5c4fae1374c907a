-- Where a text stands in another.
use Rattle.std.specs.Prelude.{ℕ, ◌+◌, nat_le, nat_eq, List, [], ◌∷◌, Option, Some, None, length, drop, if◌then◌else◌}
use Rattle.std.specs.Option.{option_map}
use Rattle.std.specs.List.{starts_with}

-- the least place at which `part` stands in a list of bytes: 0 where the list starts with it, else one more than in the rest
abbrev pub first_place : List ℕ → List ℕ → Option ℕ
first_place part [] = if starts_with nat_eq [] part then Some 0 else None
first_place part (x ∷ xs) = if starts_with nat_eq (x ∷ xs) part then Some 0 else option_map (λ k. k + 1) (first_place part xs)

-- the least place from `start` on at which `part` stands in the text, if there is one
abbrev pub find_from : List ℕ → List ℕ → ℕ → Option ℕ
find_from text part start = if nat_le start (length text) then option_map (λ k. k + start) (first_place part (drop start text)) else None
